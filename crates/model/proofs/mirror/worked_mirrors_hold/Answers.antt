use Rattle.model.proofs.mirror.worked_mirrors_hold.Goals as goal
use Rattle.model.proofs.Images.{worked_mirrors}

pub returns : goal.returns
returns c = worked_mirrors
