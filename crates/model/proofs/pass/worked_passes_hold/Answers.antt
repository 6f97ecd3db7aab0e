use Rattle.model.proofs.pass.worked_passes_hold.Goals as goal
use Rattle.model.proofs.PassRows.{worked_passes}

pub returns : goal.returns
returns c = worked_passes
