use Rattle.model.proofs.mirror.mirror_twice_is_the_plan.Goals as goal
use Rattle.model.proofs.Twice.{mirror_twice}

pub returns : goal.returns
returns c = mirror_twice
