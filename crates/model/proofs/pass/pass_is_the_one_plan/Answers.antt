use Rattle.model.proofs.pass.pass_is_the_one_plan.Goals as goal
use Rattle.model.proofs.Exactly.{pass_follows}

pub returns : goal.returns
returns c = pass_follows
