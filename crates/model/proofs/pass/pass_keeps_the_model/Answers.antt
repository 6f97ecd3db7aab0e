use Rattle.model.proofs.pass.pass_keeps_the_model.Goals as goal
use Rattle.model.proofs.Passing.{pass_keeps}

pub returns : goal.returns
returns c = pass_keeps
