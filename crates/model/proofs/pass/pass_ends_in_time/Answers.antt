use Rattle.model.proofs.pass.pass_ends_in_time.Goals as goal
use Rattle.model.proofs.Passing.{pass_ends}

pub returns : goal.returns
returns c = pass_ends
