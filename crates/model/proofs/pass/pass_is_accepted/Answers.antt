use Rattle.model.proofs.pass.pass_is_accepted.Goals as goal
use Rattle.model.proofs.Replaying.{pass_accepted}

pub returns-clause-accepted : goal.returns-clause-accepted
returns-clause-accepted c = pass_accepted
