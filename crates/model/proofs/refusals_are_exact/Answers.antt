use Rattle.model.proofs.refusals_are_exact.Goals as goal
use Rattle.model.proofs.Refused.{refuses_exactly}

pub returns : goal.returns
returns c = refuses_exactly
