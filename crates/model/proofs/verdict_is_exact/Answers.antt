use Rattle.model.proofs.verdict_is_exact.Goals as goal
use Rattle.model.proofs.Exact.{accepts_exactly}

pub returns : goal.returns
returns c = accepts_exactly
