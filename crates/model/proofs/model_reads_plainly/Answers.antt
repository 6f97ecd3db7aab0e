use Rattle.model.proofs.model_reads_plainly.Goals as goal
use Rattle.model.proofs.Plainly.{plain_reading}

pub returns : goal.returns
returns c = plain_reading
