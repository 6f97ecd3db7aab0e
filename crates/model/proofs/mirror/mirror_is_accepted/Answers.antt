use Rattle.model.proofs.mirror.mirror_is_accepted.Goals as goal
use Rattle.model.proofs.Sizes.{mirror_written, mirror_accepted}

pub returns : goal.returns
returns c = record { written = mirror_written; accepted = mirror_accepted }
