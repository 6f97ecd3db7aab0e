use Rattle.model.proofs.mirror.mirror_is_as_long.Goals as goal
use Rattle.model.proofs.Sizes.{mirror_size}

pub returns : goal.returns
returns c = mirror_size
