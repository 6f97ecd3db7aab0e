use Rattle.model.proofs.mirror.mirror_keeps_the_model.Goals as goal
use Rattle.model.proofs.Mirroring.{mirror_keeps, mirror_alike}

pub returns : goal.returns
returns c = record { kept = mirror_keeps; alike = mirror_alike }
