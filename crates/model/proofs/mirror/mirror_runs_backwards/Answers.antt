use Rattle.model.proofs.mirror.mirror_runs_backwards.Goals as goal
use Rattle.model.proofs.Twice.{closing_content, mirror_order}

pub returns : goal.returns
returns c = record { closing = closing_content; order = mirror_order }
