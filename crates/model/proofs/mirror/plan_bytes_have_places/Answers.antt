use Rattle.model.proofs.mirror.plan_bytes_have_places.Goals as goal
use Rattle.model.proofs.Letters.{step_letter, plan_size}

pub returns : goal.returns
returns c = record { letters = step_letter; sized = plan_size }
