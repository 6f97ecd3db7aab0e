use Rattle.model.proofs.pass.mirrored_pass_replays.Goals as goal
use Rattle.model.proofs.Replaying.{pass_replays}

pub returns : goal.returns
returns c = pass_replays
