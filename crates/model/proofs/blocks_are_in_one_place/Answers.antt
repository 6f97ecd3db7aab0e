use Rattle.model.proofs.blocks_are_in_one_place.Goals as goal
use Rattle.model.proofs.Places.{one_place}

pub returns : goal.returns
returns c = one_place
