use Rattle.planner.proofs.Indexing.{none_left}
use Rattle.planner.proofs.uses.NextUses.none.Goals as goal

pub returns : goal.returns
returns c = none_left _ _ _ _ c.blank.ensures c.len.ensures.requests
