use Rattle.std.proofs.Common.{arith}
use Rattle.sheet.proofs.Turns.{turn_front, granted}
use Rattle.sheet.proofs.draft.Draft.next.Goals as goal

pub returns-clause-turn : goal.returns-clause-turn
returns-clause-turn c =
    let found = granted c.letter.result c.map_err.result c.in_ok-letter.letter _ _ _ c.map_err.ensures.variant c.map_err.ensures.cases c.in_ok-letter.was c.letter.ensures in
    λ s e. rw c.ok_or.ensures.value (turn_front _ _ s _ c.in_ok-letter.letter c.front.result (omega arith) e found.1 found.0 c.front.ensures.command)
