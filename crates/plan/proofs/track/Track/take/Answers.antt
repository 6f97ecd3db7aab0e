use Rattle.std.proofs.Common.{length, take}
use Rattle.plan.proofs.track.Track.take.Goals as goal

pub returns-in-Opens-clause-answer : goal.returns-in-Opens-clause-answer
returns-in-Opens-clause-answer g c = let l = c.args.list.now in rw c.in-Opens.is (c.open.ensures.answer.found g.S.Lane.side (length l.slots.now) (take l.len l.slots.now))

pub returns-in-Serves-clause-answer : goal.returns-in-Serves-clause-answer
returns-in-Serves-clause-answer g c = let l = c.args.list.now in rw c.in-Serves.is (c.serve.ensures.answer.found g.S.Lane.side (length l.slots.now) (take l.len l.slots.now))

pub returns-in-Waits-clause-answer : goal.returns-in-Waits-clause-answer
returns-in-Waits-clause-answer g c = let l = c.args.list.now in rw c.in-Waits.is (c.wait.ensures.answer.found g.S.Lane.side (length l.slots.now) (take l.len l.slots.now))

pub returns-in-Ends-clause-answer : goal.returns-in-Ends-clause-answer
returns-in-Ends-clause-answer g c = let l = c.args.list.now in rw c.in-Ends.is (c.end.ensures.answer.found g.S.Lane.side (length l.slots.now) (take l.len l.slots.now))
