use Rattle.std.proofs.Common.{length}
use Rattle.plan.specs.Rewinds.{Front}
use Rattle.plan.proofs.Rewound.{Later}
use Rattle.plan.proofs.rewinding.started_by.Given as goal

abbrev pub invariant-loop-before : goal.invariant-loop-before
invariant-loop-before l = record { front : Front l.rest l.started; later : Later l.step l.started l.rest }

abbrev pub decreases-loop-before : goal.decreases-loop-before
decreases-loop-before l = length l.rest
