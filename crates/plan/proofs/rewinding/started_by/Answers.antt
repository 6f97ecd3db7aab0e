use Rattle.std.proofs.Common.{arith}
use Rattle.plan.proofs.Rewound.{front_whole, front_before, later_before}
use Rattle.plan.proofs.rewinding.started_by.Goals as goal

pub loop-before-init : goal.loop-before-init
loop-before-init c = record { front = front_whole c.args.started.now; later = λ k m l. absurd (omega arith) }

pub loop-before-preserved : goal.loop-before-preserved
loop-before-preserved c =
    let inv = c.loop-before.invariant in
    let e = c.in-Some.ensures in
    record {
      front = front_before _ _ _ _ inv.front e.0;
      later = later_before c.args.step _ _ _ inv.front inv.later e.0 e.1;
    }

pub loop-before-smaller : goal.loop-before-smaller
loop-before-smaller c = omega (arith, c.in-Some.ensures.0.1)

pub returns : goal.returns
returns c = record { front = c.loop-before.invariant.front; earlier = c.in_default.ensures; later = c.loop-before.invariant.later }
