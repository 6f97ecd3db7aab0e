use Rattle.std.proofs.Common.{◌∙◌}
use Rattle.plan.proofs.Rewound.{front_before, front_of_front, landed_before, trade_on}
use Rattle.plan.proofs.writer.Writer.write_landed.Goals as goal

pub loop-exchange-preserved : goal.loop-exchange-preserved
loop-exchange-preserved c =
    let inv = c.loop-exchange.invariant in
    let e = c.in-Some.ensures in
    let a = c.args in
    record {
      front = front_before _ _ _ _ inv.front e.0;
      landed = landed_before a.fetch a.boundary _ _ _ _ inv.front e.0 e.1 inv.landed;
      more = λ plan o area t f at h.
          trade_on plan o area a.fetch t a.boundary _ _ _ _ _ (front_of_front _ _ _ inv.front f) e.0 e.1 at c.changed_over.ensures
          (c.write.ensures.more _ area (inv.more plan o area t f at h));
      lent = c.write.ensures.lent ∙ inv.lent;
    }
