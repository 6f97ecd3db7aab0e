use Rattle.std.proofs.Common.{refl, sym, ap, ◌∙◌}
use Rattle.plan.specs.Endings.{here_at}
use Rattle.plan.specs.declared.writer.Writer.{Writer}
use Rattle.plan.proofs.Wrote.{opens_none, opens_on, skipped_on}
use Rattle.plan.proofs.writer.Writer.open.Goals as goal
use Rattle.plan.proofs.writer.Writer.open.Goals.{then-stays, else-stays}

pub loop-block-init : goal.loop-block-init
loop-block-init c = record { more = λ area w. opens_none (here_at c.args.ending.now.places c.args.ending.now.counts.steps) area _ w; lent = refl }

pub loop-block-preserved : goal.loop-block-preserved
loop-block-preserved c =
    let p = here_at c.args.ending.now.places c.args.ending.now.counts.steps in
    let n = c.loop-block.block in
    let inv = c.loop-block.invariant in
    elim c.if-stays.branch [
      | then-stays w ↦
          let lent = ap (λ (v : Writer). v.area.ghost_name) w.self-is in
          record {
            more = λ area h. opens_on p n area _ (sym c.stays.ensures ∙ w.if-stays.true) (rw w.self-is (w.write.ensures.more _ area (inv.more area h)));
            lent = lent ∙ w.write.ensures.lent ∙ inv.lent;
          }
      | else-stays w ↦
          let lent = ap (λ (v : Writer). v.area.ghost_name) w.self-is in
          record {
            more = λ area h. skipped_on p n area _ (sym c.stays.ensures ∙ w.if-stays.false) (rw w.self-is (inv.more area h));
            lent = lent ∙ inv.lent;
          }
    ]
