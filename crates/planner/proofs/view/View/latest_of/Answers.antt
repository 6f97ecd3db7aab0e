use Rattle.std.proofs.Common.{sym, refl, ◌∙◌, arith, of_calls, ap}
use Rattle.model.specs.View.{greatest, better, next_use}
use Rattle.planner.specs.Views.{shows}
use Rattle.planner.proofs.Best.{stays_in, passed_over, compared}
use Rattle.planner.proofs.view.View.latest_of.Goals.{then-not-may_go_out-via-then-not-may_go_out, then-not-may_go_out-via-else-not-may_go_out+then-not-passes}
use Rattle.planner.proofs.view.View.latest_of.Goals as goal

pub loop-block-init : goal.loop-block-init
unfolding greatest
loop-block-init g c = (search of_calls, λ p h. refl)

pub loop-block-preserved-then-not-may_go_out : goal.loop-block-preserved-then-not-may_go_out
loop-block-preserved-then-not-may_go_out g c = (
  c.loop-block.invariant.0,
  λ p h.
      let v = shows c.args.self.now in
      let n = c.loop-block.block in
      c.loop-block.invariant.1 p h ∙ elim c.then-not-may_go_out.branch [
        | then-not-may_go_out-via-then-not-may_go_out w ↦ sym (stays_in v p n (sym c.may_go_out.ensures ∙ w.if-not-may_go_out.true))
        | then-not-may_go_out-via-else-not-may_go_out+then-not-passes w ↦ sym (passed_over v p n (sym c.may_go_out.ensures ∙ w.if-not-may_go_out.false) (sym (h n w.passes.result (omega arith) w.passes.ensures) ∙ w.if-not-passes.true))
      ],
)

pub loop-block-preserved : goal.loop-block-preserved
loop-block-preserved g c = (
  c.loop-block.invariant.0,
  λ p h.
      let v = shows c.args.self.now in
      let n = c.loop-block.block in
      c.later-best.ensures ∙ (ap (better (next_use v) n) (c.loop-block.invariant.1 p h)
      ∙ sym (compared v p n (sym c.may_go_out.ensures ∙ c.if-not-may_go_out.false) (sym (h n c.passes.result (omega arith) c.passes.ensures) ∙ c.if-not-passes.false))),
)
