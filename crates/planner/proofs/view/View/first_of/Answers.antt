use Rattle.std.proofs.Common.{◌≡◌, sym, ◌∙◌, arith, of_calls, ap}
use Rattle.model.specs.View.{requested_at, blocks}
use Rattle.planner.specs.Views.{shows}
use Rattle.planner.proofs.Shown.{reached, asks_known, length_is, request_is}
use Rattle.planner.proofs.Soonest.{soonest_none, soonest_skip, soonest_later, soonest_sooner, soonest_all}
use Rattle.planner.proofs.view.View.first_of.Goals as goal

pub loop-block-init : goal.loop-block-init
loop-block-init g c = (search of_calls, λ p h. soonest_none (shows c.args.self.now) p _ (length_is c.args.self.now _ c.len-first.ensures.requests))

pub loop-block-preserved-then-next-first : goal.loop-block-preserved-then-next-first
loop-block-preserved-then-next-first g c = (c.loop-block.invariant.0, λ p h. soonest_later (shows c.args.self.now) p c.loop-block.block c.loop-block.first (c.loop-block.invariant.1 p h) (omega arith))

pub loop-block-preserved-then-not-passes : goal.loop-block-preserved-then-not-passes
loop-block-preserved-then-not-passes g c = (
  c.loop-block.invariant.0,
  λ p h. soonest_skip (shows c.args.self.now) p c.loop-block.block c.loop-block.first (c.loop-block.invariant.1 p h) (sym (h c.loop-block.block c.passes.result (omega arith) c.passes.ensures) ∙ c.if-not-passes.true),
)

pub loop-block-preserved : goal.loop-block-preserved
loop-block-preserved g c = (
  c.loop-block.invariant.0,
  λ p h.
      rw c.next_use-next.ensures
      (soonest_sooner (shows c.args.self.now) p c.loop-block.block c.loop-block.first (c.loop-block.invariant.1 p h) (sym (h c.loop-block.block c.passes.result (omega arith) c.passes.ensures) ∙ c.if-not-passes.false) (omega arith)),
)

pub returns : goal.returns
returns g c = λ p h.
    let v = shows c.args.self.now in
    let all : c.loop-block.block ≡ blocks v = omega arith in
    let found = soonest_all v p c.loop-block.block c.loop-block.first all (reached c.args.self.now) (asks_known c.args.self.now) (c.loop-block.invariant.1 p h) in
    request_is c.args.self.now c.request.result c.loop-block.first c.request.ensures ∙ ap (requested_at v) found
