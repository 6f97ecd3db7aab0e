use Rattle.std.proofs.Common.{◌≡◌, ℕ, ◌+◌, ◌-◌, eqb, get_or, length, sym, ap, ◌∙◌, arith}
use Rattle.std.proofs.lemmas.Bool.{ne_eqb, eq-eqb}
use Rattle.model.specs.View.{better, blocks, greatest, next_use}
use Rattle.planner.specs.Views.{shows}
use Rattle.planner.proofs.Best.{latest_below, stays_in, passed_over, compared}
use Rattle.planner.proofs.Lowest.{lowest_end, lowest_busy, lowest_empty, lowest_met, none_from}
use Rattle.planner.proofs.aggressive.latest_of_lowest_free.Goals.{then-not-may_go_out-via-then-not-may_go_out, then-not-may_go_out-via-else-not-may_go_out+then-home-disk}
use Rattle.planner.proofs.aggressive.latest_of_lowest_free.Goals as goal

pub disks-preserved-then-not-is_free : goal.disks-preserved-then-not-is_free
disks-preserved-then-not-is_free c =
    let v = shows c.args.view in
    record {
      none_yet = c.disks.invariant.none_yet;
      left = λ n e. c.disks.invariant.left (n + 1) (omega arith) ∙ lowest_busy v n c.disks.disk (sym c.is_free.ensures ∙ c.if-not-is_free.true);
    }

pub loop-block-init : goal.loop-block-init
unfolding greatest
loop-block-init c = c.disks.invariant.none_yet

pub loop-block-preserved-then-not-may_go_out : goal.loop-block-preserved-then-not-may_go_out
loop-block-preserved-then-not-may_go_out c =
    let v = shows c.args.view in
    let d = c.disks.disk in
    let n = c.loop-block.block in
    let on = λ (b : ℕ). eqb (get_or v.homes b 0) d in
    c.loop-block.invariant ∙ elim c.then-not-may_go_out.branch [
      | then-not-may_go_out-via-then-not-may_go_out w ↦ sym (stays_in v on n (sym c.may_go_out.ensures ∙ w.if-not-may_go_out.true))
      | then-not-may_go_out-via-else-not-may_go_out+then-home-disk w ↦ sym (passed_over v on n (sym c.may_go_out.ensures ∙ w.if-not-may_go_out.false) (ne_eqb (get_or v.homes n 0) d (λ i. w.if-home-disk.true (w.home.ensures ∙ i))))
    ]

pub loop-block-preserved : goal.loop-block-preserved
loop-block-preserved c =
    let v = shows c.args.view in
    let d = c.disks.disk in
    let n = c.loop-block.block in
    let on = λ (b : ℕ). eqb (get_or v.homes b 0) d in
    c.later-best.ensures ∙ (ap (better (next_use v) n) c.loop-block.invariant
    ∙ sym (compared v on n (sym c.may_go_out.ensures ∙ c.if-not-may_go_out.false) (eq-eqb (get_or v.homes n 0) d (sym c.home.ensures ∙ c.if-home-disk.false))))

pub disks-preserved : goal.disks-preserved
disks-preserved c =
    let v = shows c.args.view in
    let d = c.disks.disk in
    let all : c.loop-block.block ≡ blocks v = omega arith in
    let found = c.loop-block.invariant ∙ ap (latest_below v (λ b. eqb (get_or v.homes b 0) d)) all in
    let none_yet = none_from c.loop-block.best (sym c.is_some.ensures ∙ c.if-is_some.false) in
    record {
      none_yet = none_yet;
      left = λ n e. c.disks.invariant.left (n + 1) (omega arith) ∙ lowest_empty v n d (sym c.is_free.ensures ∙ c.if-not-is_free.false) (sym found ∙ none_yet);
    }

pub returns-after-disks : goal.returns-after-disks
returns-after-disks c =
    let v = shows c.args.view in
    let e : c.disks.disk + 0 ≡ length v.free = omega arith in
    c.disks.invariant.none_yet ∙ sym (c.disks.invariant.left 0 e ∙ lowest_end v c.disks.disk)

pub returns-then-is_some : goal.returns-then-is_some
returns-then-is_some c =
    let v = shows c.args.view in
    let d = c.disks.disk in
    let n = length v.free - (d + 1) in
    let e : d + (n + 1) ≡ length v.free = omega arith in
    let all : c.loop-block.block ≡ blocks v = omega arith in
    let found = c.loop-block.invariant ∙ ap (latest_below v (λ b. eqb (get_or v.homes b 0) d)) all in
    lowest_met v n d c.loop-block.best (sym c.is_free.ensures ∙ c.if-not-is_free.false) found (sym c.is_some.ensures ∙ c.if-is_some.true) ∙ sym (c.disks.invariant.left (n + 1) e)
