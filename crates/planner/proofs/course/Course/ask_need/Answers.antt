use Rattle.std.proofs.Common.{◌≡◌, true, sym, ap, ◌∙◌}
use Rattle.model.specs.View.{missing, wanted_block}
use Rattle.planner.specs.Views.{shows}
use Rattle.planner.proofs.Begun.{wants, no_need, need_unmet, need_met}
use Rattle.planner.proofs.course.Course.ask_need.Goals as goal

pub returns-then-not-is_missing : goal.returns-then-not-is_missing
returns-then-not-is_missing g c =
    let v = shows c.view-view.result in
    no_need c.args.self.now (g.R.Rule.answers c.args.rule.now) v c.view-view.ensures (ap (missing v) (sym c.wanted_block-due.ensures) ∙ (sym c.is_missing.ensures ∙ c.if-not-is_missing.true))

pub returns-in_err-sends : goal.returns-in_err-sends
returns-in_err-sends g c =
    let o = c.args.self.now in
    let rule = g.R.Rule.answers c.args.rule.now in
    let v = shows c.view-view.result in
    let gone : missing v (wanted_block v) ≡ true = ap (missing v) (sym c.wanted_block-due.ensures) ∙ (sym c.is_missing.ensures ∙ c.if-not-is_missing.false) in
    let w = wants o rule v c.view-view.ensures c.requires gone in
    rw c.from_residual.ensures (need_unmet o rule v c.view-view.ensures gone (sym (c.need.ensures w) ∙ c.in_err-sends.was))

pub returns : goal.returns
returns g c =
    let o = c.args.self.now in
    let rule = g.R.Rule.answers c.args.rule.now in
    let v = shows c.view-view.result in
    let gone : missing v (wanted_block v) ≡ true = ap (missing v) (sym c.wanted_block-due.ensures) ∙ (sym c.is_missing.ensures ∙ c.if-not-is_missing.false) in
    let w = wants o rule v c.view-view.ensures c.requires gone in
    need_met o rule v c.view-view.ensures c.start.new.self c.wanted_block-due.result c.in_ok-sends.sends _ c.wanted_block-due.ensures gone (sym (c.need.ensures w) ∙ c.in_ok-sends.was) c.start.ensures
