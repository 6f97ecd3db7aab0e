use Rattle.std.proofs.Common.{sym, ◌∙◌}
use Rattle.planner.specs.Views.{shows}
use Rattle.planner.proofs.Begun.{disk_busy, ahead_unmet, ahead_refused, ahead_taken}
use Rattle.planner.proofs.course.Course.ask_ahead.Goals as goal

pub returns-then-not-is_free : goal.returns-then-not-is_free
returns-then-not-is_free g c = disk_busy c.args.self.now (g.R.Rule.answers c.args.rule.now) (shows c.view-view.result) c.view-view.ensures c.args.disk (sym c.is_free.ensures ∙ c.if-not-is_free.true)

pub returns-in_err-brings : goal.returns-in_err-brings
returns-in_err-brings g c =
    rw c.from_residual.ensures
    (ahead_unmet c.args.self.now (g.R.Rule.answers c.args.rule.now) (shows c.view-view.result) c.view-view.ensures c.args.disk (sym c.is_free.ensures ∙ c.if-not-is_free.false) (sym c.ahead.ensures ∙ c.in_err-brings.was))

pub returns-then-not-takes : goal.returns-then-not-takes
returns-then-not-takes g c =
    ahead_refused c.args.self.now (g.R.Rule.answers c.args.rule.now) (shows c.view-view.result) c.view-view.ensures c.args.disk c.in_ok-brings.brings c.in_ok-brings.sends (sym c.is_free.ensures ∙ c.if-not-is_free.false) (sym c.ahead.ensures ∙ c.in_ok-brings.was)
    (sym c.takes.ensures ∙ c.if-not-takes.true)

pub returns : goal.returns
returns g c =
    ahead_taken c.args.self.now (g.R.Rule.answers c.args.rule.now) (shows c.view-view.result) c.view-view.ensures c.args.disk c.start.new.self c.in_ok-brings.brings c.in_ok-brings.sends _ (sym c.is_free.ensures ∙ c.if-not-is_free.false)
    (sym c.ahead.ensures ∙ c.in_ok-brings.was) (sym c.takes.ensures ∙ c.if-not-takes.false) c.start.ensures
