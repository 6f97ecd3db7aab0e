use Rattle.planner.proofs.Turned.{turned}
use Rattle.planner.proofs.course.Course.turn.Goals as goal

pub returns-clause-turns : goal.returns-clause-turns
returns-clause-turns g c =
    turned c.args.self.now c.ask.new.self c.step.new.self (g.R.Rule.answers c.args.rule.now) (g.W.Scribe.holds c.args.scribe.now) (g.W.Scribe.holds c.ask.new.scribe) (g.W.Scribe.holds c.step-2.new.self) c.can_serve-serves.result c.ask.ensures.asks c.can_serve-serves.ensures c.step.ensures c.step-2.ensures.taken
