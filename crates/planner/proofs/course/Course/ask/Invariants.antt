use Rattle.planner.specs.Courses.{Asks}
use Rattle.planner.proofs.Begun.{upto}
use Rattle.planner.proofs.course.Course.ask.Given as goal

abbrev pub invariant-loop-disk : goal.invariant-loop-disk
invariant-loop-disk g l = record {
  asks : Asks l.fn.self l.self (upto (g.R.Rule.answers l.rule) l.disk) (g.W.Scribe.holds l.fn.scribe) (g.W.Scribe.holds l.scribe);
  kept : g.W.Scribe.keeps l.fn.scribe l.scribe;
}
