use Rattle.std.proofs.Common.{◌-◌}
use Rattle.sheet.specs.Sheets.{meant}
use Rattle.planner.proofs.Whole.{UnderWay, fuel_for}
use Rattle.planner.proofs.planning.plan.Given as goal

abbrev pub invariant-loop-course : goal.invariant-loop-course
invariant-loop-course g l = record {
  goes : UnderWay l.fn.heading l.fn.sheet (g.R.Rule.answers l.rule) l.opening l.course (g.W.Scribe.holds l.scribe);
  kept : g.W.Scribe.keeps l.fn.scribe l.scribe;
}

abbrev pub decreases-loop-course : goal.decreases-loop-course
decreases-loop-course g l = fuel_for (meant l.fn.sheet) - l.course.board.boundary
