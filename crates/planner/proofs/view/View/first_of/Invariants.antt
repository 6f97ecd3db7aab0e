use Rattle.std.proofs.Common.{ℕ, Bool}
use Rattle.model.specs.View.{blocks}
use Rattle.planner.specs.Tests.{Tells}
use Rattle.planner.specs.Views.{shows}
use Rattle.planner.proofs.Soonest.{Soonest}
use Rattle.planner.proofs.view.View.first_of.Given as goal

abbrev pub invariant-loop-block : goal.invariant-loop-block
invariant-loop-block g l =
    goal.F-IsAlwaysCallable g l.passes
    × ((p : ℕ → Bool) → Tells (goal.F-post g) l.passes (blocks (shows l.self)) p → Soonest (shows l.self) p l.block l.first)
