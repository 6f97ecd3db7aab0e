use Rattle.std.proofs.Common.{◌≡◌, ℕ, Bool}
use Rattle.model.specs.View.{blocks}
use Rattle.planner.specs.Tests.{Tells}
use Rattle.planner.specs.Views.{shows}
use Rattle.planner.proofs.Best.{latest_below}
use Rattle.planner.proofs.view.View.latest_of.Given as goal

abbrev pub invariant-loop-block : goal.invariant-loop-block
invariant-loop-block g l =
    goal.F-IsAlwaysCallable g l.passes
    × ((p : ℕ → Bool) → Tells (goal.F-post g) l.passes (blocks (shows l.self)) p → l.best ≡ latest_below (shows l.self) p l.block)
