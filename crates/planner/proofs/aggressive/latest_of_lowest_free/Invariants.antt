use Rattle.std.proofs.Common.{◌≡◌, ℕ, ◌+◌, length, None, eqb, get_or}
use Rattle.model.specs.Rules.{lowest_free}
use Rattle.planner.specs.Views.{shows}
use Rattle.planner.proofs.Best.{latest_below}
use Rattle.planner.proofs.aggressive.latest_of_lowest_free.Given as goal

-- no block is found on the disks before
abbrev pub invariant-disks : goal.invariant-disks
invariant-disks l = record {
  none_yet : l.best ≡ None;
  left : (n : ℕ) → l.disk + n ≡ length (shows l.view).free → lowest_free (shows l.view) (length (shows l.view).free) 0 ≡ lowest_free (shows l.view) n l.disk;
}

abbrev pub invariant-loop-block : goal.invariant-loop-block
invariant-loop-block l = l.best ≡ latest_below (shows l.view) (λ b. eqb (get_or (shows l.view).homes b 0) l.disk) l.block
