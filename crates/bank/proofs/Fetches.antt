-- Disks that fetch only blocks below n go on doing so.
use Rattle.std.proofs.Common.{◌≡◌, ℕ, zero, suc, ◌<◌, ◌≤◌, true, List, [], ◌∷◌, get_or, set, Ok, refl, arith}
use Rattle.std.proofs.lemmas.Bool.{and_parts, and_from}
use Rattle.std.proofs.lemmas.Bool.Decides.{nat_tests}
use Rattle.bank.specs.declared.state.DiskState.{DiskState}
use Rattle.bank.specs.declared.state.DiskState.TheVariants.{Idle, Busy}
use Rattle.bank.specs.Fetching.{fetches_below, all_fetch_below, ready}
use Rattle.bank.specs.Ticking.{lowered, lowered_all}

pub set_fetch_below :
    (n : ℕ) (ss : List DiskState) (d : ℕ) (s : DiskState) → all_fetch_below n ss ≡ true → fetches_below n s ≡ true → all_fetch_below n (set ss d s) ≡ true
unfolding all_fetch_below
set_fetch_below n [] d s all this = refl
set_fetch_below n (x ∷ ss) zero s all this = and_from _ _ this (and_parts _ _ all).1
set_fetch_below n (x ∷ ss) (suc d) s all this =
    and_from _ _ (and_parts _ _ all).0 (set_fetch_below n ss d s (and_parts _ _ all).1 this)

lowered_fetch_below : (n : ℕ) (s : DiskState) → fetches_below n s ≡ true → fetches_below n (lowered s) ≡ true
lowered_fetch_below n Idle h = refl
lowered_fetch_below n (Busy block left) h = h

pub ticked_fetch_below : (n : ℕ) (ss : List DiskState) → all_fetch_below n ss ≡ true → all_fetch_below n (lowered_all ss) ≡ true
unfolding all_fetch_below lowered_all
ticked_fetch_below n [] all = refl
ticked_fetch_below n (s ∷ ss) all =
    and_from _ _ (lowered_fetch_below n s (and_parts _ _ all).0) (ticked_fetch_below n ss (and_parts _ _ all).1)

at_fetch_below : (n : ℕ) (ss : List DiskState) (d : ℕ) → all_fetch_below n ss ≡ true → fetches_below n (get_or ss d Idle) ≡ true
unfolding all_fetch_below
at_fetch_below n [] d all = refl
at_fetch_below n (s ∷ ss) zero all = (and_parts _ _ all).0
at_fetch_below n (s ∷ ss) (suc d) all = at_fetch_below n ss d (and_parts _ _ all).1

-- what lies ready is a block below n, and the buffer holds it
ready_one :
    (n : ℕ) (s : DiskState) (room b : ℕ) → fetches_below n s ≡ true → ready s room ≡ Ok b → (b < n) × (512 ≤ room)
ready_one n Idle room b h e = grind arith
ready_one n (Busy block left) room b h e = grind (arith, nat_tests)

pub ready_below :
    (n : ℕ) (ss : List DiskState) (d room b : ℕ) → all_fetch_below n ss ≡ true → ready (get_or ss d Idle) room ≡ Ok b → (b < n) × (512 ≤ room)
ready_below n ss d room b all e = ready_one n (get_or ss d Idle) room b (at_fetch_below n ss d all) e
