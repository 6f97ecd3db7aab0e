-- Steps that pass one after the other.
use Rattle.std.proofs.Common.{◌≡◌, ℕ, ◌+◌, ◌-◌, List, [], ◌∷◌, map, refl, ap, arith}
use Rattle.bank.specs.declared.state.DiskState.{DiskState}
use Rattle.bank.specs.declared.state.DiskState.TheVariants.{Idle, Busy}
use Rattle.bank.specs.Calls.{tick_after}
use Rattle.bank.specs.Fetched.{lessened, later}
use Rattle.bank.specs.Meaning.{Meaning, having}
use Rattle.bank.specs.Ticking.{lowered, lowered_all}

lessened_none : (s : DiskState) → lessened 0 s ≡ s
lessened_none Idle = refl
lessened_none (Busy block left) = let e : left - 0 ≡ left = omega arith in ap (Busy block) e

lessened_more : (n : ℕ) (s : DiskState) → lowered (lessened n s) ≡ lessened (n + 1) s
lessened_more n Idle = refl
lessened_more n (Busy block left) = let e : left - n - 1 ≡ left - (n + 1) = omega arith in ap (Busy block) e

all_none : (ss : List DiskState) → map (lessened 0) ss ≡ ss
all_none [] = refl
all_none (s ∷ ss) = λ i. lessened_none s i ∷ all_none ss i

all_more : (n : ℕ) (ss : List DiskState) → lowered_all (map (lessened n) ss) ≡ map (lessened (n + 1)) ss
unfolding lowered_all
all_more n [] = refl
all_more n (s ∷ ss) = λ i. lessened_more n s i ∷ all_more n ss i

pub later_none : (m : Meaning) → later 0 m ≡ m
unfolding later
later_none m = ap (having m) (all_none m.states)

pub later_more : (n : ℕ) (m : Meaning) → tick_after (later n m) ≡ later (n + 1) m
unfolding later
later_more n m = ap (having m) (all_more n m.states)
