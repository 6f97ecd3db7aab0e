-- The bank that blocks in a store make.
use Rattle.std.specs.Prelude.{◌≡◌, ℕ, List, length, Ok, Err, Result, refl}
use Rattle.bank.specs.declared.fault.BankFault.{BankFault}
use Rattle.bank.specs.declared.state.DiskState.{DiskState}
use Rattle.bank.specs.Meaning.{Meaning, Sound, all_idle, empty_bank}

-- its blocks and their disks, with a fetch time and what the disks are doing
abbrev pub stored : List (List ℕ) → List ℕ → ℕ → List DiskState → Meaning
stored contents places steps now-states = record {
  blocks = contents;
  disks = places;
  fetch = steps;
  states = now-states;
}

-- what a bank is that holds a store from now on, or nothing where the store was refused
abbrev pub held : {S : Type 0} → (S → List (List ℕ)) → (S → List ℕ) → Result S BankFault → ℕ → Meaning
held contents places (Ok store) steps = stored (contents store) (places store) steps all_idle
held contents places (Err f) steps = empty_bank

pub length_all_idle : length all_idle ≡ 8
unfolding all_idle
length_all_idle = refl

-- sound at rest, it is sound whatever its eight disks are doing
pub stored_sound :
    (contents : List (List ℕ)) (places : List ℕ) (steps : ℕ) (now-states : List DiskState) → Sound (stored contents places 0 all_idle) → length now-states ≡ 8 → Sound (stored contents places steps now-states)
stored_sound contents places steps now-states rest eight = record {
  eight = eight;
  paired = rest.paired;
  placed = rest.placed;
  whole = rest.whole;
}
