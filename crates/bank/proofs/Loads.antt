-- What a granted load tells.
use Rattle.std.proofs.Common.{◌≡◌, ℕ, ◌*◌, ◌<◌, ◌≤◌, ltb, true, List, length, get_or, Ok, Err, arith}
use Rattle.std.proofs.lemmas.List.Sums.{AllPass-from_list_all}
use Rattle.std.proofs.lemmas.Bool.{and_parts, ltb-true, leb-true}
use Rattle.std.proofs.lemmas.Bool.Decides.{nat_tests}
use Rattle.bank.specs.declared.fault.BankFault.{BankFault}
use Rattle.bank.specs.Limits.{count_within, fetch_within, all_below}
use Rattle.bank.specs.Meaning.{all_idle, empty_bank}
use Rattle.bank.specs.Recording.{recorded}
use Rattle.bank.specs.RecordingLoad.{recording_limits, recording_answer, recording_loaded}

pub limits_few : (places : List ℕ) (steps : ℕ) → recording_limits places steps ≡ true → length places ≤ 1024
unfolding recording_limits
limits_few places steps e = leb-true _ _ (and_parts _ _ (and_parts _ _ e).0).1

limits_placed : (places : List ℕ) (steps : ℕ) → recording_limits places steps ≡ true → all_below 8 places ≡ true
unfolding recording_limits
limits_placed places steps e =
    (and_parts (fetch_within steps) (all_below 8 places) (and_parts (count_within (length places)) _ e).1).1

granted_limits : (bytes places : List ℕ) (steps : ℕ) → recording_answer bytes places steps ≡ Ok tt → (recording_limits places steps ≡ true) × (length bytes ≡ 512 * length places)
granted_limits bytes places steps e = grind (arith, nat_tests)

module _ (bytes places : List ℕ) (steps : ℕ) (e : recording_answer bytes places steps ≡ Ok tt) where
  pub granted_few : length places ≤ 1024
  granted_few = limits_few places steps (granted_limits bytes places steps e).0

  pub granted_placed : (b : ℕ) → b < length places → get_or places b 0 < 8
  granted_placed b h =
      ltb-true _ _ (AllPass-from_list_all (λ x. ltb x 8) places (limits_placed places steps (granted_limits bytes places steps e).0) b 0 h)

  pub granted_matched : length bytes ≡ 512 * length places
  granted_matched = (granted_limits bytes places steps e).1

  pub granted_loaded : recorded bytes places steps all_idle ≡ recording_loaded bytes places steps
  unfolding recording_loaded
  granted_loaded = rw e

pub refused_empty : (bytes places : List ℕ) (steps : ℕ) (f : BankFault) → recording_answer bytes places steps ≡ Err f → empty_bank ≡ recording_loaded bytes places steps
unfolding recording_loaded
refused_empty bytes places steps f e = rw e

pub ruleset loads = (granted_few, granted_placed, granted_matched, granted_loaded, refused_empty)
