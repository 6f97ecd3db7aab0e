-- What a granted load of an array tells.
use Rattle.std.proofs.Common.{◌≡◌, ℕ, ◌+◌, ◌*◌, ◌<◌, ◌≤◌, true, List, length, Ok, Err, arith}
use Rattle.std.proofs.lemmas.Bool.{and_parts, leb-true}
use Rattle.std.proofs.lemmas.Bool.Decides.{nat_tests}
use Rattle.bank.specs.declared.fault.BankFault.{BankFault}
use Rattle.bank.specs.declared.layout.Layout.{Layout}
use Rattle.bank.specs.Array.{rebuilt}
use Rattle.bank.specs.ArrayLoad.{disks_within, array_limits, array_answer, array_loaded}
use Rattle.bank.specs.Limits.{count_within, fetch_within}
use Rattle.bank.specs.Meaning.{all_idle, empty_bank}
use Rattle.bank.specs.Parity.{rows_of}

module _ (l : Layout) (steps : ℕ) (e : array_limits l steps ≡ true) where
  pub limits_count : count_within l.blocks ≡ true
  unfolding array_limits
  limits_count = (and_parts (count_within l.blocks) _ e).0

  limits_disks : disks_within l ≡ true
  unfolding array_limits
  limits_disks = (and_parts (disks_within l) (fetch_within steps) (and_parts (count_within l.blocks) _ e).1).0

  pub limits_fetch : fetch_within steps ≡ true
  unfolding array_limits
  limits_fetch = (and_parts (disks_within l) (fetch_within steps) (and_parts (count_within l.blocks) _ e).1).1

  pub limits_some : 0 < l.disks
  limits_some = leb-true _ _ (and_parts _ _ limits_disks).0

  pub limits_eight : l.disks ≤ 8
  limits_eight = leb-true _ _ (and_parts _ _ (and_parts _ _ limits_disks).1).0

granted_both :
    (bytes : List ℕ) (l : Layout) (steps : ℕ) → array_answer bytes l steps ≡ Ok tt → (array_limits l steps ≡ true) × (length bytes ≡ 512 * (l.blocks + rows_of l))
unfolding array_answer
granted_both bytes l steps e = grind (arith, nat_tests)

module _ (bytes : List ℕ) (l : Layout) (steps : ℕ) (e : array_answer bytes l steps ≡ Ok tt) where
  pub granted_limits : array_limits l steps ≡ true
  granted_limits = (granted_both bytes l steps e).0

  pub granted_matched : length bytes ≡ 512 * (l.blocks + rows_of l)
  granted_matched = (granted_both bytes l steps e).1

  pub granted_loaded : rebuilt bytes l steps all_idle ≡ array_loaded bytes l steps
  unfolding array_loaded
  granted_loaded = rw e

pub refused_empty :
    (bytes : List ℕ) (l : Layout) (steps : ℕ) (f : BankFault) → array_answer bytes l steps ≡ Err f → empty_bank ≡ array_loaded bytes l steps
unfolding array_loaded
refused_empty bytes l steps f e = rw e

pub ruleset array_loads = (granted_limits, limits_some, limits_eight, granted_matched, granted_loaded, refused_empty)
