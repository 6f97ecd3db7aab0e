-- Loading what is left of an array: limits first, then lengths.
use Rattle.std.specs.Prelude.{ℕ, ◌+◌, ◌*◌, Bool, cond, ◌&&◌, List, length, is_ok, Ok, Err, Result, ◌==◌, nat_le, nat_lt}
use Rattle.bank.specs.declared.fault.BankFault.{BankFault}
use Rattle.bank.specs.declared.fault.BankFault.TheVariants.{LengthsDiffer, OutsideLimits}
use Rattle.bank.specs.declared.layout.Layout.{Layout}
use Rattle.bank.specs.Array.{rebuilt}
use Rattle.bank.specs.Limits.{count_within, fetch_within}
use Rattle.bank.specs.Meaning.{Meaning, all_idle, empty_bank}
use Rattle.bank.specs.Parity.{rows_of}

-- one to eight disks, the lost one among them
abbrev pub disks_within : Layout → Bool
disks_within l = nat_le 1 l.disks && (nat_le l.disks 8 && nat_lt l.lost l.disks)

unfoldable pub array_limits : Layout → ℕ → Bool
array_limits l steps = count_within l.blocks && (disks_within l && fetch_within steps)

-- 512 bytes for each block and for each row's parity block
unfoldable pub array_answer : List ℕ → Layout → ℕ → Result (Unit {0}) BankFault
array_answer bytes l steps =
    cond (array_limits l steps) (cond (length bytes == 512 * (l.blocks + rows_of l)) (Ok tt) (Err LengthsDiffer)) (Err OutsideLimits)

-- what was loaded with all disks idle, or nothing
unfoldable pub array_loaded : List ℕ → Layout → ℕ → Meaning
array_loaded bytes l steps = cond (is_ok (array_answer bytes l steps)) (rebuilt bytes l steps all_idle) empty_bank
