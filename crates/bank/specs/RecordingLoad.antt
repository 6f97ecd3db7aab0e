-- Loading a recording: limits first, then lengths.
use Rattle.std.specs.Prelude.{ℕ, ◌*◌, Bool, cond, ◌&&◌, List, length, is_ok, Ok, Err, Result, ◌==◌}
use Rattle.bank.specs.declared.fault.BankFault.{BankFault}
use Rattle.bank.specs.declared.fault.BankFault.TheVariants.{LengthsDiffer, OutsideLimits}
use Rattle.bank.specs.Limits.{count_within, fetch_within, all_below}
use Rattle.bank.specs.Meaning.{Meaning, all_idle, empty_bank}
use Rattle.bank.specs.Recording.{recorded}

unfoldable pub recording_limits : List ℕ → ℕ → Bool
recording_limits places steps = count_within (length places) && (fetch_within steps && all_below 8 places)

-- one disk for each block, and 512 bytes for each
abbrev pub recording_answer : List ℕ → List ℕ → ℕ → Result (Unit {0}) BankFault
recording_answer bytes places steps =
    cond (recording_limits places steps) (cond (length bytes == 512 * length places) (Ok tt) (Err LengthsDiffer)) (Err OutsideLimits)

-- what was loaded with all disks idle, or nothing
unfoldable pub recording_loaded : List ℕ → List ℕ → ℕ → Meaning
recording_loaded bytes places steps =
    cond (is_ok (recording_answer bytes places steps)) (recorded bytes places steps all_idle) empty_bank
