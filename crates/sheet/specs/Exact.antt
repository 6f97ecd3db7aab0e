-- What reading a sheet comes to, in the subject's own words. Assumes nothing.
use Rattle.std.specs.Prelude.{◌≡◌, ℕ, ◌≤◌, false, List, [], ◌++◌, length}
use Rattle.std.specs.List.{flat_map}
use Rattle.records.specs.Records.{written_over}
use Rattle.model.specs.Sheet.{Sheet, Fits, sheet_bytes, name_bytes, rack_bytes, request_bytes}
use Rattle.sheet.specs.Numbers.{SheetFault}
use Rattle.sheet.specs.declared.stage.Stage.{Stage}
use Rattle.sheet.specs.declared.stage.Stage.TheVariants.{Name, Geometry, Blocks, Requests, Nothing}
use Rattle.sheet.specs.Reading.{SoFar, nothing_yet, sheet_said, complete, proceeds, stops, turn, fit, unfit, reading}

-- the bytes of the commands so far
abbrev pub bytes_said : Stage → Sheet → List ℕ
bytes_said Name s = []
bytes_said Geometry s = name_bytes s.name
bytes_said Blocks s = name_bytes s.name ++ (rack_bytes s.rack ++ flat_map request_bytes s.requests)
bytes_said Requests s = name_bytes s.name ++ (rack_bytes s.rack ++ flat_map request_bytes s.requests)
bytes_said Nothing s = sheet_bytes s

-- where reading these bytes into these slots comes: what the commands so far have said, and the bytes left
pub data Reached (bytes slots : List ℕ) : SoFar → List ℕ → Type 0 where
  start : Reached bytes slots (nothing_yet slots) bytes
  more : {s t : SoFar} {rest after : List ℕ} → Reached bytes slots s rest → turn (length bytes) rest s ≡ proceeds t after → Reached bytes slots t after

-- a refusal: reading comes to some commands, whose bytes are those before the place; the sheet does not end there, and what follows is
-- refused. The requests of those commands stand in the slots, and no other slot is changed
pub record RefusedAt (bytes slots : List ℕ) (f : SheetFault) (after : List ℕ) : Type 0 where
  pub sofar : SoFar
  pub rest : List ℕ
  pub reached : Reached bytes slots sofar rest
  pub before : bytes_said sofar.stage (sheet_said sofar) ++ rest ≡ bytes
  pub goes_on : complete rest sofar ≡ false
  pub next : turn (length bytes) rest sofar ≡ stops f
  pub stand : after ≡ written_over (sheet_said sofar).requests slots

-- Bytes are accepted exactly if they are the bytes of a sheet within the limits for whose requests there are slots; then that sheet
-- comes back. Its requests stand in the first slots, and no other slot is changed.
pub record ReadsExactly (bytes slots : List ℕ) : Type 0 where
  pub accepts : (s : Sheet) → Fits s → sheet_bytes s ≡ bytes → length s.requests ≤ length slots → (reading bytes slots).verdict ≡ fit s
  pub only : (s : Sheet) → (reading bytes slots).verdict ≡ fit s → Fits s × (sheet_bytes s ≡ bytes) × (length s.requests ≤ length slots) × ((reading bytes slots).slots ≡ written_over s.requests slots)
  pub refuses : (f : SheetFault) → (reading bytes slots).verdict ≡ unfit f → RefusedAt bytes slots f (reading bytes slots).slots

-- no two different sheets have the same bytes
abbrev pub OneSheet : Type 0
OneSheet = (s t : Sheet) → Fits s → Fits t → sheet_bytes s ≡ sheet_bytes t → s ≡ t
