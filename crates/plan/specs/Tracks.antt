-- A track and the exchanges in the caller's list, as the state of the verdict; and the verdict's parts for a sheet. Assumes nothing.
use Rattle.std.specs.Prelude.{◌≡◌, ℕ, ◌<◌, Bool, true, false, ◌&&◌, List, length, Ok, Err, Result, MatchResult, nat_lt, slice_index}
use Rattle.model.specs.Sheet.{Sheet}
use Rattle.model.specs.Timetable.{Side}
use Rattle.model.specs.declared.Exchange.{Exchange}
use Rattle.model.specs.declared.Cause.{Cause}
use Rattle.model.specs.declared.Cause.TheVariants.{ListFull}
use Rattle.model.specs.declared.Command.{Command}
use Rattle.model.specs.Verdict.{State, Test, Finding, Clean, Faulty, own_tests, first, after}
use Rattle.records.specs.Records.{held}
use Rattle.records.specs.declared.list.List.{List as Listed}
use Rattle.plan.specs.declared.track.Track.{Track}

abbrev pub whole : Track → List Exchange → State
whole t xs = record {
  phase = t.phase;
  opened = t.opened;
  floor = t.floor;
  position = t.position;
  boundary = t.boundary;
  waits = t.waits;
  landing = t.landing;
  marks = t.places.marks;
  idle = t.places.idle;
  records = xs;
}

-- the state that a track and the list have reached
abbrev pub reached : Track → Listed Exchange → State
reached t list = whole t (held list.len list.slots.now)

-- the tests of a command's own, on this sheet
abbrev pub tests_for : Side → Sheet → ℕ → State → Command → List Test
tests_for side sheet room s c = own_tests side sheet.rack.homes sheet.rack.frames sheet.rack.fetch sheet.requests room s c

-- what a command that passes makes of the state
abbrev pub after_for : Side → Sheet → ℕ → State → Command → State
after_for side sheet room s c = after side sheet.rack.homes sheet.rack.frames sheet.rack.fetch sheet.requests room s c

-- what its own tests find
abbrev pub finding : Side → Sheet → ℕ → State → Command → Finding
finding side sheet room s c = first (tests_for side sheet room s c)

-- what a command answers, and what it leaves: a refused one changes nothing
abbrev pub answered : Finding → Result (Unit {0}) Cause
answered Clean = Ok tt
answered (Faulty c) = Err c

-- an answer but for the value that a pass gives
abbrev pub passed : Result ℕ Cause → Result (Unit {0}) Cause
passed (Ok n) = Ok tt
passed (Err e) = Err e

-- the disk of a block, if there is such a block and a test of it passes, or else the cause
abbrev pub DiskIf : List ℕ → ℕ → Bool → Cause → Result ℕ Cause → Type 0
DiskIf homes block test otherwise answer = MatchResult answer (λ disk. (block < length homes) × (test ≡ true) × (disk ≡ slice_index homes block)) (λ cause. (cause ≡ otherwise) × ((nat_lt block (length homes) && test) ≡ false))

-- the list's own refusal comes last
abbrev pub if_room : Bool → Result (Unit {0}) Cause → Result (Unit {0}) Cause
if_room room (Err e) = Err e
if_room true (Ok x) = Ok x
if_room false (Ok x) = Err ListFull

abbrev pub left_by : State → State → Finding → State
left_by s t Clean = t
left_by s t (Faulty c) = s

abbrev pub left_for : Side → Sheet → ℕ → State → Command → State
left_for side sheet room s c = left_by s (after_for side sheet room s c) (finding side sheet room s c)

-- whatever the side, the room and the exchanges so far, a command's answer is what its own tests find
pub record Judges (t : Track) (sheet : Sheet) (c : Command) (answer : Result (Unit {0}) Cause) : Type 0 where
  pub found : (side : Side) (room : ℕ) (xs : List Exchange) → answer ≡ answered (finding side sheet room (whole t xs) c)

-- whatever they are, the new track is what the command leaves of the old one
pub record Leaves (old new : Track) (sheet : Sheet) (c : Command) : Type 0 where
  pub left : (side : Side) (room : ℕ) (xs : List Exchange) → whole new xs ≡ left_for side sheet room (whole old xs) c
