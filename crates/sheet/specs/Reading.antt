-- What the bytes of a sheet mean: a sheet, or a refusal; and what the caller's slots hold afterwards. Assumes nothing.
use Rattle.std.specs.Prelude.{ℕ, zero, suc, ◌+◌, ◌-◌, Bool, true, false, cond, ◌&&◌, ◌||◌, List, [], ◌∷◌, ◌++◌, length, take, replicate, Some, None, Ok, Err, Option, Result, ◌==◌, nat_le, nat_lt, slice_index, slice_set}
use Rattle.model.specs.Sheet.{Rack, Sheet, letter_n, letter_g, letter_d, letter_r, letter_e}
use Rattle.sheet.specs.declared.fault.SheetCause.{SheetCause}
use Rattle.sheet.specs.declared.fault.SheetCause.TheVariants.{RanOut, OutOfPlace, OutsideLimits, NotThere, TooMany, TooFewBlocks, NoSlotLeft}
use Rattle.sheet.specs.Numbers.{SheetFault}
use Rattle.sheet.specs.declared.stage.Stage.{Stage}
use Rattle.sheet.specs.declared.stage.Stage.TheVariants.{Name, Geometry, Blocks, Requests, Nothing}
use Rattle.sheet.specs.Commands.{Said, name, geometry, disk, request, end, front_of}

-- whether a command with this letter is in place
abbrev pub takes : Stage → ℕ → Bool
takes Name c = c == letter_n
takes Geometry c = c == letter_g
takes Blocks c = c == letter_d || (c == letter_r || c == letter_e)
takes Requests c = c == letter_r || c == letter_e
takes Nothing c = false

-- what the commands so far have said. The first `count` slots are the requests
pub record SoFar : Type 0 where
  pub stage : Stage
  pub name : List ℕ
  pub disks : ℕ
  pub frames : ℕ
  pub fetch : ℕ
  pub homes : List ℕ
  pub slots : List ℕ
  pub count : ℕ

abbrev pub nothing_yet : List ℕ → SoFar
nothing_yet slots = record { stage = Name; name = replicate 16 0; disks = 0; frames = 0; fetch = 0; homes = []; slots = slots; count = 0 }

-- What each command adds.

abbrev pub named : List ℕ → SoFar → SoFar
named n s = record { stage = Geometry; name = n; disks = s.disks; frames = s.frames; fetch = s.fetch; homes = s.homes; slots = s.slots; count = s.count }

abbrev pub geared : ℕ → ℕ → ℕ → SoFar → SoFar
geared d k f s = record { stage = Blocks; name = s.name; disks = d; frames = k; fetch = f; homes = s.homes; slots = s.slots; count = s.count }

abbrev pub housed : ℕ → SoFar → SoFar
housed h s = record { stage = Blocks; name = s.name; disks = s.disks; frames = s.frames; fetch = s.fetch; homes = s.homes ++ h ∷ []; slots = s.slots; count = s.count }

abbrev pub asked : ℕ → SoFar → SoFar
asked b s = record { stage = Requests; name = s.name; disks = s.disks; frames = s.frames; fetch = s.fetch; homes = s.homes; slots = slice_set s.slots s.count b; count = s.count + 1 }

abbrev pub ended : SoFar → SoFar
ended s = record { stage = Nothing; name = s.name; disks = s.disks; frames = s.frames; fetch = s.fetch; homes = s.homes; slots = s.slots; count = s.count }

-- 1 to 8 disks, 1 to 64 frames, a fetch time of 1 to 64
abbrev pub within_limits : ℕ → ℕ → ℕ → Bool
within_limits d k f = nat_le 1 d && (nat_le d 8 && (nat_le 1 k && (nat_le k 64 && (nat_le 1 f && nat_le f 64))))

-- a command that is in place and whole is taken, or refused for a cause
pub data Took : Type 0 where
  kept : SoFar → Took
  refused : SheetCause → Took

abbrev pub took_geometry : ℕ → ℕ → ℕ → SoFar → Took
took_geometry d k f s = cond (within_limits d k f) (kept (geared d k f s)) (refused OutsideLimits)

abbrev pub took_disk : ℕ → SoFar → Took
took_disk h s = cond (nat_lt (length s.homes) 1024) (cond (nat_lt h s.disks) (kept (housed h s)) (refused NotThere)) (refused TooMany)

abbrev pub took_request : ℕ → SoFar → Took
took_request b s =
    cond (nat_lt (length s.homes) s.frames) (refused TooFewBlocks)
    (cond (nat_lt s.count 4096)
    (cond (nat_lt b (length s.homes))
    (cond (nat_lt s.count (length s.slots)) (kept (asked b s)) (refused NoSlotLeft))
    (refused NotThere))
    (refused TooMany))

abbrev pub took_end : SoFar → Took
took_end s = cond (nat_lt (length s.homes) s.frames) (refused TooFewBlocks) (kept (ended s))

abbrev pub took : Said → SoFar → Took
took (name n) s = kept (named n s)
took (geometry d k f) s = took_geometry d k f s
took (disk h) s = took_disk h s
took (request b) s = took_request b s
took end s = took_end s

-- one command: the reading goes on with the bytes after it, or stops
pub data Turn : Type 0 where
  proceeds : SoFar → List ℕ → Turn
  stops : SheetFault → Turn

abbrev pub fault : SheetCause → ℕ → SheetFault
fault c place = record { cause = c; place = place }

abbrev pub after_taking : ℕ → List ℕ → Took → Turn
after_taking place rest (kept s) = proceeds s rest
after_taking place rest (refused c) = stops (fault c place)

abbrev pub after_parsing : ℕ → ℕ → SoFar → Option (Said × List ℕ) → Turn
after_parsing total place s None = stops (fault RanOut total)
after_parsing total place s (Some p) = after_taking place p.1 (took p.0 s)

-- the command at the front of what is left of `total` bytes: its place is what has been read
unfoldable pub turn : ℕ → List ℕ → SoFar → Turn
turn total rest s =
    cond (length rest == 0) (stops (fault RanOut total))
    (cond (takes s.stage (slice_index rest 0)) (after_parsing total (total - length rest) s (front_of rest))
    (stops (fault OutOfPlace (total - length rest))))

-- What a turn answers, and what it leaves: a refusal changes nothing.

abbrev pub turn_answer : Turn → Result (List ℕ) SheetFault
turn_answer (proceeds s rest) = Ok rest
turn_answer (stops f) = Err f

abbrev pub turn_left : SoFar → Turn → SoFar
turn_left s (proceeds t rest) = t
turn_left s (stops f) = s

-- what reading came to, and what the caller's slots hold then
pub data Verdict : Type 0 where
  fit : Sheet → Verdict
  unfit : SheetFault → Verdict

pub record Outcome : Type 0 where
  pub verdict : Verdict
  pub slots : List ℕ

-- the sheet that was said
abbrev pub rack_said : SoFar → Rack
rack_said s = record { disks = s.disks; frames = s.frames; fetch = s.fetch; homes = s.homes }

abbrev pub sheet_said : SoFar → Sheet
sheet_said s = record { name = s.name; rack = rack_said s; requests = take s.count s.slots }

-- the end was read, and no byte is left
abbrev pub is_nothing : Stage → Bool
is_nothing Name = false
is_nothing Geometry = false
is_nothing Blocks = false
is_nothing Requests = false
is_nothing Nothing = true

abbrev pub complete : List ℕ → SoFar → Bool
complete rest s = is_nothing s.stage && length rest == 0

abbrev pub onward : (List ℕ → SoFar → Outcome) → SoFar → Turn → Outcome
onward go s (proceeds t rest) = go rest t
onward go s (stops f) = record { verdict = unfit f; slots = s.slots }

-- at most n commands from here on
unfoldable pub run : ℕ → ℕ → List ℕ → SoFar → Outcome
run zero total rest s = record { verdict = unfit (fault RanOut total); slots = s.slots }
run (suc n) total rest s =
    cond (complete rest s) (record { verdict = fit (sheet_said s); slots = s.slots }) (onward (λ r t. run n total r t) s (turn total rest s))

-- reading these bytes into these slots: each command has a byte at least
unfoldable pub reading : List ℕ → List ℕ → Outcome
reading bytes slots = run (suc (length bytes)) (length bytes) bytes (nothing_yet slots)
