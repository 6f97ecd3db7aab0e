-- What a draft and the caller's list say together, and what a command's answer is. Assumes nothing.
use Rattle.std.specs.Prelude.{◌≡◌, ℕ, List, Ok, Err, Result}
use Rattle.commands.specs.declared.reader.Reader.{Reader}
use Rattle.records.specs.declared.list.List.{List as Listed}
use Rattle.sheet.specs.declared.command.Command.{Command}
use Rattle.sheet.specs.Commands.{said}
use Rattle.sheet.specs.Racks.{homes_of}
use Rattle.sheet.specs.declared.draft.Draft.{Draft}
use Rattle.sheet.specs.declared.fault.SheetCause.{SheetCause}
use Rattle.sheet.specs.Numbers.{SheetFault}
use Rattle.sheet.specs.Reading.{SoFar, Took, kept, refused, took, fault, Turn, stops, after_taking}

-- a draft, with the length and the slots of the caller's list
abbrev pub so_far : Draft → ℕ → List ℕ → SoFar
so_far d count slots = record {
  stage = d.stage;
  name = d.name;
  disks = d.geometry.disks;
  frames = d.geometry.frames;
  fetch = d.geometry.fetch;
  homes = homes_of d.homes;
  slots = slots;
  count = count;
}

-- a draft, with the caller's list
abbrev pub with_list : Draft → Listed ℕ → SoFar
with_list d list = so_far d list.len list.slots.now

abbrev pub answered : Took → Result (Unit {0}) SheetCause
answered (kept s) = Ok tt
answered (refused c) = Err c

-- the same with the place of the command
abbrev pub placed_answer : ℕ → Took → Result (Unit {0}) SheetFault
placed_answer place (kept s) = Ok tt
placed_answer place (refused c) = Err (fault c place)

-- an answer that is the reader past a command
abbrev pub stepped : Result Reader SheetFault → Result (List ℕ) SheetFault
stepped (Ok after) = Ok after.rest.now
stepped (Err f) = Err f

-- a refused command changes nothing
abbrev pub left : SoFar → Took → SoFar
left s (kept t) = t
left s (refused c) = s

-- a draft took a command, or refused it and is as it was, whatever the caller's list holds
pub record Judged (command : Command) (old : Draft) (answer : Result (Unit {0}) SheetCause) (new : Draft) : Type 0 where
  pub answers : (count : ℕ) (slots : List ℕ) → answer ≡ answered (took (said command) (so_far old count slots))
  pub leaves : (count : ℕ) (slots : List ℕ) → so_far new count slots ≡ left (so_far old count slots) (took (said command) (so_far old count slots))

-- what a turn comes to, from the command that is found at this place and the reader past it, or from the refusal
abbrev pub goes_on : ℕ → SoFar → Result (Command × Reader) SheetFault → Turn
goes_on place s (Ok p) = after_taking place p.1.rest.now (took (said p.0) s)
goes_on place s (Err f) = stops f
