-- What a reading of a sheet, and a sheet that it lends, mean. Assumes nothing.
use Rattle.std.specs.Prelude.{[], ◌∷◌, replicate, Some, None, Ok, Err, Option, Result}
use Rattle.model.specs.Sheet as subject
use Rattle.sheet.specs.Numbers.{SheetFault}
use Rattle.sheet.specs.declared.result.SheetReading.{SheetReading}
use Rattle.sheet.specs.declared.view.Sheet.{Sheet}
use Rattle.sheet.specs.Headers.{rack_of, sheet_of}
use Rattle.sheet.specs.Orders.{in_order}
use Rattle.sheet.specs.Reading.{Verdict, fit, unfit}

-- the sheet of a reading
abbrev pub kept_sheet : SheetReading → subject.Sheet
kept_sheet r = sheet_of r.header r.slots.now

-- a sheet with nothing to read
abbrev pub blank_sheet : subject.Sheet
blank_sheet = record { name = replicate 16 32; rack = record { disks = 1; frames = 1; fetch = 1; homes = 0 ∷ [] }; requests = [] }

abbrev pub fault_in : Verdict → Option SheetFault
fault_in (fit s) = None
fault_in (unfit f) = Some f

abbrev pub outcome_answer : Option SheetFault → Result (Unit {0}) SheetFault
outcome_answer None = Ok tt
outcome_answer (Some f) = Err f

-- a refused sheet leaves a blank one
abbrev pub sheet_after : Verdict → subject.Sheet
sheet_after (fit s) = s
sheet_after (unfit f) = blank_sheet

-- a sheet if it was accepted, or the refusal
abbrev accepted_as : subject.Sheet → Result (Unit {0}) SheetFault → Result subject.Sheet SheetFault
accepted_as s (Ok x) = Ok s
accepted_as s (Err f) = Err f

-- the sheet of a reading whose bytes were accepted, or the refusal
abbrev pub kept_answer : SheetReading → Result subject.Sheet SheetFault
kept_answer r = accepted_as (kept_sheet r) r.outcome

-- a sheet that is lent
abbrev pub meant : Sheet → subject.Sheet
meant s = record { name = s.name.now; rack = rack_of s.rack.now; requests = in_order s.requests }

-- a sheet that is lent, or a refusal
abbrev pub answer_meant : Result Sheet SheetFault → Result subject.Sheet SheetFault
answer_meant (Ok s) = Ok (meant s)
answer_meant (Err f) = Err f
