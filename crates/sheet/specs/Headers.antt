-- What a rack, a header with the caller's slots, and an answer of reading mean. Assumes nothing.
use Rattle.std.specs.Prelude.{ℕ, List, take, Ok, Err, Result}
use Rattle.model.specs.Sheet as subject
use Rattle.sheet.specs.Numbers.{SheetFault}
use Rattle.sheet.specs.declared.header.Header.{Header}
use Rattle.sheet.specs.declared.rack.Rack.{Rack}
use Rattle.sheet.specs.Racks.{rack_with}
use Rattle.sheet.specs.Reading.{Outcome, fit, unfit}

abbrev pub rack_of : Rack → subject.Rack
rack_of r = rack_with r.geometry r.homes

-- the first slots are the requests
abbrev pub sheet_of : Header → List ℕ → subject.Sheet
sheet_of h slots = record { name = h.name; rack = rack_of h.rack; requests = take h.requests slots }

abbrev pub outcome_of : Result Header SheetFault → List ℕ → Outcome
outcome_of (Ok h) slots = record { verdict = fit (sheet_of h slots); slots = slots }
outcome_of (Err f) slots = record { verdict = unfit f; slots = slots }
