-- One command of a plan on a sheet: what it answers and what it leaves. Assumes nothing.
use Rattle.std.specs.Prelude.{ℕ, List, Ok, Err, Result}
use Rattle.model.specs.Sheet.{Sheet}
use Rattle.model.specs.Timetable.{Side}
use Rattle.model.specs.Verdict.{State, Turn, Goes, Stops, step, Outcome, run, verdict}
use Rattle.plan.specs.Numbers.{PlanFault}
use Rattle.plan.specs.declared.reader.PlanReader.{PlanReader}

abbrev pub step_for : Side → Sheet → ℕ → ℕ → State → List ℕ → Turn
step_for side sheet room total s rest = step side sheet.rack.homes sheet.rack.frames sheet.rack.fetch sheet.requests room total s rest

abbrev pub run_for : Side → Sheet → ℕ → ℕ → ℕ → State → List ℕ → Outcome
run_for side sheet room n total s rest = run side sheet.rack.homes sheet.rack.frames sheet.rack.fetch sheet.requests room n total s rest

-- the verdict on these bytes for this sheet, with room for so many exchanges
abbrev pub verdict_for : Side → Sheet → ℕ → List ℕ → Outcome
verdict_for side sheet room bytes = verdict side sheet.rack.homes sheet.rack.frames sheet.rack.fetch sheet.requests room bytes

abbrev pub step_answer : Turn → Result (List ℕ) PlanFault
step_answer (Goes s rest) = Ok rest
step_answer (Stops cause place) = Err (record { cause = cause; place = place })

-- a refusal changes nothing
abbrev pub step_left : State → Turn → State
step_left s (Goes t rest) = t
step_left s (Stops cause place) = s

-- an answer of the reader past a command: what is left of the bytes
abbrev pub stepped : Result PlanReader PlanFault → Result (List ℕ) PlanFault
stepped (Ok reader) = Ok reader.bytes.rest.now
stepped (Err f) = Err f
