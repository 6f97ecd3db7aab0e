-- How an accepted plan ends: its counts, and which blocks are there at its last boundary. Assumes nothing.
use Rattle.std.specs.Prelude.{◌≡◌, ℕ, Bool, ◌≤◌, ◌*◌, List, length, take, Ok, Err, Result, slice_index_or}
use Rattle.model.specs.Sheet.{Sheet}
use Rattle.model.specs.Timetable.{Side, Plan}
use Rattle.model.specs.declared.Exchange.{Exchange}
use Rattle.model.specs.declared.Mark.TheVariants.{Away}
use Rattle.model.specs.Verdict.{is_here_at}
use Rattle.model.specs.Mirror.{picked, closing}
use Rattle.plan.specs.declared.counts.Counts.{Counts}
use Rattle.plan.specs.declared.ending.Ending.{Ending}
use Rattle.plan.specs.declared.places.Places.{Places}
use Rattle.plan.specs.Numbers.{PlanFault}
use Rattle.plan.specs.Checks.{WrittenFor}
use Rattle.plan.specs.Plans.{plan_in}

-- an answer with the counts alone
abbrev pub counted : Result Ending PlanFault → Result Counts PlanFault
counted (Ok e) = Ok e.counts
counted (Err f) = Err f

-- whether a block is here at a boundary
abbrev pub here_at : Places → ℕ → ℕ → Bool
here_at places boundary b = is_here_at (slice_index_or places.marks b (Away 0)) boundary

-- the blocks that are here at an ending, of so many, rising
abbrev pub staying : Ending → ℕ → List ℕ
staying e blocks = picked (here_at e.places e.counts.steps) blocks

-- They are the closing content of the plan that was read.
abbrev pub ClosesAs : Side → Sheet → ℕ → List ℕ → Ending → Type 0
ClosesAs side sheet room bytes e =
    (plan : Plan) → WrittenFor side sheet bytes plan → length plan.exchanges ≤ room → staying e (length sheet.rack.homes) ≡ closing (length sheet.rack.homes) sheet.rack.fetch plan

-- An accepted plan as it was followed: the bytes are those of a plan that keeps the model, the first slots hold its exchanges, and the ending
-- has its steps and its closing content.
pub record Ended (side : Side) (sheet : Sheet) (bytes : List ℕ) (slots : List Exchange) (e : Ending) : Type 0 where
  pub written : WrittenFor side sheet bytes (plan_in bytes)
  pub fits : e.counts.exchanges ≤ length slots
  pub listed : take e.counts.exchanges slots ≡ (plan_in bytes).exchanges
  pub few : 5 * e.counts.exchanges ≤ length bytes
  pub steps : e.counts.steps ≡ length (plan_in bytes).acts
  pub closes : staying e (length sheet.rack.homes) ≡ closing (length sheet.rack.homes) sheet.rack.fetch (plan_in bytes)
