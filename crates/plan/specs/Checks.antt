-- What an answer of the check says. Assumes nothing.
use Rattle.std.specs.Prelude.{◌≡◌, ℕ, ◌≤◌, ◌⊎◌, List, length, Ok, Err, Result}
use Rattle.model.specs.Sheet.{Sheet}
use Rattle.model.specs.Timetable.{Side, Plan, Act}
use Rattle.model.specs.Statements.{WrittenBy, plan_outcome, refused_with}
use Rattle.model.specs.Refusals.{RefusedAt, RefusedAfter}
use Rattle.model.specs.declared.Cause.{Cause}
use Rattle.model.specs.declared.Exchange.{Exchange}
use Rattle.model.specs.Verdict.{Answer, Outcome, Accepted, Refused}
use Rattle.plan.specs.declared.counts.Counts.{Counts}
use Rattle.plan.specs.Numbers.{PlanFault}
use Rattle.plan.specs.Steps.{verdict_for}

-- an answer, with the exchanges that the list holds
abbrev pub outcome_of : Result Counts PlanFault → List Exchange → Outcome
outcome_of (Ok c) xs = record { answer = Accepted c.steps c.waits c.exchanges; records = xs }
outcome_of (Err f) xs = record { answer = Refused f.cause f.place; records = xs }

-- an answer by itself
abbrev pub answer_of : Result Counts PlanFault → Answer
answer_of (Ok c) = Accepted c.steps c.waits c.exchanges
answer_of (Err f) = Refused f.cause f.place

-- bytes that a plan which keeps the model on this sheet has, within the limit
abbrev pub WrittenFor : Side → Sheet → List ℕ → Plan → Type 0
WrittenFor side sheet bytes plan = WrittenBy side sheet.rack.homes sheet.rack.frames sheet.rack.fetch sheet.requests bytes plan

-- Given list enough, bytes are accepted exactly if a plan that keeps the model has them, and the counts and exchanges are that plan's.
-- They are refused with a cause at a place exactly if that is the first rule broken, and the exchanges are those before it.
pub record ChecksExactly (side : Side) (sheet : Sheet) (room : ℕ) (bytes : List ℕ) : Type 0 where
  pub accepts : (plan : Plan) → WrittenFor side sheet bytes plan → length plan.exchanges ≤ room → verdict_for side sheet room bytes ≡ plan_outcome plan
  pub only : (steps waits exchanges : ℕ) → (verdict_for side sheet room bytes).answer ≡ Accepted steps waits exchanges → (plan : Plan) × WrittenFor side sheet bytes plan × (verdict_for side sheet room bytes ≡ plan_outcome plan)
  pub refuses : (cause : Cause) (place : ℕ) → (verdict_for side sheet room bytes).answer ≡ Refused cause place → ((o : List ℕ) × (a : List Act) × (xs : List Exchange) × (rest : List ℕ) × RefusedAt side sheet.rack.homes sheet.rack.frames sheet.rack.fetch sheet.requests room bytes cause place o a xs rest × (verdict_for side sheet room bytes ≡ refused_with cause place xs)) ⊎ ((plan : Plan) × (rest : List ℕ) × RefusedAfter side sheet.rack.homes sheet.rack.frames sheet.rack.fetch sheet.requests room bytes cause place plan rest × (verdict_for side sheet room bytes ≡ refused_with cause place plan.exchanges))
  pub breaks : (cause : Cause) (place : ℕ) (o : List ℕ) (a : List Act) (xs : List Exchange) (rest : List ℕ) → RefusedAt side sheet.rack.homes sheet.rack.frames sheet.rack.fetch sheet.requests room bytes cause place o a xs rest → verdict_for side sheet room bytes ≡ refused_with cause place xs
  pub trails : (cause : Cause) (place : ℕ) (plan : Plan) (rest : List ℕ) → RefusedAfter side sheet.rack.homes sheet.rack.frames sheet.rack.fetch sheet.requests room bytes cause place plan rest → verdict_for side sheet room bytes ≡ refused_with cause place plan.exchanges
