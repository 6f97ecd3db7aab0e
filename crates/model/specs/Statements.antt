-- What is proved of the verdict and of plan bytes.
use Rattle.std.specs.Prelude.{◌≡◌, ℕ, ◌<◌, ◌≤◌, ◌⊎◌, List, length, slice_index, slice_index_or}
use Rattle.model.specs.Timetable.{Act, Side, opposite, Exchange, swapped, occupies, none, Plan, Keeps, KeepsPlainly, waited, Resident, InFlight, Absent}
use Rattle.model.specs.PlanBytes.{plan_bytes, plan_limit}
use Rattle.model.specs.Verdict.{Accepted, Refused, Cause, Outcome, verdict, most_blocks, most_disks}
use Rattle.model.specs.Refusals.{RefusedAt, RefusedAfter}

-- What holds of every rack: its limits on blocks and disks, and a fetch of at least one step.
pub record Fit (homes : List ℕ) (fetch : ℕ) : Type 0 where
  pub few : length homes ≤ most_blocks
  pub on_disks : (b : ℕ) → b < length homes → slice_index homes b < most_disks
  pub lasts : 0 < fetch

-- what the verdict says of an accepted plan: its steps, its waits, its exchanges
abbrev pub plan_outcome : Plan → Outcome
plan_outcome plan = record { answer = Accepted (length plan.acts) (waited plan.acts) (length plan.exchanges); records = plan.exchanges }

-- Bytes are those of a plan that keeps the model, within the limit.
pub record WrittenBy (side : Side) (homes : List ℕ) (frames fetch : ℕ) (requests : List ℕ) (bytes : List ℕ) (plan : Plan) : Type 0 where
  pub keeps : Keeps side homes frames fetch requests plan
  pub written : bytes ≡ plan_bytes plan
  pub within : length bytes ≤ plan_limit

-- The verdict accepts exactly the bytes, within the limit, of plans that keep the model, given list enough; and
-- what it says is then that plan's own steps, waits and exchanges.
abbrev pub AcceptsExactly : Type 0
AcceptsExactly =
    (side : Side) (homes : List ℕ) (frames fetch : ℕ) (requests : List ℕ) (room : ℕ) (bytes : List ℕ) →
    Fit homes fetch → ((i : ℕ) → i < length bytes → slice_index bytes i < 256) →
    ((steps waits exchanges : ℕ) → (verdict side homes frames fetch requests room bytes).answer ≡ Accepted steps waits exchanges →
    (plan : Plan) × WrittenBy side homes frames fetch requests bytes plan × (verdict side homes frames fetch requests room bytes ≡ plan_outcome plan))
    × ((plan : Plan) → WrittenBy side homes frames fetch requests bytes plan → length plan.exchanges ≤ room →
    verdict side homes frames fetch requests room bytes ≡ plan_outcome plan)

-- A plan in form: starts never fall along the list, and each lies before a step.
pub record Formed (plan : Plan) : Type 0 where
  pub in_order : (i j : ℕ) → i < j → j < length plan.exchanges → (slice_index_or plan.exchanges i none).start ≤ (slice_index_or plan.exchanges j none).start
  pub before_step : (i : ℕ) → i < length plan.exchanges → (slice_index_or plan.exchanges i none).start < length plan.acts

-- A plan in form is determined by its bytes, and a plan that keeps the model is in form.
abbrev pub OnePlan : Type 0
OnePlan = (p q : Plan) → Formed p → Formed q → plan_bytes p ≡ plan_bytes q → p ≡ q

abbrev pub KeepsForm : Type 0
KeepsForm = (side : Side) (homes : List ℕ) (frames fetch : ℕ) (requests : List ℕ) (plan : Plan) → 0 < fetch → Keeps side homes frames fetch requests plan → Formed plan

-- To keep the model exchange by exchange, each lawful after those listed before it, is to keep it over the whole
-- plan.
abbrev pub PlainReading : Type 0
PlainReading =
    (side : Side) (homes : List ℕ) (frames fetch : ℕ) (requests : List ℕ) (plan : Plan) → 0 < fetch →
    (Keeps side homes frames fetch requests plan → KeepsPlainly side homes frames fetch requests plan)
    × (KeepsPlainly side homes frames fetch requests plan → Keeps side homes frames fetch requests plan)

-- Each side is the opposite of its opposite, and an exchange and its swapped form take the same disk on the two.
pub record OppositeSides : Type 0 where
  pub twice : (side : Side) → opposite (opposite side) ≡ side
  pub same_disk : (side : Side) (homes : List ℕ) (x : Exchange) → occupies (opposite side) homes (swapped x) ≡ occupies side homes x

-- In a plan that keeps the model each block is at each boundary, between its landings and its starts, in exactly one
-- of three places.
pub record InOnePlace (fetch : ℕ) (plan : Plan) (b t : ℕ) : Type 0 where
  pub somewhere : Resident fetch plan.opening plan.exchanges b t ⊎ (InFlight fetch plan.opening plan.exchanges b t ⊎ Absent plan.opening plan.exchanges b t)
  pub here_or_flying : Resident fetch plan.opening plan.exchanges b t → InFlight fetch plan.opening plan.exchanges b t → ⊥
  pub here_or_away : Resident fetch plan.opening plan.exchanges b t → Absent plan.opening plan.exchanges b t → ⊥
  pub flying_or_away : InFlight fetch plan.opening plan.exchanges b t → Absent plan.opening plan.exchanges b t → ⊥

abbrev pub OnePlace : Type 0
OnePlace =
    (side : Side) (homes : List ℕ) (frames fetch : ℕ) (requests : List ℕ) (plan : Plan) → 0 < fetch → Keeps side homes frames fetch requests plan →
    (b t : ℕ) → InOnePlace fetch plan b t

-- what the verdict says of refused bytes, with the exchanges listed before
abbrev pub refused_with : Cause → ℕ → List Exchange → Outcome
refused_with cause place xs = record { answer = Refused cause place; records = xs }

-- Bytes are refused with a cause at a place exactly if that is the first rule broken after a plan that keeps the
-- model as far as it is read, and the list then holds the exchanges of that plan.
abbrev pub RefusesExactly : Type 0
RefusesExactly =
    (side : Side) (homes : List ℕ) (frames fetch : ℕ) (requests : List ℕ) (room : ℕ) (bytes : List ℕ) →
    Fit homes fetch → ((i : ℕ) → i < length bytes → slice_index bytes i < 256) → (cause : Cause) (place : ℕ) →
    ((verdict side homes frames fetch requests room bytes).answer ≡ Refused cause place →
    ((o : List ℕ) × (a : List Act) × (xs : List Exchange) × (rest : List ℕ) × RefusedAt side homes frames fetch requests room bytes cause place o a xs rest × (verdict side homes frames fetch requests room bytes ≡ refused_with cause place xs))
    ⊎ ((plan : Plan) × (rest : List ℕ) × RefusedAfter side homes frames fetch requests room bytes cause place plan rest × (verdict side homes frames fetch requests room bytes ≡ refused_with cause place plan.exchanges)))
    × ((o : List ℕ) (a : List Act) (xs : List Exchange) (rest : List ℕ) → RefusedAt side homes frames fetch requests room bytes cause place o a xs rest → verdict side homes frames fetch requests room bytes ≡ refused_with cause place xs)
    × ((plan : Plan) (rest : List ℕ) → RefusedAfter side homes frames fetch requests room bytes cause place plan rest → verdict side homes frames fetch requests room bytes ≡ refused_with cause place plan.exchanges)
