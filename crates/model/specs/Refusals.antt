-- Why bytes are refused, in the subject's own words: after a plan that keeps the model as far as it is read, the
-- first rule that what comes next breaks.
use Rattle.std.specs.Prelude.{◌≡◌, ℕ, ◌+◌, ◌<◌, ◌≤◌, ◌⊎◌, List, [], ◌∷◌, ◌++◌, length, get_or, take, ◌≢◌, slice_index, slice_index_or}
use Rattle.std.specs.List.{flat_map}
use Rattle.model.specs.Timetable.{Side, Exchange, none, Act, Serve, Wait, Plan, Keeps, Lawful, Absent, MayGoOut, ResidentDuring, wanted, served, occupies}
use Rattle.model.specs.PlanBytes.{Command, Opens, Trades, Serves, Waits, Ends, command_bytes, so_far, plan_bytes, plan_limit}
use Rattle.model.specs.Verdict.{Cause, RunsOut, OutOfPlace, BadOpening, BadIn, BadOut, DiskBusy, CannotServe, RequestsLeft, NotLanded, ListFull, OverLimit, Found, Missing, Strange, Known, found, size, place_of}

-- A plan keeps the model as far as it is read: an opening o, acts a and exchanges xs.
pub record KeepsSoFar (side : Side) (homes : List ℕ) (frames fetch : ℕ) (requests : List ℕ) (room : ℕ) (o : List ℕ) (a : List Act) (xs : List Exchange) : Type 0 where
  -- the opening fits the frames, and fills them once anything else has come
  pub fits : length o ≤ frames
  pub filled : ((a ≡ []) × (xs ≡ []) → ⊥) → length o ≡ frames
  pub exist : (i : ℕ) → i < length o → slice_index o i < length homes
  pub rise : (i j : ℕ) → i < j → j < length o → slice_index o i < slice_index o j
  pub in_order : (i j : ℕ) → i < j → j < length xs → (get_or xs i none).start ≤ (get_or xs j none).start
  pub started : (i : ℕ) → i < length xs → (get_or xs i none).start ≤ length a
  pub lawful : (i : ℕ) → i < length xs → Lawful side homes fetch o (take i xs) (slice_index_or xs i none)
  pub serves : (t : ℕ) → t < length a → slice_index_or a t Wait ≡ Serve → ResidentDuring fetch o xs (wanted requests a t) t
  -- no more served than requested, no more listed than there is room for
  pub asked : served a ≤ length requests
  pub listed : length xs ≤ room

-- A rule, with what is told where it is broken; of a list the first that is broken tells.
pub record Rule : Type 1 where
  pub holds : Type 0
  pub cause : Cause

abbrev pub rule : Type 0 → Cause → Rule
rule p c = record { holds = p; cause = c }

abbrev pub FirstBroken : List Rule → Cause → Type 0
FirstBroken [] c = ⊥
FirstBroken (r ∷ rs) c = ((r.holds → ⊥) × (c ≡ r.cause)) ⊎ (r.holds × FirstBroken rs c)

-- a command of n bytes at a place does not hold a byte past the limit
abbrev pub WithinLimit : ℕ → ℕ → ℕ → Type 0
WithinLimit total place n = plan_limit < total → plan_limit < place + n → ⊥

-- An opening command is in place before all others, and the end where nothing has started at its boundary.
abbrev pub InPlace : List Act → List Exchange → Command → Type 0
InPlace a xs (Opens b) = (a ≡ []) × (xs ≡ [])
InPlace a xs (Trades p q) = Unit {0}
InPlace a xs Serves = Unit {0}
InPlace a xs Waits = Unit {0}
InPlace a xs Ends = (i : ℕ) → i < length xs → (get_or xs i none).start < length a

module _ (side : Side) (homes : List ℕ) (frames fetch : ℕ) (requests : List ℕ) (room : ℕ) (o : List ℕ) (a : List Act) (xs : List Exchange) where
  -- the rules of a command of its own, after the opening o, the acts a and the exchanges xs
  abbrev pub rules_of : Command → List Rule
  rules_of (Opens b) =
      rule (length o < frames) BadOpening
      ∷ rule ((i : ℕ) → i < length o → slice_index o i < b) BadOpening
      ∷ rule (b < length homes) BadOpening
      ∷ []
  rules_of (Trades p q) =
      rule (length o ≡ frames) BadOpening
      ∷ rule (p < length homes) BadIn
      ∷ rule (Absent o xs p (length a) × ((i : ℕ) → i < length xs → (get_or xs i none).start ≡ length a → (get_or xs i none).brings ≢ p)) BadIn
      ∷ rule (q < length homes) BadOut
      ∷ rule (MayGoOut fetch o xs q (length a)) BadOut
      ∷ rule ((i : ℕ) → i < length xs → occupies side homes (slice_index_or xs i none) ≡ occupies side homes (record { brings = p; sends = q; start = length a }) → (get_or xs i none).start + fetch ≤ length a) DiskBusy
      ∷ rule (length xs < room) ListFull
      ∷ []
  rules_of Serves =
      rule (length o ≡ frames) BadOpening
      ∷ rule (served a < length requests) CannotServe
      ∷ rule (ResidentDuring fetch o xs (slice_index requests (served a)) (length a)) CannotServe
      ∷ []
  rules_of Waits = rule (length o ≡ frames) BadOpening ∷ []
  rules_of Ends =
      rule (length o ≡ frames) BadOpening
      ∷ rule (served a ≡ length requests) RequestsLeft
      ∷ rule ((i : ℕ) → i < length xs → (get_or xs i none).start + fetch ≤ length a) NotLanded
      ∷ []

  -- the rules of what stands at a place, at the front of the rest
  abbrev pub rules_at : ℕ → ℕ → List ℕ → Found → List Rule
  rules_at total place rest Missing = rule ⊥ RunsOut ∷ []
  rules_at total place rest Strange = rule (WithinLimit total place 1) OverLimit ∷ rule ⊥ OutOfPlace ∷ []
  rules_at total place rest (Known c) =
      rule (WithinLimit total place (size c)) OverLimit
      ∷ rule (InPlace a xs c) OutOfPlace
      ∷ rule (size c ≤ length rest) RunsOut
      ∷ rules_of c

-- Bytes are refused at a command: the plan so far keeps the model, and what comes next breaks a rule.
pub record RefusedAt (side : Side) (homes : List ℕ) (frames fetch : ℕ) (requests : List ℕ) (room : ℕ) (bytes : List ℕ) (cause : Cause) (place : ℕ) (o : List ℕ) (a : List Act) (xs : List Exchange) (rest : List ℕ) : Type 0 where
  pub keeps : KeepsSoFar side homes frames fetch requests room o a xs
  pub read : bytes ≡ flat_map command_bytes (so_far o a xs) ++ rest
  pub within : plan_limit < length bytes → length (flat_map command_bytes (so_far o a xs)) ≤ plan_limit
  pub broken : FirstBroken (rules_at side homes frames fetch requests room o a xs (length bytes) (length (flat_map command_bytes (so_far o a xs))) rest (found rest)) cause
  pub told_at : place ≡ place_of cause (length bytes) (length (flat_map command_bytes (so_far o a xs)))

-- Bytes are refused after the end: they begin with those of a plan that keeps the model, and go on.
pub record RefusedAfter (side : Side) (homes : List ℕ) (frames fetch : ℕ) (requests : List ℕ) (room : ℕ) (bytes : List ℕ) (cause : Cause) (place : ℕ) (plan : Plan) (rest : List ℕ) : Type 0 where
  pub keeps : Keeps side homes frames fetch requests plan
  pub listed : length plan.exchanges ≤ room
  pub read : bytes ≡ plan_bytes plan ++ rest
  pub within : plan_limit < length bytes → length (plan_bytes plan) ≤ plan_limit
  pub more : 0 < length rest
  pub broken : FirstBroken (rule (WithinLimit (length bytes) (length (plan_bytes plan)) 1) OverLimit ∷ rule ⊥ OutOfPlace ∷ []) cause
  pub told_at : place ≡ length (plan_bytes plan)
