-- What is proved of the mirror of a plan.
use Rattle.std.specs.Prelude.{◌≡◌, ℕ, ◌+◌, ◌<◌, ◌≤◌, List, map, reverse, length, slice_index}
use Rattle.model.specs.Timetable.{Side, opposite, Plan, Keeps, Resident, home, waited}
use Rattle.model.specs.PlanBytes.{starting_at, plan_bytes}
use Rattle.model.specs.Verdict.{Accepted, verdict}
use Rattle.model.specs.Statements.{Fit, WrittenBy}
use Rattle.model.specs.Mirror.{closing, reflected, mirrored}

-- The mirror of a plan that keeps the model keeps it on the opposite side, for the requests reversed.
abbrev pub MirrorKeeps : Type 0
MirrorKeeps =
    (side : Side) (homes : List ℕ) (frames fetch : ℕ) (requests : List ℕ) (plan : Plan) → 0 < fetch → Keeps side homes frames fetch requests plan →
    Keeps (opposite side) homes frames fetch (reverse requests) (mirrored (length homes) fetch plan)

-- One plan has as many steps, waits and exchanges as another.
pub record Alike (p q : Plan) : Type 0 where
  pub steps : length p.acts ≡ length q.acts
  pub waits : waited p.acts ≡ waited q.acts
  pub trades : length p.exchanges ≡ length q.exchanges

-- The mirror of any plan has as many as the plan.
abbrev pub MirrorAlike : Type 0
MirrorAlike = (blocks fetch : ℕ) (plan : Plan) → Alike (mirrored blocks fetch plan) plan

-- The mirror of the mirror of a plan that keeps the model is the plan.
abbrev pub MirrorTwice : Type 0
MirrorTwice =
    (side : Side) (homes : List ℕ) (frames fetch : ℕ) (requests : List ℕ) (plan : Plan) → 0 < fetch → Keeps side homes frames fetch requests plan →
    mirrored (length homes) fetch (mirrored (length homes) fetch plan) ≡ plan

-- A block is in the closing content exactly if it is resident at the last boundary.
pub record Closes (blocks fetch : ℕ) (plan : Plan) (b : ℕ) : Type 0 where
  pub inside : Resident fetch plan.opening plan.exchanges b (length plan.acts) → home (closing blocks fetch plan) b ≡ 1
  pub resident : home (closing blocks fetch plan) b ≡ 1 → Resident fetch plan.opening plan.exchanges b (length plan.acts)

abbrev pub ClosingContent : Type 0
ClosingContent = (blocks fetch : ℕ) (plan : Plan) (b : ℕ) → b < blocks → Closes blocks fetch plan b

-- The mirror of a plan that keeps the model has as many bytes as the plan.
abbrev pub MirrorSize : Type 0
MirrorSize =
    (side : Side) (homes : List ℕ) (frames fetch : ℕ) (requests : List ℕ) (plan : Plan) → 0 < fetch → Keeps side homes frames fetch requests plan →
    length (plan_bytes (mirrored (length homes) fetch plan)) ≡ length (plan_bytes plan)

-- Where bytes are those of a plan that keeps the model, within the limit, so are the bytes of its mirror.
abbrev pub MirrorWritten : Type 0
MirrorWritten =
    (side : Side) (homes : List ℕ) (frames fetch : ℕ) (requests bytes : List ℕ) (plan : Plan) → 0 < fetch → WrittenBy side homes frames fetch requests bytes plan →
    WrittenBy (opposite side) homes frames fetch (reverse requests) (plan_bytes (mirrored (length homes) fetch plan)) (mirrored (length homes) fetch plan)

-- Bytes of a plan, what they were accepted with, and the plan's mirror: given list enough, its bytes are accepted
-- on the opposite side for the requests reversed, with the same steps, waits and exchanges; and the mirror of the
-- mirror has the first bytes.
pub record MirroredBytes (side : Side) (homes : List ℕ) (frames fetch : ℕ) (requests bytes : List ℕ) (steps waits exchanges : ℕ) (plan : Plan) : Type 0 where
  pub written : WrittenBy side homes frames fetch requests bytes plan
  pub accepted : (room : ℕ) → exchanges ≤ room →
      verdict (opposite side) homes frames fetch (reverse requests) room (plan_bytes (mirrored (length homes) fetch plan))
      ≡ record { answer = Accepted steps waits exchanges; records = (mirrored (length homes) fetch plan).exchanges }
  pub back : plan_bytes (mirrored (length homes) fetch (mirrored (length homes) fetch plan)) ≡ bytes

-- Whenever the verdict accepts bytes, they are those of a plan with such a mirror.
abbrev pub MirrorAccepted : Type 0
MirrorAccepted =
    (side : Side) (homes : List ℕ) (frames fetch : ℕ) (requests : List ℕ) (room : ℕ) (bytes : List ℕ) → Fit homes fetch → ((i : ℕ) → i < length bytes → slice_index bytes i < 256) →
    (steps waits exchanges : ℕ) → (verdict side homes frames fetch requests room bytes).answer ≡ Accepted steps waits exchanges →
    (plan : Plan) × MirroredBytes side homes frames fetch requests bytes steps waits exchanges plan

-- The exchanges that start at a boundary of the mirror are those that land at that boundary counted from the end of
-- the plan, reflected and listed in reverse.
abbrev pub MirrorOrder : Type 0
MirrorOrder =
    (side : Side) (homes : List ℕ) (frames fetch : ℕ) (requests : List ℕ) (plan : Plan) → Keeps side homes frames fetch requests plan →
    (t u : ℕ) → t + (u + fetch) ≡ length plan.acts →
    starting_at t (mirrored (length homes) fetch plan).exchanges ≡ reverse (map (reflected (length plan.acts) fetch) (starting_at u plan.exchanges))
