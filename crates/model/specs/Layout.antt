-- Where the bytes of a plan stand: the opening first, three bytes for a block; a step has one byte, its letter, behind
-- those of the exchanges that start at its boundary, five bytes each; the end has one.
use Rattle.std.specs.Prelude.{◌≡◌, ℕ, ◌+◌, ◌*◌, ◌<◌, List, length, nat_le, slice_index, slice_index_or}
use Rattle.model.specs.Timetable.{Act, Serve, Wait, Exchange, count, Plan}
use Rattle.model.specs.PlanBytes.{plan_bytes}
use Rattle.model.specs.Statements.{Formed}

-- the letter of a step
abbrev pub letter : Act → ℕ
letter Serve = 83
letter Wait = 87

-- how many exchanges start at boundary t or before it
abbrev pub started_by : List Exchange → ℕ → ℕ
started_by xs t = count (λ x. nat_le x.start t) xs

-- the place of the letter of step t
abbrev pub letter_at : Plan → ℕ → ℕ
letter_at plan t = 3 * length plan.opening + t + 5 * started_by plan.exchanges t

abbrev pub StepLetters : Type 0
StepLetters = (plan : Plan) (t : ℕ) → t < length plan.acts → slice_index (plan_bytes plan) (letter_at plan t) ≡ letter (slice_index_or plan.acts t Wait)

-- how many bytes a plan in form has
abbrev pub PlanSize : Type 0
PlanSize = (plan : Plan) → Formed plan → length (plan_bytes plan) ≡ 3 * length plan.opening + length plan.acts + 5 * length plan.exchanges + 1
