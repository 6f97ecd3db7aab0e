-- What mirroring a plan answers, and what it leaves in the caller's list and area. Assumes nothing.
use Rattle.std.specs.Prelude.{◌≡◌, ℕ, ◌<◌, ◌≤◌, Bool, true, false, List, length, take, nat_le, Ok, Err, Result}
use Rattle.refusal.specs.declared.refusal.Refusal.{Refusal}
use Rattle.refusal.specs.declared.refusal.Layer.TheVariants.{Plan as PlanLayer}
use Rattle.records.specs.Records.{written_over}
use Rattle.model.specs.Sheet.{Sheet, turned}
use Rattle.model.specs.Timetable.{Side, opposite, Plan, waited}
use Rattle.model.specs.PlanBytes.{plan_bytes}
use Rattle.model.specs.Mirror.{mirrored}
use Rattle.model.specs.Verdict.{Answer, Accepted, Refused, Outcome}
use Rattle.model.specs.declared.Exchange.{Exchange}
use Rattle.plan.specs.declared.counts.Counts.{Counts}
use Rattle.plan.specs.declared.mirror_fault.MirrorFault.{MirrorFault}
use Rattle.plan.specs.declared.mirror_fault.MirrorFault.TheVariants.{Check, AreaTooShort}
use Rattle.plan.specs.Checks.{WrittenFor}
use Rattle.plan.specs.Numbers.{refusal_of}
use Rattle.plan.specs.Plans.{plan_in}
use Rattle.plan.specs.Steps.{verdict_for}
use Rattle.plan.specs.Writers.{filled}

-- what a caller is told of a refused mirror: the check's own refusal, or that the area is too short, which is at no place of the plan
abbrev pub told : MirrorFault → Refusal
told (Check fault) = refusal_of fault
told AreaTooShort = record { number = 16; layer = PlanLayer; place = 0 }

-- the mirror of a plan on a sheet
abbrev pub mirror_of : Sheet → Plan → Plan
mirror_of sheet plan = mirrored (length sheet.rack.homes) sheet.rack.fetch plan

-- the bytes of the mirror of the plan that bytes are
abbrev pub image : Sheet → List ℕ → List ℕ
image sheet bytes = plan_bytes (mirror_of sheet (plan_in bytes))

-- An answer, with what the list and the area are then.
pub record Left : Type 0 where
  pub answer : Result Counts MirrorFault
  pub slots : List Exchange
  pub area : List ℕ

-- the counts, where there was room
abbrev pub granted_if : Bool → Counts → Result Counts MirrorFault
granted_if true counts = Ok counts
granted_if false counts = Err AreaTooShort

-- The slots hold the records of the plan that was given. The area holds the mirror, or as many of its first bytes as there is room for;
-- it is kept where the check refuses.
abbrev pub left_by : Sheet → List ℕ → List Exchange → List ℕ → List Exchange → Answer → Left
left_by sheet bytes slots area records (Accepted steps waits exchanges) =
    record {
      answer = granted_if (nat_le (length (image sheet bytes)) (length area)) (record { steps = steps; waits = waits; exchanges = exchanges });
      slots = written_over records slots;
      area = filled (image sheet bytes) area;
    }
left_by sheet bytes slots area records (Refused cause place) = record { answer = Err (Check (record { cause = cause; place = place })); slots = written_over records slots; area = area }

abbrev pub left_for : Sheet → List ℕ → List Exchange → List ℕ → Outcome → Left
left_for sheet bytes slots area said = left_by sheet bytes slots area said.records said.answer

-- what mirroring bytes on a side gives
abbrev pub mirror_for : Side → Sheet → List ℕ → List Exchange → List ℕ → Left
mirror_for side sheet bytes slots area = left_for sheet bytes slots area (verdict_for side sheet (length slots) bytes)

abbrev pub counts_of : Plan → Counts
counts_of plan = record { steps = length plan.acts; waits = waited plan.acts; exchanges = length plan.exchanges }

-- Bytes that are accepted with these counts are those of a plan that keeps the model. Those of its mirror are as many, and are accepted
-- on the opposite side of the turned sheet with the same counts. Mirrored there they give the first bytes.
pub record MirrorsBack (side : Side) (sheet : Sheet) (bytes : List ℕ) (counts : Counts) : Type 0 where
  pub written : WrittenFor side sheet bytes (plan_in bytes)
  pub counted : counts_of (plan_in bytes) ≡ counts
  pub keeps : WrittenFor (opposite side) (turned sheet) (image sheet bytes) (mirror_of sheet (plan_in bytes))
  pub as_long : length (image sheet bytes) ≡ length bytes
  pub accepted : (room : ℕ) → counts.exchanges ≤ room →
      verdict_for (opposite side) (turned sheet) room (image sheet bytes) ≡ record { answer = Accepted counts.steps counts.waits counts.exchanges; records = (mirror_of sheet (plan_in bytes)).exchanges }
  pub back : (slots : List Exchange) (area : List ℕ) → counts.exchanges ≤ length slots → length bytes ≤ length area →
      mirror_for (opposite side) (turned sheet) (image sheet bytes) slots area ≡ record { answer = Ok counts; slots = written_over (mirror_of sheet (plan_in bytes)).exchanges slots; area = written_over bytes area }

-- Given list enough, mirroring the bytes of a plan that keeps the model is granted where its mirror has room, and writes the mirror's bytes;
-- where it has not, the area is the first of them. Whatever is accepted mirrors back.
pub record MirrorsExactly (side : Side) (sheet : Sheet) (bytes : List ℕ) : Type 0 where
  pub grants : (plan : Plan) (slots : List Exchange) (area : List ℕ) → WrittenFor side sheet bytes plan → length plan.exchanges ≤ length slots → length (plan_bytes (mirror_of sheet plan)) ≤ length area →
      mirror_for side sheet bytes slots area ≡ record { answer = Ok (counts_of plan); slots = written_over plan.exchanges slots; area = written_over (plan_bytes (mirror_of sheet plan)) area }
  pub cuts : (plan : Plan) (slots : List Exchange) (area : List ℕ) → WrittenFor side sheet bytes plan → length plan.exchanges ≤ length slots → length area < length (plan_bytes (mirror_of sheet plan)) →
      mirror_for side sheet bytes slots area ≡ record { answer = Err AreaTooShort; slots = written_over plan.exchanges slots; area = take (length area) (plan_bytes (mirror_of sheet plan)) }
  pub mirrors_back : (room steps waits exchanges : ℕ) → (verdict_for side sheet room bytes).answer ≡ Accepted steps waits exchanges → MirrorsBack side sheet bytes (record { steps = steps; waits = waits; exchanges = exchanges })
