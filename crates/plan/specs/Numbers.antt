-- A refused plan, and the refusal that a caller is told of it. Assumes nothing.
use Rattle.refusal.specs.declared.refusal.Refusal.{Refusal}
use Rattle.refusal.specs.declared.refusal.Layer.TheVariants.{Plan}
use Rattle.refusal.specs.declared.refused.Refused.{Refused}
use Rattle.model.specs.Verdict.{number}
use Rattle.model.specs.declared.Cause.{Cause}

-- why, and at which byte of the plan
abbrev pub PlanFault : Type 0
PlanFault = Refused Cause

abbrev pub refusal_of : PlanFault → Refusal
refusal_of f = record { number = number f.cause; layer = Plan; place = f.place }
