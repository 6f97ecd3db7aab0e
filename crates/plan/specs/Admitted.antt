-- Whether a command may stand where it stands, before its own tests. Assumes nothing.
use Rattle.std.specs.Prelude.{ℕ, ◌-◌, List, length, cond, Ok, Err, Result, nat_le}
use Rattle.model.specs.declared.Cause.{Cause}
use Rattle.model.specs.declared.Cause.TheVariants.{RunsOut, OutOfPlace, OverLimit}
use Rattle.model.specs.declared.Command.{Command}
use Rattle.model.specs.declared.Phase.{Phase}
use Rattle.model.specs.Verdict.{Found, Missing, Strange, Known, found, size, in_place, is_over, within_limit, place_of}
use Rattle.plan.specs.declared.reader.PlanReader.{PlanReader}
use Rattle.plan.specs.Numbers.{PlanFault}

-- the place of a reader in its plan
abbrev pub place_in : PlanReader → ℕ
place_in r = r.bytes.total - length r.bytes.rest.now

-- one byte that no command has there
abbrev pub stray : ℕ → ℕ → Cause
stray total place = cond (within_limit total place 1) OutOfPlace OverLimit

abbrev pub command_admitted : Phase → Command → ℕ → ℕ → ℕ → Result Command Cause
command_admitted phase c total place left =
    cond (within_limit total place (size c))
    (cond (in_place phase c) (cond (nat_le (size c) left) (Ok c) (Err RunsOut)) (Err OutOfPlace))
    (Err OverLimit)

abbrev pub admit_found : Phase → Found → ℕ → ℕ → ℕ → Result Command Cause
admit_found phase Missing total place left = Err RunsOut
admit_found phase Strange total place left = Err (stray total place)
admit_found phase (Known c) total place left = command_admitted phase c total place left

-- past the end any byte is out of place
abbrev pub admitted : Phase → Found → ℕ → ℕ → ℕ → Result Command Cause
admitted phase f total place left = cond (is_over phase) (Err (stray total place)) (admit_found phase f total place left)

-- the admission of what stands at the front of the rest
abbrev pub admitted_of : Phase → ℕ → List ℕ → Result Command Cause
admitted_of phase total rest = admitted phase (found rest) total (total - length rest) (length rest)

-- an answer told with its place
abbrev pub told_of : {T : Type 0} → ℕ → ℕ → Result T Cause → Result T PlanFault
told_of total place (Ok x) = Ok x
told_of total place (Err c) = Err (record { cause = c; place = place_of c total place })
