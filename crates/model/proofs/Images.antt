-- The worked mirrors, computed.
use Rattle.std.proofs.Common.{refl}
use Rattle.model.specs.Timetable.{home, count}
use Rattle.model.specs.PlanBytes.{starting_at, step_commands, plan_commands, plan_bytes}
use Rattle.model.specs.Verdict.{verdict, run, step, after, found, blank_marks, blank_idle}
use Rattle.model.specs.Mirror.{picked}
use Rattle.model.specs.WorkedMirrors.{WorkedMirrors}

pub worked_mirrors : WorkedMirrors
unfolding picked home count plan_bytes plan_commands step_commands starting_at verdict run step after found blank_marks blank_idle
worked_mirrors = record { plans = refl; mirrors = refl; again = refl; accepted = refl; accepted_too = refl }
