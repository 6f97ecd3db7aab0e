-- When a receipt holds: the plan is accepted forward, with these counts, given list enough. Assumes nothing.
use Rattle.std.specs.Prelude.{ℕ, Bool, true, false, ◌&&◌, List, Ok, Err, Result, ◌==◌}
use Rattle.model.specs.Sheet.{Sheet}
use Rattle.model.specs.Timetable.{Forward}
use Rattle.model.specs.Verdict.{Answer, Accepted, Refused}
use Rattle.plan.specs.declared.counts.Counts.{Counts}
use Rattle.plan.specs.Numbers.{PlanFault}
use Rattle.plan.specs.Steps.{verdict_for}

abbrev pub says : Answer → Counts → Bool
says (Accepted steps waits exchanges) c = steps == c.steps && (waits == c.waits && exchanges == c.exchanges)
says (Refused cause place) c = false

-- a void receipt says nothing of the plan
abbrev pub holds : Sheet → List ℕ → Result Counts PlanFault → Bool
holds sheet plan (Ok c) = says (verdict_for Forward sheet c.exchanges plan).answer c
holds sheet plan (Err f) = true
