use Rattle.std.proofs.Common.{◌≡◌}
use Rattle.model.specs.Mirror.{picked}
use Rattle.planner.specs.Openings.{opened}
use Rattle.planner.proofs.Rising.{is_first}
use Rattle.planner.proofs.opening.Opening.usual.Given as goal

abbrev pub invariant-loop-block : goal.invariant-loop-block
invariant-loop-block l = opened l.opening ≡ picked (is_first l.fn.sheet) l.block
