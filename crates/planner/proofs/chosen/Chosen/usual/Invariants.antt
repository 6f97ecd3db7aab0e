use Rattle.std.proofs.Common.{◌++◌}
use Rattle.model.specs.Pass.{each}
use Rattle.sheet.specs.Sheets.{meant}
use Rattle.planner.specs.Openings.{Marks, first_of}
use Rattle.planner.proofs.chosen.Chosen.usual.Given as goal

abbrev pub invariant-loop-block : goal.invariant-loop-block
invariant-loop-block l = Marks l.chosen.is l.chosen.count (first_of (meant l.fn.sheet) ((meant l.fn.sheet).requests ++ each (λ b. b) l.block))
