use Rattle.std.proofs.Common.{take}
use Rattle.sheet.specs.Sheets.{meant}
use Rattle.planner.specs.Openings.{Marks, first_of}
use Rattle.planner.proofs.chosen.Chosen.requested.Given as goal

abbrev pub invariant-loop-position : goal.invariant-loop-position
invariant-loop-position l = Marks l.chosen.is l.chosen.count (first_of (meant l.fn.sheet) (take l.position (meant l.fn.sheet).requests))
