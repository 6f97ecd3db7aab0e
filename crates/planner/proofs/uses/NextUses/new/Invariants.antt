use Rattle.sheet.specs.Sheets.{meant}
use Rattle.planner.specs.Uses.{Indexes}
use Rattle.planner.proofs.uses.NextUses.new.Given as goal

abbrev pub invariant-loop-position : goal.invariant-loop-position
invariant-loop-position l = Indexes (meant l.fn.sheet).requests l.position l.uses.next l.uses.after
