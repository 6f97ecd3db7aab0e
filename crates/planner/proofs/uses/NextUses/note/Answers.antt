use Rattle.std.proofs.Common.{sym, arith}
use Rattle.sheet.specs.Sheets.{meant}
use Rattle.sheet.proofs.Known.{few}
use Rattle.planner.proofs.Indexing.{one_more}
use Rattle.planner.proofs.uses.NextUses.note.Goals as goal

pub add-requires : goal.add-requires
add-requires c = record { known = c.block_at.ensures.few; within = omega (arith, few c.args.sheet) }

pub returns : goal.returns
returns c =
    rw (c.add.ensures.next, c.add.ensures.after)
    (one_more (meant c.args.sheet).requests c.args.position c.block_at.result c.args.self.now.next c.args.self.now.after c.requires.index c.requires.within (sym c.block_at.ensures.is) c.block_at.ensures.few (omega arith) (omega (arith, few c.args.sheet)))
