use Rattle.std.proofs.Common.{sym, arith}
use Rattle.sheet.specs.Sheets.{meant}
use Rattle.sheet.proofs.Known.{few}
use Rattle.planner.proofs.Indexing.{one_less}
use Rattle.planner.proofs.uses.NextUses.pass.Goals as goal

pub remove-requires : goal.remove-requires
remove-requires c = record { known = c.block_at.ensures.few; within = omega (arith, few c.args.sheet) }

pub returns : goal.returns
returns c =
    rw (c.remove.ensures.next, c.remove.ensures.after)
    (one_less (meant c.args.sheet).requests c.args.position c.block_at.result c.args.self.now.next c.args.self.now.after c.requires.index c.requires.within (sym c.block_at.ensures.is) c.block_at.ensures.few (omega arith))
