use Rattle.std.proofs.Common.{rules}
use Rattle.std.proofs.lemmas.List.Edits.{map_over_more}
use Rattle.bank.specs.Ticking.{lowered}
use Rattle.bank.proofs.drives.tick_each.Goals as goal

pub loop-state-preserved : goal.loop-state-preserved
loop-state-preserved c = search (rules, map_over_more lowered)
