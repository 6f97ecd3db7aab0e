use Rattle.std.proofs.Common.{◌≡◌, ◌/◌, ◌%◌, arith}
use Rattle.std.specs.List.{flat_map}
use Rattle.model.specs.PlanBytes.{command_bytes}
use Rattle.plan.proofs.Wrote.{said_on}
use Rattle.plan.proofs.writer.Writer.write.Goals as goal

pub returns-in-Trades-clause-more : goal.returns-in-Trades-clause-more
returns-in-Trades-clause-more c =
    let in-high : (c.in-Trades.brings / 256) % 256 ≡ c.in-Trades.brings / 256 = omega arith in
    let out-high : (c.in-Trades.sends / 256) % 256 ≡ c.in-Trades.sends / 256 = omega arith in
    λ cs area w. said_on cs c.args.command _ area _ (rw (c.in-Trades.is, c.to_le_bytes-in-Trades.ensures, c.to_le_bytes-in-Trades-2.ensures, in-high, out-high)) (c.put_all-in-Trades.ensures.more (flat_map command_bytes cs) area w)
