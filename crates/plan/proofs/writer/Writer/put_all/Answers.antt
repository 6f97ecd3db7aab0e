use Rattle.std.proofs.Common.{take, ◌++◌, ◌∙◌}
use Rattle.plan.proofs.Wrote.{wrote_on}
use Rattle.plan.proofs.writer.Writer.put_all.Goals as goal

pub loop-byte-preserved : goal.loop-byte-preserved
loop-byte-preserved c =
    record {
      more = λ bytes area w. wrote_on bytes c.args.more.now area c.loop-byte.byte-index _ c.loop-byte-test.true (c.put.ensures.more (bytes ++ take c.loop-byte.byte-index c.args.more.now) area (c.loop-byte.invariant.more bytes area w));
      lent = c.put.ensures.lent ∙ c.loop-byte.invariant.lent;
    }
