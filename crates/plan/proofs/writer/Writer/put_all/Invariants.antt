use Rattle.std.proofs.Common.{◌≡◌, ℕ, List, ◌++◌, take}
use Rattle.plan.specs.Writers.{Wrote}
use Rattle.plan.proofs.writer.Writer.put_all.Given as goal

abbrev pub invariant-loop-byte : goal.invariant-loop-byte
invariant-loop-byte l =
    record {
      more : (bytes area : List ℕ) → Wrote bytes area l.initial.self → Wrote (bytes ++ take l.byte-index l.more) area l.self;
      lent : l.self.area.ghost_name ≡ l.initial.self.area.ghost_name;
    }
