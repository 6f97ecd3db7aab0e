use Rattle.std.proofs.Common.{◌≡◌}
use Rattle.bank.specs.Fetched.{later}
use Rattle.bank.proofs.fetch.wait.Given as goal

-- so many steps have passed
abbrev pub invariant-loop-passed : goal.invariant-loop-passed
invariant-loop-passed g l = g.B.Bank.meaning l.bank ≡ later l._passed (g.B.Bank.meaning l.initial.bank)
