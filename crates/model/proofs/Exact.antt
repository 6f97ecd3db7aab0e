-- The verdict accepts exactly the bytes of plans that keep the model.
use Rattle.std.proofs.Common.{refl}
use Rattle.model.specs.Verdict.{verdict}
use Rattle.model.specs.Statements.{AcceptsExactly}
use Rattle.model.proofs.Accepts.{accepted_plan}
use Rattle.model.proofs.Written.{written_accepted}

pub accepts_exactly : AcceptsExactly
accepts_exactly side homes frames fetch requests room bytes fit small = (
  λ steps waits exchanges e. accepted_plan side homes frames fetch requests room fit bytes small (verdict side homes frames fetch requests room bytes) steps waits exchanges e refl,
  λ plan w r. written_accepted side homes frames fetch requests room bytes plan fit w r,
)
