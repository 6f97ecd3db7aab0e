use Rattle.model.proofs.pass.exchanges_are_few.Goals as goal
use Rattle.model.proofs.Bounded.{few_exchanges}

pub returns : goal.returns
returns c = few_exchanges
