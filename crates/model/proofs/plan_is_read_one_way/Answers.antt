use Rattle.model.proofs.plan_is_read_one_way.Goals as goal
use Rattle.model.proofs.Once.{one_plan}

pub returns-clause-one : goal.returns-clause-one
returns-clause-one c = one_plan
