use Rattle.model.proofs.pass.lawful_to_a_rule_is_lawful.Goals as goal
use Rattle.model.proofs.Lawfully.{lawful_exact}

pub returns : goal.returns
returns c = lawful_exact
