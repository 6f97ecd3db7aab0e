use Rattle.model.proofs.pass.rules_meet_the_law.Goals as goal
use Rattle.model.proofs.Passing.{rules_meet}
use Rattle.model.proofs.Answering.{silence_breaks}

pub returns : goal.returns
returns c = record { met = rules_meet; broken = silence_breaks }
