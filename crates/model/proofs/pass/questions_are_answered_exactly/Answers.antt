use Rattle.model.proofs.pass.questions_are_answered_exactly.Goals as goal
use Rattle.model.proofs.Answering.{firsts_exact, latests_exact}

pub returns : goal.returns
returns c = record { firsts = firsts_exact; latests = latests_exact }
