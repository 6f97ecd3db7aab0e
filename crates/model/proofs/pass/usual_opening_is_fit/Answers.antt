use Rattle.model.proofs.pass.usual_opening_is_fit.Goals as goal
use Rattle.model.proofs.Usual.{usual_fits, openings_told}

pub returns : goal.returns
returns c = record { usual = usual_fits; told = openings_told }
