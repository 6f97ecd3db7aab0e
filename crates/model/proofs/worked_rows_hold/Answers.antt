use Rattle.model.proofs.worked_rows_hold.Goals as goal
use Rattle.model.proofs.Rows.{worked_rows, worked_edges, model_tells}

pub returns : goal.returns
returns c = record { rows = worked_rows; edges = worked_edges; told = model_tells }
