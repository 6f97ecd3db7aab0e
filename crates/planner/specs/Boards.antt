-- How far a pass has come, as a state of the model: what no rule sees is left blank. Assumes nothing.
use Rattle.std.specs.Prelude.{◌≡◌, List, [], ◌++◌}
use Rattle.model.specs.declared.Exchange.{Exchange}
use Rattle.model.specs.declared.Phase.TheVariants.{Standing}
use Rattle.model.specs.Verdict.{State}
use Rattle.planner.specs.declared.board.Board.{Board}

abbrev pub state_of : Board → State
state_of b = record { phase = Standing; opened = 0; floor = 0; position = b.position; boundary = b.boundary; waits = 0; landing = 0; marks = b.places.marks; idle = b.places.idle; records = [] }

-- a board stands at a state: it has what a rule sees of it
pub record Stands (b : Board) (s : State) : Type 0 where
  pub position : s.position ≡ b.position
  pub boundary : s.boundary ≡ b.boundary
  pub marks : s.marks ≡ b.places.marks
  pub idle : s.idle ≡ b.places.idle

-- From a state to another a board has come by starting some exchanges: they are the records of the one behind those of the other.
pub record Comes (b : Board) (s t : State) (xs : List Exchange) : Type 0 where
  pub stands : Stands b t
  pub starts : t.records ≡ s.records ++ xs
