-- What starts at a boundary leave of a course. Assumes nothing.
use Rattle.std.specs.Prelude.{◌≡◌, ◌+◌, Bool, List, length}
use Rattle.model.specs.declared.Exchange.{Exchange}
use Rattle.model.specs.Pass as subject
use Rattle.model.specs.Sheet.{Sheet}
use Rattle.model.specs.Timetable.{Side, Act, bit}
use Rattle.model.specs.Verdict.{State}
use Rattle.plan.specs.Headings.{side_of}
use Rattle.sheet.specs.Sheets.{meant}
use Rattle.planner.specs.Asked.{AllAt}
use Rattle.planner.specs.Boards.{Stands, Comes}
use Rattle.planner.specs.declared.course.Course.{Course}

-- The same is planned, from the same position and boundary; and from each state at which the board stood it has come, by starting these
-- exchanges, to what a step of the pass makes of that state.
pub record Starts (old new : Course) (step : Side → Sheet → State → State) (xs : List Exchange) : Type 0 where
  pub heading : new.heading ≡ old.heading
  pub sheet : new.sheet ≡ old.sheet
  pub position : new.board.position ≡ old.board.position
  pub boundary : new.board.boundary ≡ old.board.boundary
  pub now : AllAt old.board.boundary xs
  pub comes : (s : State) → Stands old.board s → Comes new.board s (step (side_of old.heading) (meant old.sheet) s) xs

-- The same, while a scribe takes down what starts: where it held the exchanges of the state and the acts up to its boundary, it holds those
-- of the state after.
pub record Asks (old new : Course) (step : Side → Sheet → State → State) (held holds : List Exchange → List Act → Type 0) : Type 0 where
  pub heading : new.heading ≡ old.heading
  pub sheet : new.sheet ≡ old.sheet
  pub position : new.board.position ≡ old.board.position
  pub boundary : new.board.boundary ≡ old.board.boundary
  pub stands : (s : State) → Stands old.board s → Stands new.board (step (side_of old.heading) (meant old.sheet) s)
  pub taken : (s : State) (acts : List Act) → Stands old.board s → length acts ≡ old.board.boundary → held s.records acts → holds (step (side_of old.heading) (meant old.sheet) s).records acts

-- one step on, that serves or waits
pub record Steps (old new : Course) (serves : Bool) : Type 0 where
  pub heading : new.heading ≡ old.heading
  pub sheet : new.sheet ≡ old.sheet
  pub position : new.board.position ≡ old.board.position + bit serves
  pub boundary : new.board.boundary ≡ old.board.boundary + 1
  pub places : new.board.places ≡ old.board.places

-- A course and a scribe are at what the model has of a pass: the board stands at its state, and the scribe holds its exchanges and acts.
pub record At (o : Course) (holds : List Exchange → List Act → Type 0) (c : subject.Course) : Type 0 where
  pub stands : Stands o.board c.state
  pub steps : length c.acts ≡ o.board.boundary
  pub held : holds c.state.records c.acts

-- From wherever they were at they come to what a step of the model makes of that, one boundary on.
pub record Turns (old new : Course) (step : Side → Sheet → subject.Course → subject.Course) (held holds : List Exchange → List Act → Type 0) : Type 0 where
  pub heading : new.heading ≡ old.heading
  pub sheet : new.sheet ≡ old.sheet
  pub boundary : new.board.boundary ≡ old.board.boundary + 1
  pub comes : (c : subject.Course) → At old held c → At new holds (step (side_of old.heading) (meant old.sheet) c)
