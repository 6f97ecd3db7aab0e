-- What the pass makes of a rule's answers, for a sheet. Assumes nothing.
use Rattle.std.specs.Prelude.{◌≡◌, ℕ, Bool, true, false, List, [], ◌∷◌}
use Rattle.model.specs.declared.Exchange.{Exchange}
use Rattle.model.specs.Pass.{starts, screened, asks_need, asks_ahead, asks_disks, asks_all, can_serve, turn, opens, Course}
use Rattle.model.specs.Rules.{Rule}
use Rattle.model.specs.Sheet.{Sheet}
use Rattle.model.specs.Timetable.{Side, Act, Serve, Wait}
use Rattle.model.specs.Verdict.{State, begin}
use Rattle.model.specs.View.{Option, None, Some, View}

abbrev pub starts_for : Side → Sheet → State → ℕ → ℕ → State
starts_for side sheet s a b = starts side sheet.rack.homes sheet.rack.frames sheet.rack.fetch sheet.requests s a b

abbrev pub screened_for : Side → Sheet → View → ℕ → ℕ → ℕ → Bool
screened_for side sheet v d a b = screened side sheet.rack.homes sheet.rack.frames sheet.rack.fetch sheet.requests v d a b

abbrev pub need_for : Side → Sheet → Rule → State → State
need_for side sheet rule s = asks_need side sheet.rack.homes sheet.rack.frames sheet.rack.fetch sheet.requests rule s

abbrev pub ahead_for : Side → Sheet → Rule → ℕ → State → State
ahead_for side sheet rule d s = asks_ahead side sheet.rack.homes sheet.rack.frames sheet.rack.fetch sheet.requests rule d s

abbrev pub disks_for : Side → Sheet → Rule → ℕ → ℕ → State → State
disks_for side sheet rule n d s = asks_disks side sheet.rack.homes sheet.rack.frames sheet.rack.fetch sheet.requests rule n d s

abbrev pub all_for : Side → Sheet → Rule → State → State
all_for side sheet rule s = asks_all side sheet.rack.homes sheet.rack.frames sheet.rack.fetch sheet.requests rule s

abbrev pub can_serve_for : Side → Sheet → State → Bool
can_serve_for side sheet s = can_serve side sheet.rack.homes sheet.rack.frames sheet.rack.fetch sheet.requests s

-- the state after an opening
abbrev pub opens_for : Side → Sheet → List ℕ → State
opens_for side sheet o = opens side sheet.rack.homes sheet.rack.frames sheet.rack.fetch sheet.requests o begin

-- one boundary and its step
abbrev pub turn_for : Side → Sheet → Rule → Course → Course
turn_for side sheet rule c = turn side sheet.rack.homes sheet.rack.frames sheet.rack.fetch sheet.requests rule c

-- an exchange, if there is one
abbrev pub listed : Option Exchange → List Exchange
listed None = []
listed (Some x) = x ∷ []

-- each of some exchanges starts at a boundary
abbrev pub AllAt : ℕ → List Exchange → Type 0
AllAt t [] = Unit {0}
AllAt t (x ∷ xs) = (x.start ≡ t) × AllAt t xs

-- what a step does that serves, or does not
abbrev pub act_of : Bool → Act
act_of true = Serve
act_of false = Wait
