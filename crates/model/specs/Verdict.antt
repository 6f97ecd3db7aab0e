-- The verdict on any bytes offered as a plan: they are judged command by command, and the first fault tells.
--
-- Marks stand for where things are, so that nothing has to be done when a boundary is reached. A block is here
-- from some boundary on (in flight before it), or away from some boundary on (it was sent out at the boundary
-- before it); a disk is idle from some boundary on.
use Rattle.std.specs.Prelude.{ℕ, zero, suc, ◌+◌, ◌-◌, ◌*◌, Bool, true, false, cond, not, ◌&&◌, List, [], ◌∷◌, ◌++◌, length, drop, replicate, ◌==◌, nat_le, nat_lt, slice_index, slice_index_or, slice_set}
pub use Rattle.model.specs.declared.Phase.{Phase}
pub use Rattle.model.specs.declared.Phase.TheVariants.{Filling, Standing, Starting, Over}
pub use Rattle.model.specs.declared.Cause.{Cause}
pub use Rattle.model.specs.declared.Cause.TheVariants.{RunsOut, OutOfPlace, BadOpening, BadIn, BadOut, DiskBusy, CannotServe, RequestsLeft, NotLanded, ListFull, OverLimit}
pub use Rattle.model.specs.declared.Mark.{Mark}
pub use Rattle.model.specs.declared.Mark.TheVariants.{Away, Here}
use Rattle.model.specs.Timetable.{Exchange, Side, occupies}
use Rattle.model.specs.PlanBytes.{Command, Opens, Trades, Serves, Waits, Ends, plan_limit}

-- the number that a caller is told for each cause
abbrev pub number : Cause → ℕ
number RunsOut = 7
number OutOfPlace = 8
number BadOpening = 9
number BadIn = 10
number BadOut = 11
number DiskBusy = 12
number CannotServe = 13
number RequestsLeft = 14
number NotLanded = 15
number ListFull = 17
number OverLimit = 18

-- What the verdict says: accepted with steps, waits and exchanges, or refused with a cause and a place; and the
-- exchange records of the commands judged before.
pub data Answer : Type 0 where
  Accepted : ℕ → ℕ → ℕ → Answer
  Refused : Cause → ℕ → Answer

pub record Outcome : Type 0 where
  pub answer : Answer
  pub records : List Exchange

-- Where a block is: Away g is away from boundary g on, Here l is here from boundary l on.

-- can be brought in at boundary t
abbrev pub is_away_at : Mark → ℕ → Bool
is_away_at (Away g) t = nat_le g t
is_away_at (Here l) t = false

-- can be served and sent out at boundary t
abbrev pub is_here_at : Mark → ℕ → Bool
is_here_at (Away g) t = false
is_here_at (Here l) t = nat_le l t

-- How far a plan is read: Filling, in its opening; Standing, at a boundary where nothing has started yet;
-- Starting, at one where something has; Over, past its end.
abbrev pub is_over : Phase → Bool
is_over Filling = false
is_over Standing = false
is_over Starting = false
is_over Over = true

pub record State : Type 0 where
  pub phase : Phase
  pub opened : ℕ  -- blocks of the opening so far
  pub floor : ℕ  -- the next of them is at least this
  pub position : ℕ  -- requests served
  pub boundary : ℕ  -- steps taken
  pub waits : ℕ  -- steps waited
  pub landing : ℕ  -- from this boundary on all exchanges have landed
  pub marks : List Mark  -- for each block
  pub idle : List ℕ  -- for each disk, the boundary from which on it is idle
  pub records : List Exchange  -- the exchanges so far

-- There are at most this many blocks and disks.
abbrev pub most_blocks : ℕ
most_blocks = 1024

abbrev pub most_disks : ℕ
most_disks = 8

unfoldable pub blank_marks : List Mark
blank_marks = replicate most_blocks (Away 0)

unfoldable pub blank_idle : List ℕ
blank_idle = replicate most_disks 0

-- before the first command
abbrev pub begin : State
begin = record { phase = Filling; opened = 0; floor = 0; position = 0; boundary = 0; waits = 0; landing = 0; marks = blank_marks; idle = blank_idle; records = [] }

-- What stands at the front of the rest: nothing, a letter that no command has, or a command, its missing bytes
-- read as zeros.
pub data Found : Type 0 where
  Missing Strange : Found
  Known : Command → Found

abbrev pub by_letter : ℕ → ℕ → ℕ → Found
by_letter letter a b =
    cond (letter == 79) (Known (Opens a)) (cond (letter == 88) (Known (Trades a b)) (cond (letter == 83) (Known Serves) (cond (letter == 87) (Known Waits) (cond (letter == 69) (Known Ends) Strange))))

-- two bytes as a block number, low byte first
abbrev pub block : ℕ → ℕ → ℕ
block l h = l + 256 * h

unfoldable pub found : List ℕ → Found
found rest =
    cond (length rest == 0) Missing (by_letter (slice_index rest 0) (block (slice_index rest 1) (slice_index rest 2)) (block (slice_index rest 3) (slice_index rest 4)))

-- the bytes of a command
abbrev pub size : Command → ℕ
size (Opens b) = 3
size (Trades a b) = 5
size Serves = 1
size Waits = 1
size Ends = 1

-- whether a command's letter is in place; a wrong count in the opening is told by another cause
abbrev pub in_place : Phase → Command → Bool
in_place Filling c = true
in_place Standing (Opens b) = false
in_place Standing (Trades a b) = true
in_place Standing Serves = true
in_place Standing Waits = true
in_place Standing Ends = true
in_place Starting (Opens b) = false
in_place Starting (Trades a b) = true
in_place Starting Serves = true
in_place Starting Waits = true
in_place Starting Ends = false
in_place Over c = false

-- A test, with what is told where it fails; of a list the first that fails tells.
pub record Test : Type 0 where
  pub passes : Bool
  pub cause : Cause

abbrev pub test : Bool → Cause → Test
test b c = record { passes = b; cause = c }

pub data Finding : Type 0 where
  Clean : Finding
  Faulty : Cause → Finding

abbrev pub first : List Test → Finding
first [] = Clean
first (t ∷ ts) = cond t.passes (first ts) (Faulty t.cause)

-- a command of n bytes at a place does not reach past the limit, where there are bytes past it
abbrev pub within_limit : ℕ → ℕ → ℕ → Bool
within_limit total place n = not (nat_lt plan_limit total && nat_lt plan_limit (place + n))

-- What is next: a state and the bytes left, or a stop with its cause and place.
pub data Turn : Type 0 where
  Goes : State → List ℕ → Turn
  Stops : Cause → ℕ → Turn

-- bytes that run out are told at the end of the bytes, all else at the command's first byte
abbrev pub place_of : Cause → ℕ → ℕ → ℕ
place_of RunsOut total place = total
place_of OutOfPlace total place = place
place_of BadOpening total place = place
place_of BadIn total place = place
place_of BadOut total place = place
place_of DiskBusy total place = place
place_of CannotServe total place = place
place_of RequestsLeft total place = place
place_of NotLanded total place = place
place_of ListFull total place = place
place_of OverLimit total place = place

-- a plan read to its end, with nothing after it
abbrev pub finished : State → List ℕ → Bool
finished s rest = is_over s.phase && length rest == 0

-- the outcome at the end of a plan
abbrev pub accepted : State → Outcome
accepted s = record { answer = Accepted s.boundary s.waits (length s.records); records = s.records }

abbrev pub refused : State → Cause → ℕ → Outcome
refused s cause place = record { answer = Refused cause place; records = s.records }

abbrev pub onward : (State → List ℕ → Outcome) → State → Turn → Outcome
onward go s (Goes t rest) = go t rest
onward go s (Stops cause place) = refused s cause place

-- The terms of a judgement: the side, the disk of each block, the frames, the steps of a fetch, the requests and
-- the room of the exchange list.
module _ (side : Side) (homes : List ℕ) (frames fetch : ℕ) (requests : List ℕ) (room : ℕ) where
  -- the tests of a command's own, after its letter is in place and its bytes are there
  abbrev pub own_tests : State → Command → List Test
  own_tests s (Opens b) =
      test (nat_lt s.opened frames) BadOpening
      ∷ test (nat_le s.floor b) BadOpening
      ∷ test (nat_lt b (length homes)) BadOpening
      ∷ []
  own_tests s (Trades a b) =
      test (s.opened == frames) BadOpening
      ∷ test (nat_lt a (length homes)) BadIn
      ∷ test (is_away_at (slice_index_or s.marks a (Away 0)) s.boundary) BadIn
      ∷ test (nat_lt b (length homes)) BadOut
      ∷ test (is_here_at (slice_index_or s.marks b (Away 0)) s.boundary) BadOut
      ∷ test (nat_le (slice_index s.idle (occupies side homes (record { brings = a; sends = b; start = s.boundary }))) s.boundary) DiskBusy
      ∷ test (nat_lt (length s.records) room) ListFull
      ∷ []
  own_tests s Serves =
      test (s.opened == frames) BadOpening
      ∷ test (nat_lt s.position (length requests)) CannotServe
      ∷ test (is_here_at (slice_index_or s.marks (slice_index requests s.position) (Away 0)) s.boundary) CannotServe
      ∷ []
  own_tests s Waits = test (s.opened == frames) BadOpening ∷ []
  own_tests s Ends =
      test (s.opened == frames) BadOpening
      ∷ test (s.position == length requests) RequestsLeft
      ∷ test (nat_le s.landing s.boundary) NotLanded
      ∷ []

  -- what a command that passes makes of the state
  unfoldable pub after : State → Command → State
  after s (Opens b) =
      record { phase = Filling; opened = s.opened + 1; floor = b + 1; position = s.position; boundary = s.boundary; waits = s.waits; landing = s.landing; marks = slice_set s.marks b (Here 0); idle = s.idle; records = s.records }
  after s (Trades a b) =
      record { phase = Starting; opened = s.opened; floor = s.floor; position = s.position; boundary = s.boundary; waits = s.waits; landing = s.boundary + fetch; marks = slice_set (slice_set s.marks b (Away (s.boundary + 1))) a (Here (s.boundary + fetch)); idle = slice_set s.idle (occupies side homes (record { brings = a; sends = b; start = s.boundary })) (s.boundary + fetch); records = s.records ++ (record { brings = a; sends = b; start = s.boundary } ∷ []) }
  after s Serves =
      record { phase = Standing; opened = s.opened; floor = s.floor; position = s.position + 1; boundary = s.boundary + 1; waits = s.waits; landing = s.landing; marks = s.marks; idle = s.idle; records = s.records }
  after s Waits =
      record { phase = Standing; opened = s.opened; floor = s.floor; position = s.position; boundary = s.boundary + 1; waits = s.waits + 1; landing = s.landing; marks = s.marks; idle = s.idle; records = s.records }
  after s Ends =
      record { phase = Over; opened = s.opened; floor = s.floor; position = s.position; boundary = s.boundary; waits = s.waits; landing = s.landing; marks = s.marks; idle = s.idle; records = s.records }

  -- before the end: what is tested of what stands at the front of the rest, in the order in which it is told
  abbrev pub tests_of : State → ℕ → List ℕ → Found → List Test
  tests_of s total rest Missing = test false RunsOut ∷ []
  tests_of s total rest Strange = test (within_limit total (total - length rest) 1) OverLimit ∷ test false OutOfPlace ∷ []
  tests_of s total rest (Known c) =
      test (within_limit total (total - length rest) (size c)) OverLimit
      ∷ test (in_place s.phase c) OutOfPlace
      ∷ test (nat_le (size c) (length rest)) RunsOut
      ∷ own_tests s c

  -- past the end any byte is out of place
  abbrev pub tests_at : State → ℕ → List ℕ → Phase → Found → List Test
  tests_at s total rest Over f = test (within_limit total (total - length rest) 1) OverLimit ∷ test false OutOfPlace ∷ []
  tests_at s total rest Filling f = tests_of s total rest f
  tests_at s total rest Standing f = tests_of s total rest f
  tests_at s total rest Starting f = tests_of s total rest f

  -- one command judged: the state after it and the bytes left, or the stop
  abbrev pub turn_by : State → ℕ → List ℕ → Found → Finding → Turn
  turn_by s total rest f (Faulty cause) = Stops cause (place_of cause total (total - length rest))
  turn_by s total rest Missing Clean = Stops RunsOut total
  turn_by s total rest Strange Clean = Stops OutOfPlace (total - length rest)
  turn_by s total rest (Known c) Clean = Goes (after s c) (drop (size c) rest)

  unfoldable pub step : ℕ → State → List ℕ → Turn
  step total s rest = turn_by s total rest (found rest) (first (tests_at s total rest s.phase (found rest)))

  -- commands judged one after another, at most as many as the first number says
  unfoldable pub run : ℕ → ℕ → State → List ℕ → Outcome
  run zero total s rest = refused s RunsOut total
  run (suc n) total s rest = cond (finished s rest) (accepted s) (onward (λ t more. run n total t more) s (step total s rest))

  -- the verdict on bytes
  unfoldable pub verdict : List ℕ → Outcome
  verdict bytes = run (suc (length bytes)) (length bytes) begin bytes
