-- Worked plans: six blocks on two disks, four frames, a fetch of two steps, and what the verdict says of each.
use Rattle.std.specs.Prelude.{◌≡◌, ℕ, List, [], ◌∷◌, ◌++◌, map}
use Rattle.std.specs.List.{flat_map}
use Rattle.model.specs.Timetable.{Side, Forward, Backward, Plan}
use Rattle.model.specs.PlanBytes.{Command, Opens, Trades, Serves, Waits, Ends, command_bytes}
use Rattle.model.specs.Verdict.{Answer, Accepted, Refused, RunsOut, OutOfPlace, BadOpening, BadIn, BadOut, DiskBusy, CannotServe, RequestsLeft, NotLanded, ListFull, OverLimit, verdict, step, State, begin, after, Turn, Stops}
use Rattle.model.specs.Statements.{WrittenBy}

-- the disk of each block
abbrev pub homes6 : List ℕ
homes6 = 0 ∷ 1 ∷ 0 ∷ 1 ∷ 0 ∷ 0 ∷ []

abbrev pub requests6 : List ℕ
requests6 = 0 ∷ 1 ∷ 2 ∷ 3 ∷ 4 ∷ 5 ∷ []

abbrev pub turned6 : List ℕ
turned6 = 5 ∷ 4 ∷ 3 ∷ 2 ∷ 1 ∷ 0 ∷ []

-- A row: a side, the requests, the room of the exchange list, the bytes, and the answer.
pub record Row : Type 0 where
  pub side : Side
  pub requests : List ℕ
  pub room : ℕ
  pub bytes : List ℕ
  pub answer : Answer

-- the opening content 0 1 3 5
abbrev pub opening6 : List Command
opening6 = Opens 0 ∷ Opens 1 ∷ Opens 3 ∷ Opens 5 ∷ []

-- a row of the forward side, requests 0 to 5, whose bytes are those of some commands after the opening 0 1 3 5
abbrev pub row : List Command → Answer → Row
row cs a = record { side = Forward; requests = requests6; room = 4; bytes = flat_map command_bytes (opening6 ++ cs); answer = a }

-- the same with other requests and other room
abbrev pub row_for : List ℕ → ℕ → List Command → Answer → Row
row_for requests room cs a = record { side = Forward; requests = requests; room = room; bytes = flat_map command_bytes (opening6 ++ cs); answer = a }

-- the same with bytes of its own
abbrev pub row_of : List ℕ → Answer → Row
row_of bytes a = record { side = Forward; requests = requests6; room = 4; bytes = bytes; answer = a }

abbrev pub rows : List Row
rows =
    row (Trades 2 5 ∷ Serves ∷ Serves ∷ Trades 4 0 ∷ Serves ∷ Serves ∷ Trades 5 1 ∷ Serves ∷ Waits ∷ Serves ∷ Ends ∷ []) (Accepted 7 1 3)
    ∷ row (Trades 2 3 ∷ Serves ∷ Trades 3 0 ∷ Serves ∷ Trades 4 1 ∷ Serves ∷ Serves ∷ Serves ∷ Serves ∷ Ends ∷ []) (Accepted 6 0 3)
    -- the second with one more exchange, before its fifth and before its sixth serve
    ∷ row (Trades 2 3 ∷ Serves ∷ Trades 3 0 ∷ Serves ∷ Trades 4 1 ∷ Serves ∷ Serves ∷ Trades 0 2 ∷ Serves ∷ Serves ∷ Ends ∷ []) (Accepted 6 0 4)
    ∷ row (Trades 2 3 ∷ Serves ∷ Trades 3 0 ∷ Serves ∷ Trades 4 1 ∷ Serves ∷ Serves ∷ Serves ∷ Trades 0 2 ∷ Serves ∷ Ends ∷ []) (Refused NotLanded 38)
    -- a block that goes out at a boundary is not absent at it
    ∷ row (Trades 2 5 ∷ Trades 5 0 ∷ []) (Refused BadIn 17)
    -- no requests, no steps
    ∷ row_for [] 4 (Ends ∷ []) (Accepted 0 0 0)
    -- a plan of the backward side over the turned requests, and a plan of the forward side that is its mirror image
    ∷ record { side = Backward; requests = turned6; room = 4; bytes = flat_map command_bytes (Opens 2 ∷ Opens 3 ∷ Opens 4 ∷ Opens 5 ∷ Serves ∷ Trades 1 5 ∷ Serves ∷ Serves ∷ Trades 0 4 ∷ Serves ∷ Serves ∷ Serves ∷ Ends ∷ []); answer = Accepted 6 0 2 }
    ∷ row_of (flat_map command_bytes (Opens 0 ∷ Opens 1 ∷ Opens 2 ∷ Opens 3 ∷ Serves ∷ Trades 4 0 ∷ Serves ∷ Serves ∷ Trades 5 1 ∷ Serves ∷ Serves ∷ Serves ∷ Ends ∷ [])) (Accepted 6 0 2)
    ∷ []

-- Damaged plans, one for each refusal and for pairs that could both apply.
abbrev pub damaged : List Row
damaged =
    -- bytes run out: before a letter, inside a command; told before a wrong count in the opening
    row_of [] (Refused RunsOut 0)
    ∷ row [] (Refused RunsOut 12)
    ∷ row_of (79 ∷ 0 ∷ []) (Refused RunsOut 2)
    ∷ row_of (79 ∷ 0 ∷ 0 ∷ 88 ∷ 1 ∷ []) (Refused RunsOut 5)
    -- a letter out of place: one that no command has, an opening command after the opening, the end after an exchange
    ∷ row_of (79 ∷ 0 ∷ 0 ∷ 90 ∷ []) (Refused OutOfPlace 3)
    ∷ row (Serves ∷ Opens 2 ∷ []) (Refused OutOfPlace 13)
    ∷ row (Trades 2 5 ∷ Ends ∷ []) (Refused OutOfPlace 17)
    ∷ row_of (79 ∷ 0 ∷ 0 ∷ 83 ∷ 79 ∷ []) (Refused BadOpening 3)
    -- bytes after the end, told after the end itself was judged
    ∷ row_for [] 4 (Ends ∷ Ends ∷ []) (Refused OutOfPlace 13)
    ∷ row (Ends ∷ Ends ∷ []) (Refused RequestsLeft 12)
    -- the opening: too many, too few, not rising, unknown
    ∷ row (Opens 6 ∷ []) (Refused BadOpening 12)
    ∷ row_of (flat_map command_bytes (Opens 0 ∷ Opens 1 ∷ Opens 3 ∷ Serves ∷ [])) (Refused BadOpening 9)
    ∷ row_of (flat_map command_bytes (Opens 0 ∷ Opens 1 ∷ Ends ∷ [])) (Refused BadOpening 6)
    ∷ row_of (flat_map command_bytes (Opens 1 ∷ Opens 1 ∷ [])) (Refused BadOpening 3)
    ∷ row_of (flat_map command_bytes (Opens 6 ∷ [])) (Refused BadOpening 0)
    -- block in: unknown, resident, in flight; told before its block out
    ∷ row (Trades 6 5 ∷ []) (Refused BadIn 12)
    ∷ row (Trades 0 2 ∷ []) (Refused BadIn 12)
    ∷ row (Trades 2 5 ∷ Serves ∷ Trades 2 0 ∷ []) (Refused BadIn 18)
    ∷ row (Trades 2 5 ∷ Trades 2 0 ∷ []) (Refused BadIn 17)
    -- block out: unknown, absent, sent out before at this boundary; told before the disk
    ∷ row (Trades 2 6 ∷ []) (Refused BadOut 12)
    ∷ row (Trades 2 4 ∷ []) (Refused BadOut 12)
    ∷ row (Trades 2 5 ∷ Trades 4 5 ∷ []) (Refused BadOut 17)
    ∷ row (Trades 2 5 ∷ Serves ∷ Trades 5 2 ∷ []) (Refused BadOut 18)
    -- the disk is busy; told before a full list
    ∷ row_for requests6 1 (Trades 2 5 ∷ Trades 4 0 ∷ []) (Refused DiskBusy 17)
    ∷ row (Trades 2 5 ∷ Serves ∷ Trades 4 0 ∷ []) (Refused DiskBusy 18)
    ∷ row_for requests6 1 (Trades 2 5 ∷ Serves ∷ Serves ∷ Trades 4 0 ∷ []) (Refused ListFull 19)
    -- nothing left to serve, absent, sent out in this very step
    ∷ row_for [] 4 (Serves ∷ []) (Refused CannotServe 12)
    ∷ row (Serves ∷ Serves ∷ Serves ∷ []) (Refused CannotServe 14)
    ∷ row (Trades 2 0 ∷ Serves ∷ []) (Refused CannotServe 17)
    ∷ row (Trades 2 5 ∷ Serves ∷ Ends ∷ []) (Refused RequestsLeft 18)
    ∷ []

abbrev pub judged : Row → Answer
judged r = (verdict r.side homes6 4 2 r.requests r.room r.bytes).answer

-- the verdict on each row is the row's answer
abbrev pub WorkedRows : Type 0
WorkedRows = map judged (rows ++ damaged) ≡ map (λ (r : Row). r.answer) (rows ++ damaged)

-- One command at the limit of a plan: the bytes in all, the state, the rest, and where it stops.
pub record Edge : Type 0 where
  pub total : ℕ
  pub state : State
  pub rest : List ℕ
  pub stop : Turn

-- past the end of a plan
abbrev pub ended : State
ended = after Forward homes6 4 2 requests6 4 begin Ends

abbrev pub edges : List Edge
edges =
    -- a command that holds the first byte past the limit, whole or broken off, or with a letter that no command has
    record { total = 1_048_577; state = begin; rest = 79 ∷ 6 ∷ 0 ∷ []; stop = Stops OverLimit 1_048_574 }
    ∷ record { total = 1_048_577; state = begin; rest = 79 ∷ 6 ∷ []; stop = Stops OverLimit 1_048_575 }
    ∷ record { total = 1_048_577; state = begin; rest = 90 ∷ []; stop = Stops OverLimit 1_048_576 }
    ∷ record { total = 1_048_577; state = ended; rest = 79 ∷ []; stop = Stops OverLimit 1_048_576 }
    -- a command before that byte, and one that breaks off at the limit
    ∷ record { total = 1_048_577; state = begin; rest = 79 ∷ 6 ∷ 0 ∷ 83 ∷ []; stop = Stops BadOpening 1_048_573 }
    ∷ record { total = 1_048_577; state = begin; rest = 90 ∷ 83 ∷ []; stop = Stops OutOfPlace 1_048_575 }
    ∷ record { total = 1_048_577; state = ended; rest = 79 ∷ 6 ∷ []; stop = Stops OutOfPlace 1_048_575 }
    ∷ record { total = 1_048_576; state = begin; rest = 79 ∷ 6 ∷ 0 ∷ []; stop = Stops BadOpening 1_048_573 }
    ∷ record { total = 1_048_576; state = begin; rest = 79 ∷ 6 ∷ []; stop = Stops RunsOut 1_048_576 }
    ∷ []

abbrev pub WorkedEdges : Type 0
WorkedEdges = map (λ (e : Edge). step Forward homes6 4 2 requests6 4 e.total e.state e.rest) edges ≡ map (λ (e : Edge). e.stop) edges

-- The model itself tells worked plans apart: the first of these rows is written by a plan that keeps it; the
-- second, whose last exchange lands too late, by none.
abbrev pub early6 : List ℕ
early6 = flat_map command_bytes (opening6 ++ (Trades 2 5 ∷ Serves ∷ Serves ∷ Trades 4 0 ∷ Serves ∷ Serves ∷ Trades 5 1 ∷ Serves ∷ Waits ∷ Serves ∷ Ends ∷ []))

abbrev pub late6 : List ℕ
late6 = flat_map command_bytes (opening6 ++ (Trades 2 3 ∷ Serves ∷ Trades 3 0 ∷ Serves ∷ Trades 4 1 ∷ Serves ∷ Serves ∷ Serves ∷ Trades 0 2 ∷ Serves ∷ Ends ∷ []))

pub record ModelTells : Type 0 where
  pub some : (plan : Plan) × WrittenBy Forward homes6 4 2 requests6 early6 plan
  pub none_late : (plan : Plan) → WrittenBy Forward homes6 4 2 requests6 late6 plan → ⊥
