-- What a replay of an accepted forward plan does on its own bank, under any sequence of calls.
--
-- A step collects what lands, starts the exchanges of its boundary, serves or waits, and ticks the bank once. So after g granted
-- steps an exchange has started if its start is below g, and it has been collected if it landed at a boundary below g.
use Rattle.std.specs.Prelude.{◌≡◌, ℕ, zero, suc, ◌+◌, ◌-◌, ◌<◌, ◌≤◌, Bool, true, false, cond, ◌&&◌, ltb, List, [], ◌∷◌, ◌++◌, length, take, drop, replicate, ◌==◌, nat_le, nat_lt, slice_index, slice_index_or}
use Rattle.model.specs.Sheet.{Sheet, Fits}
use Rattle.model.specs.Timetable.{Exchange, Act, Serve, Wait, Plan, Forward, occupies, count, served, waited, Keeps}

-- What a disk of a bank does: nothing, or it fetches a block and has so many steps left.
pub data Doing : Type 0 where
  Idle : Doing
  Fetches : ℕ → ℕ → Doing

-- A bank as a value: each block's bytes and disk, the fetch time, and what each disk does.
pub record Bank : Type 0 where
  pub bytes : List (List ℕ)
  pub homes : List ℕ
  pub fetch : ℕ
  pub doing : ℕ → Doing

-- A bank fits a sheet: the same blocks, of 512 bytes each, on the same disks, the same fetch time, and every disk idle.
pub record Matches (sheet : Sheet) (bank : Bank) : Type 0 where
  pub blocks : length bank.bytes ≡ length sheet.rack.homes
  pub full : (b : ℕ) → b < length bank.bytes → length (slice_index_or bank.bytes b []) ≡ 512
  pub homes : bank.homes ≡ sheet.rack.homes
  pub fetch : bank.fetch ≡ sheet.rack.fetch
  pub idle : (d : ℕ) → bank.doing d ≡ Idle

-- What a bank is asked.
pub data Ask : Type 0 where
  Start : ℕ → Ask
  Tick : Ask
  Collect : ℕ → Ask

abbrev pub is_idle : Doing → Bool
is_idle Idle = true
is_idle (Fetches b n) = false

-- a block with no step left lies ready
abbrev pub is_ready : Doing → Bool
is_ready Idle = false
is_ready (Fetches b n) = n == 0

abbrev pub ticked : Doing → Doing
ticked Idle = Idle
ticked (Fetches b n) = Fetches b (n - 1)

-- whether it is granted: a start of a block that is there, on an idle disk; a collect from a disk where a block lies ready
abbrev pub grants : Bank → Ask → Bool
grants bank (Start b) = nat_lt b (length bank.bytes) && is_idle (bank.doing (slice_index bank.homes b))
grants bank Tick = true
grants bank (Collect d) = is_ready (bank.doing d)

-- what each disk does after an ask that is granted
abbrev pub does : Bank → Ask → ℕ → Doing
does bank (Start b) d = cond (d == slice_index bank.homes b) (Fetches b bank.fetch) (bank.doing d)
does bank Tick d = ticked (bank.doing d)
does bank (Collect e) d = cond (d == e) Idle (bank.doing d)

abbrev pub asked : Bank → Ask → Bank
asked bank a = record { bytes = bank.bytes; homes = bank.homes; fetch = bank.fetch; doing = does bank a }

-- several asks, one after the other: whether all are granted, and the bank then
unfoldable pub all_granted : Bank → List Ask → Bool
all_granted bank [] = true
all_granted bank (a ∷ more) = grants bank a && all_granted (asked bank a) more

unfoldable pub asked_all : Bank → List Ask → Bank
asked_all bank [] = bank
asked_all bank (a ∷ more) = asked_all (asked bank a) more

-- The counts of a replay.
pub record Tally : Type 0 where
  pub steps : ℕ
  pub served : ℕ
  pub waited : ℕ
  pub started : ℕ
  pub landed : ℕ

-- What a caller may ask of an open replay: to read means into a buffer with these bytes.
pub data Call : Type 0 where
  Step : Call
  Read : List ℕ → Call
  Count : Call

-- What it is answered: a step that served or waited, a buffer as it is afterwards, the tally, or a refusal in the layer replay: its
-- number, its place, and the buffer as it is afterwards (of a read; other calls have none).
pub data Reply : Type 0 where
  Stepped : Act → Reply
  Gave : List ℕ → Reply
  Told : Tally → Reply
  Refused : ℕ → ℕ → List ℕ → Reply

module _ (sheet : Sheet) (plan : Plan) (bank : Bank) where
  -- the tally after g granted steps
  abbrev pub tally_at : ℕ → Tally
  tally_at g = record {
    steps = g;
    served = served (take g plan.acts);
    waited = waited (take g plan.acts);
    started = count (λ x. ltb x.start g) plan.exchanges;
    landed = count (λ x. ltb (x.start + sheet.rack.fetch) g) plan.exchanges;
  }

  -- the exchange under way on disk d after g granted steps, as what the disk does: it started before g and is not collected
  abbrev pub under_way : ℕ → ℕ → Exchange → Bool
  under_way g d x = occupies Forward sheet.rack.homes x == d && (nat_lt x.start g && nat_le g (x.start + sheet.rack.fetch))

  abbrev pub or_else : Bool → Doing → Doing → Doing
  or_else true a b = a
  or_else false a b = b

  unfoldable pub doing_of : ℕ → ℕ → List Exchange → Doing
  doing_of g d [] = Idle
  doing_of g d (x ∷ xs) = or_else (under_way g d x) (Fetches x.brings (x.start + sheet.rack.fetch - g)) (doing_of g d xs)

  -- the bank after g granted steps
  abbrev pub bank_at : ℕ → Bank
  bank_at g = record { bytes = bank.bytes; homes = bank.homes; fetch = bank.fetch; doing = λ d. doing_of g d plan.exchanges }

  -- what the opening asks: for each block of the opening content a start, the fetch time, a collect
  unfoldable pub loading : List ℕ → List Ask
  loading [] = []
  loading (b ∷ bs) = Start b ∷ (replicate sheet.rack.fetch Tick ++ (Collect (slice_index sheet.rack.homes b) ∷ loading bs))

  -- what a step asks after g granted ones: what lands, lowest disk first, then what starts, then one tick
  abbrev pub lands_on : ℕ → ℕ → Exchange → Bool
  lands_on g d x = occupies Forward sheet.rack.homes x == d && x.start + sheet.rack.fetch == g

  abbrev pub collect_of : ℕ → ℕ → List Ask
  collect_of g d = cond (count (lands_on g d) plan.exchanges == 0) [] (Collect d ∷ [])

  unfoldable pub collects : ℕ → ℕ → List Ask
  collects g zero = []
  collects g (suc d) = collects g d ++ collect_of g d

  unfoldable pub starts : ℕ → List Exchange → List Ask
  starts g [] = []
  starts g (x ∷ xs) = cond (x.start == g) (Start x.brings ∷ starts g xs) (starts g xs)

  abbrev pub asks_at : ℕ → List Ask
  asks_at g = collects g sheet.rack.disks ++ (starts g plan.exchanges ++ (Tick ∷ []))

  -- the first g steps together
  unfoldable pub asks_up_to : ℕ → List Ask
  asks_up_to zero = []
  asks_up_to (suc g) = asks_up_to g ++ asks_at g

  -- the block of the request served last
  abbrev pub last_served : ℕ → ℕ
  last_served g = slice_index sheet.requests (served (take g plan.acts) - 1)

  -- a read: 23 where the last step served nothing, 24 where the buffer is too short; the place is the steps played, the buffer is kept
  abbrev pub read_at : ℕ → Act → List ℕ → Reply
  read_at g Serve buffer = cond (nat_lt (length buffer) 512) (Refused 24 g buffer) (Gave (slice_index_or bank.bytes (last_served g) [] ++ drop 512 buffer))
  read_at g Wait buffer = Refused 23 g buffer

  abbrev pub read_after : ℕ → List ℕ → Reply
  read_after zero buffer = Refused 23 0 buffer
  read_after (suc g) buffer = read_at (suc g) (slice_index_or plan.acts g Wait) buffer

  -- what is answered after g granted steps, and how many are granted then
  abbrev pub reply : ℕ → Call → Reply
  reply g Step = cond (nat_lt g (length plan.acts)) (Stepped (slice_index_or plan.acts g Wait)) (Refused 22 g [])
  reply g (Read buffer) = read_after g buffer
  reply g Count = Told (tally_at g)

  abbrev pub onward : ℕ → Call → ℕ
  onward g Step = cond (nat_lt g (length plan.acts)) (g + 1) g
  onward g (Read buffer) = g
  onward g Count = g

  -- a whole sequence of calls
  unfoldable pub replies : ℕ → List Call → List Reply
  replies g [] = []
  replies g (c ∷ cs) = reply g c ∷ replies (onward g c) cs

  unfoldable pub granted : ℕ → List Call → ℕ
  granted g [] = g
  granted g (c ∷ cs) = granted (onward g c) cs

-- Something that answers calls, by its states.
module _ {State : Type 0} (after : State → Call → State) (answer : State → Call → Reply) where
  unfoldable pub answers_from : State → List Call → List Reply
  answers_from s [] = []
  answers_from s (c ∷ cs) = answer s c ∷ answers_from (after s c) cs

  unfoldable pub state_from : State → List Call → State
  state_from s [] = s
  state_from s (c ∷ cs) = state_from (after s c) cs

-- What opening is answered: granted, or a refusal in the layer replay, its number and its place.
pub data Opening : Type 0 where
  Granted : Opening
  NotOpened : ℕ → ℕ → Opening

-- It opens rightly on a sheet's plans: by whether the receipt is void, whether the replay is open already, the steps played since the last
-- granted opening, and the bank. A closed replay with the receipt of an accepted plan on a bank that fits is opened.
pub record Opens (sheet : Sheet) (answer : Bool → Bool → ℕ → Bank → Opening) : Type 0 where
  pub void : (open' : Bool) (g : ℕ) (bank : Bank) → answer true open' g bank ≡ NotOpened 19 g
  pub twice : (g : ℕ) (bank : Bank) → answer false true g bank ≡ NotOpened 21 g
  pub differs : (g : ℕ) (bank : Bank) → (Matches sheet bank → ⊥) → answer false false g bank ≡ NotOpened 25 g
  pub fits : (g : ℕ) (bank : Bank) → Matches sheet bank → answer false false g bank ≡ Granted

-- It replays the plan if from its opening on every sequence of calls is answered as above, and leaves its bank as above. `holds` is the
-- meaning of the bank that the calls are given, never a value that the replay keeps beside it. No answer is ever 27: the bank refuses
-- nothing, whatever is called.
pub record Replays (sheet : Sheet) (plan : Plan) (bank : Bank) {State : Type 0} (opened : State) (after : State → Call → State) (answer : State → Call → Reply) (holds : State → Bank) : Type 0 where
  pub answers : (cs : List Call) → answers_from after answer opened cs ≡ replies sheet plan bank 0 cs
  pub leaves : (cs : List Call) → holds (state_from after answer opened cs) ≡ bank_at sheet plan bank (granted sheet plan bank 0 cs)

-- What makes that possible: nothing that the opening or a step asks is refused, the opening leaves every disk idle, each step leaves the
-- disks as told above, steps are those that served and those that waited, and by the last one every request is served.
pub record Quiet (sheet : Sheet) (plan : Plan) (bank : Bank) : Type 0 where
  pub opens : all_granted bank (loading sheet plan bank plan.opening) ≡ true
  pub opened : (d : ℕ) → (asked_all bank (loading sheet plan bank plan.opening)).doing d ≡ Idle
  pub steps : (g : ℕ) → g < length plan.acts → all_granted (bank_at sheet plan bank g) (asks_at sheet plan bank g) ≡ true
  pub stepped : (g : ℕ) → g < length plan.acts → (d : ℕ) → (asked_all (bank_at sheet plan bank g) (asks_at sheet plan bank g)).doing d ≡ (bank_at sheet plan bank (suc g)).doing d
  pub counted : (g : ℕ) → g ≤ length plan.acts → (tally_at sheet plan bank g).steps ≡ (tally_at sheet plan bank g).served + (tally_at sheet plan bank g).waited
  pub all_served : (tally_at sheet plan bank (length plan.acts)).served ≡ length sheet.requests

-- So it is for every fit sheet, every plan that keeps the model forward, and every bank that fits the sheet. Stated here for the replay
-- to show; nothing proves it yet.
abbrev pub ReplayIsQuiet : Type 0
ReplayIsQuiet =
    (sheet : Sheet) (plan : Plan) (bank : Bank) → Fits sheet → Keeps Forward sheet.rack.homes sheet.rack.frames sheet.rack.fetch sheet.requests plan → Matches sheet bank → Quiet sheet plan bank
