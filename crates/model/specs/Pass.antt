-- The pass: what plan a choosing rule defines. At each boundary the rule is asked for need, if the block at the
-- position is missing, and then for ahead, for each free disk in rising order; then the step serves if it can, and
-- waits if not. It ends when all requests are served.
use Rattle.std.specs.Prelude.{ℕ, zero, suc, ◌+◌, ◌*◌, Bool, true, false, cond, not, ◌&&◌, ◌||◌, leb, List, [], ◌∷◌, ◌++◌, map, length, ◌==◌, nat_eq, nat_le, nat_lt, slice_index, slice_index_or}
use Rattle.model.specs.Timetable.{Side, Act, Serve, Wait, Plan, home}
use Rattle.model.specs.PlanBytes.{Opens, Trades, Serves, Waits}
use Rattle.model.specs.Verdict.{Mark, Away, Here, is_here_at, State, begin, after, most_disks}
use Rattle.model.specs.Mirror.{picked}
use Rattle.model.specs.View.{Option, None, Some, View, Place, Absent, InFlight, Resident, missing, lawful, disk_of, is_free, next_use, wanted_block, all_of}
use Rattle.model.specs.Rules.{Rule}

-- the values of a function at the numbers below n, in order
unfoldable pub each : {X : Type 0} → (ℕ → X) → ℕ → List X
each f zero = []
each f (suc n) = each f n ++ (f n ∷ [])

-- Where a block was between landings and starts of boundary t, by its mark: one brought in at t lands at t + fetch, and
-- was absent; one sent out at t is away from t + 1 on, and was resident.
abbrev pub place_by : ℕ → ℕ → Mark → Place
place_by fetch t (Away g) = cond (nat_le g t) Absent Resident
place_by fetch t (Here l) = cond (nat_le l t) Resident (cond (l == t + fetch) Absent InFlight)

-- whether a start of boundary t has named the block
abbrev pub named_by : ℕ → ℕ → Mark → Bool
named_by fetch t (Away g) = not (nat_le g t)
named_by fetch t (Here l) = not (nat_le l t) && l == t + fetch

-- How far a pass has come: the state that the check has of the plan so far, and what each step did.
pub record Course : Type 0 where
  pub state : State
  pub acts : List Act

-- the numbers found so far, with one more unless it is not wanted
abbrev pub add_unless : Bool → ℕ → List ℕ → List ℕ
add_unless true r found = found
add_unless false r found = r ∷ found

-- the first different numbers of a list, with those found before it k at most: one more is wanted unless it is among
-- those found, or these are enough
unfoldable pub different : ℕ → List ℕ → List ℕ → List ℕ
different k found [] = found
different k found (r ∷ rs) = different k (add_unless (home found r == 1 || nat_le k (length found)) r found) rs

-- the numbers of a list rise, from one on and below another
unfoldable pub rises : ℕ → ℕ → List ℕ → Bool
rises low high [] = true
rises low high (b ∷ bs) = all_of (nat_le low b ∷ nat_lt b high ∷ rises (b + 1) high bs ∷ [])

-- an opening is so many existing blocks, rising
abbrev pub opening_fits : ℕ → ℕ → List ℕ → Bool
opening_fits count frames o = length o == frames && rises 0 count o

-- The usual opening: the first so many different blocks in request order, then the lowest-numbered others; rising.
unfoldable pub usual_opening : ℕ → ℕ → List ℕ → List ℕ
usual_opening count frames requests =
    picked (λ b. nat_eq (home (different frames [] (requests ++ each (λ n. n) count)) b) 1) count

module _ (side : Side) (homes : List ℕ) (frames fetch : ℕ) (requests : List ℕ) where
  -- what a rule sees of a state
  abbrev pub seen : State → View
  seen s = record {
    side = side;
    homes = homes;
    frames = frames;
    requests = requests;
    position = s.position;
    places = each (λ b. place_by fetch s.boundary (slice_index_or s.marks b (Away 0))) (length homes);
    named = each (λ b. named_by fetch s.boundary (slice_index_or s.marks b (Away 0))) (length homes);
    free = map (λ f. leb f s.boundary) s.idle;
  }

  -- an exchange starts
  abbrev pub starts : State → ℕ → ℕ → State
  starts s a b = after side homes frames fetch requests 0 s (Trades a b)

  -- the block at the position
  abbrev pub due : State → ℕ
  due s = slice_index requests s.position

  abbrev pub takes_need : State → Option ℕ → State
  takes_need s None = s
  takes_need s (Some b) = starts s (due s) b

  -- An answer of ahead for disk d is taken exactly if it is lawful, occupies that disk, brings in a block requested at or
  -- after the position, and does not send out the block at the position.
  abbrev pub screened : View → ℕ → ℕ → ℕ → Bool
  screened v d a b =
      all_of (lawful v a b ∷ (disk_of v a b == d) ∷ nat_lt (next_use v a) (length requests) ∷ not (b == wanted_block v) ∷ [])

  abbrev pub takes_ahead : State → ℕ → Option (ℕ × ℕ) → State
  takes_ahead s d None = s
  takes_ahead s d (Some x) = cond (screened (seen s) d x.0 x.1) (starts s x.0 x.1) s

  -- the block at the position can be served
  abbrev pub can_serve : State → Bool
  can_serve s = is_here_at (slice_index_or s.marks (due s) (Away 0)) s.boundary

  abbrev pub steps : Bool → State → List Act → Course
  steps true s acts = record { state = after side homes frames fetch requests 0 s Serves; acts = acts ++ (Serve ∷ []) }
  steps false s acts = record { state = after side homes frames fetch requests 0 s Waits; acts = acts ++ (Wait ∷ []) }

  -- the step serves if it can, and waits if not
  abbrev pub steps_from : State → List Act → Course
  steps_from s acts = steps (can_serve s) s acts

  -- all requests are served
  abbrev pub is_over : Course → Bool
  is_over c = c.state.position == length requests

  -- the opening content
  unfoldable pub opens : List ℕ → State → State
  opens [] s = s
  opens (b ∷ bs) s = opens bs (after side homes frames fetch requests 0 s (Opens b))

  module _ (rule : Rule) where
    -- need, if it applies
    unfoldable pub asks_need : State → State
    asks_need s = cond (missing (seen s) (due s)) (takes_need s (rule.need (seen s))) s

    -- ahead, for disk d if it is free
    unfoldable pub asks_ahead : ℕ → State → State
    asks_ahead d s = cond (is_free (seen s) d) (takes_ahead s d (rule.ahead (seen s) d)) s

    -- ahead for so many disks from d on
    unfoldable pub asks_disks : ℕ → ℕ → State → State
    asks_disks zero d s = s
    asks_disks (suc n) d s = asks_disks n (d + 1) (asks_ahead d s)

    -- what starts at a boundary
    unfoldable pub asks_all : State → State
    asks_all s = asks_disks most_disks 0 (asks_need s)

    -- one boundary and its step
    unfoldable pub turn : Course → Course
    turn c = steps_from (asks_all c.state) c.acts

    abbrev pub next_by : Bool → Course → Course
    next_by true c = c
    next_by false c = turn c

    -- so many steps, or fewer where all is served before
    unfoldable pub runs : ℕ → Course → Course
    runs zero c = c
    runs (suc n) c = runs n (next_by (is_over c) c)

    -- the pass from an opening, at its end
    unfoldable pub passed : List ℕ → Course
    passed opening = runs (2 * fetch * length requests) (record { state = opens opening begin; acts = [] })

    -- the plan of the pass
    unfoldable pub plan_from : List ℕ → Plan
    plan_from opening = record { opening = opening; acts = (passed opening).acts; exchanges = (passed opening).state.records }

    -- the plan of the pass from the usual opening
    abbrev pub plan_of : Plan
    plan_of = plan_from (usual_opening (length homes) frames requests)
