-- What a choosing rule sees at a boundary, between its landings and its starts, and nothing else: no time and no steps
-- left. Questions about it have one definition each.
use Rattle.std.specs.Prelude.{ℕ, zero, suc, ◌+◌, Bool, true, false, cond, not, ◌&&◌, List, [], ◌∷◌, length, drop, ◌==◌, nat_eq, nat_lt, slice_index, slice_index_or}
pub use Rattle.std.specs.declared.option.Option.{Option}
pub use Rattle.std.specs.declared.option.Option.TheVariants.{None, Some}
use Rattle.model.specs.Timetable.{Side, occupies}

-- Where a block is.
pub data Place : Type 0 where
  Absent InFlight Resident : Place

abbrev pub is_absent : Place → Bool
is_absent Absent = true
is_absent InFlight = false
is_absent Resident = false

abbrev pub is_resident : Place → Bool
is_resident Absent = false
is_resident InFlight = false
is_resident Resident = true

-- The side, the disk of each block, the frames, the requests and the position; for each block where it is between
-- landings and starts, and whether a start of this boundary has named it (an absent block to come in, a resident one
-- to go out); for each disk whether it is free.
pub record View : Type 0 where
  pub side : Side
  pub homes : List ℕ
  pub frames : ℕ
  pub requests : List ℕ
  pub position : ℕ
  pub places : List Place
  pub named : List Bool
  pub free : List Bool

abbrev pub blocks : View → ℕ
blocks v = length v.homes

-- the block at the position
abbrev pub wanted_block : View → ℕ
wanted_block v = slice_index v.requests v.position

abbrev pub is_named : View → ℕ → Bool
is_named v b = slice_index_or v.named b false

abbrev pub is_free : View → ℕ → Bool
is_free v d = slice_index_or v.free d false

-- To a rule a block that this boundary has named is neither missing nor resident.
abbrev pub missing : View → ℕ → Bool
missing v b = is_absent (slice_index_or v.places b Absent) && not (is_named v b)

-- a block may be chosen to go out
abbrev pub may_go_out : View → ℕ → Bool
may_go_out v b = nat_lt b (blocks v) && (is_resident (slice_index_or v.places b Absent) && not (is_named v b))

-- the disk that an exchange occupies, of a block in and a block out
abbrev pub disk_of : View → ℕ → ℕ → ℕ
disk_of v a b = occupies v.side v.homes (record { brings = a; sends = b; start = 0 })

-- each of a list of tests passes
abbrev pub all_of : List Bool → Bool
all_of [] = true
all_of (t ∷ ts) = cond t (all_of ts) false

-- An exchange is lawful: its block in exists and is missing, its block out may go out, and its disk is free.
abbrev pub lawful : View → ℕ → ℕ → Bool
lawful v a b = all_of (nat_lt a (blocks v) ∷ missing v a ∷ may_go_out v b ∷ is_free v (disk_of v a b) ∷ [])

-- the position of the first of some requests whose block passes a test, the first of them standing at a given
-- position; past them all where none does
unfoldable pub first_at : (ℕ → Bool) → List ℕ → ℕ → ℕ
first_at p [] at = at
first_at p (r ∷ rs) at = cond (p r) at (first_at p rs (at + 1))

-- the lowest position from the present one on whose block passes a test; the number of requests where none does
abbrev pub first_from : View → (ℕ → Bool) → ℕ
first_from v p = first_at p (drop v.position v.requests) v.position

-- the next use of a block: its lowest position from the present one on, or never, which is later than all
abbrev pub next_use : View → ℕ → ℕ
next_use v b = first_from v (λ r. nat_eq r b)

-- the block requested at a position, if any is
abbrev pub requested_at : View → ℕ → Option ℕ
requested_at v k = cond (nat_lt k (length v.requests)) (Some (slice_index v.requests k)) None

-- the first missing block, and that of one disk
abbrev pub first_missing : View → Option ℕ
first_missing v = requested_at v (first_from v (missing v))

abbrev pub first_missing_on : View → ℕ → Option ℕ
first_missing_on v d = requested_at v (first_from v (λ b. missing v b && slice_index v.homes b == d))

-- the better of the best so far and one more number, by a key; the best so far keeps a tie
abbrev pub better : (ℕ → ℕ) → ℕ → Option ℕ → Option ℕ
better key n None = Some n
better key n (Some m) = cond (nat_lt (key m) (key n)) (Some n) (Some m)

-- the best so far, with one more number if it passes
abbrev pub better_if : Bool → (ℕ → ℕ) → ℕ → Option ℕ → Option ℕ
better_if true key n best = better key n best
better_if false key n best = best

-- of the numbers below n that pass a test the one with the greatest key, ties to the lowest
unfoldable pub greatest : (ℕ → Bool) → (ℕ → ℕ) → ℕ → Option ℕ
greatest p key zero = None
greatest p key (suc n) = better_if (p n) key n (greatest p key n)

-- of the blocks that may go out and pass a test, the one with the latest next use, ties to the lowest block
abbrev pub latest_of : View → (ℕ → Bool) → Option ℕ
latest_of v p = greatest (λ b. may_go_out v b && p b) (next_use v) (blocks v)

-- the resident block with the latest next use, and that of one disk
abbrev pub latest : View → Option ℕ
latest v = latest_of v (λ b. true)

abbrev pub latest_on : View → ℕ → Option ℕ
latest_on v d = latest_of v (λ b. nat_eq (slice_index v.homes b) d)
