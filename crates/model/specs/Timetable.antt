-- The timetable of a plan: which block is where at each boundary, and what it means to keep the model.
--
-- A step serves the next request or waits. Boundary t stands before step t, and the last boundary follows the
-- last step. An exchange that starts at boundary t lands at t + fetch: its block out is gone from step t on, and
-- its block in can be served from step t + fetch on. At a boundary landings come first, then starts.
use Rattle.std.specs.Prelude.{◌≡◌, ℕ, ◌+◌, ◌<◌, ◌≤◌, Bool, true, false, ◌&&◌, List, [], ◌∷◌, length, get_or, take, ◌==◌, ◌≢◌, nat_le, nat_lt, slice_index, slice_index_or, refl}
pub use Rattle.model.specs.declared.Exchange.{Exchange}

-- An exchange has the block that it brings in, .brings, the block that it sends out, .sends, and the boundary at
-- which it starts, .start.

-- What a look-up past the end of a list of exchanges gives. No statement depends on it.
abbrev pub none : Exchange
none = record { brings = 0; sends = 0; start = 0 }

-- What a step does.
pub data Act : Type 0 where
  Serve Wait : Act

-- A plan: the opening content, what each step does, and the exchanges in the order in which they are listed.
pub record Plan : Type 0 where
  pub opening : List ℕ
  pub acts : List Act
  pub exchanges : List Exchange

-- Sides. An exchange occupies the disk of its block in on the forward side, of its block out on the backward side.
pub data Side : Type 0 where
  Forward Backward : Side

abbrev pub opposite : Side → Side
opposite Forward = Backward
opposite Backward = Forward

pub opposite_twice : (side : Side) → opposite (opposite side) ≡ side
opposite_twice Forward = refl
opposite_twice Backward = refl

-- the block of an exchange whose disk it occupies
abbrev pub carrier : Side → Exchange → ℕ
carrier Forward x = x.brings
carrier Backward x = x.sends

-- the disk that an exchange occupies; homes holds the disk of each block
abbrev pub occupies : Side → List ℕ → Exchange → ℕ
occupies side homes x = slice_index homes (carrier side x)

-- the exchange with its two blocks changed over
abbrev pub swapped : Exchange → Exchange
swapped x = record { brings = x.sends; sends = x.brings; start = x.start }

-- An exchange and its swapped form take the same disk on opposite sides.
pub occupies_swapped : (side : Side) (homes : List ℕ) (x : Exchange) →
    occupies (opposite side) homes (swapped x) ≡ occupies side homes x
occupies_swapped Forward homes x = refl
occupies_swapped Backward homes x = refl

-- Counting.
abbrev pub bit : Bool → ℕ
bit true = 1
bit false = 0

-- how many exchanges of a list pass a test
unfoldable pub count : (Exchange → Bool) → List Exchange → ℕ
count p [] = 0
count p (x ∷ xs) = bit (p x) + count p xs

abbrev pub one_or : Bool → ℕ → ℕ
one_or true n = 1
one_or false n = n

-- 1 for a block of the opening content, else 0
unfoldable pub home : List ℕ → ℕ → ℕ
home [] b = 0
home (o ∷ os) b = one_or (o == b) (home os b)

-- how many exchanges bring block b in and have landed at boundary t
abbrev pub landed : ℕ → List Exchange → ℕ → ℕ → ℕ
landed fetch xs b t = count (λ x. (x.brings == b) && nat_le (x.start + fetch) t) xs

-- how many exchanges bring block b in and start before boundary t
abbrev pub brought : List Exchange → ℕ → ℕ → ℕ
brought xs b t = count (λ x. (x.brings == b) && nat_lt x.start t) xs

-- how many exchanges send block b out and start before boundary t
abbrev pub left : List Exchange → ℕ → ℕ → ℕ
left xs b t = count (λ x. (x.sends == b) && nat_lt x.start t) xs

-- Where block b is at boundary t, between the landings and the starts of that boundary.
abbrev pub Resident : ℕ → List ℕ → List Exchange → ℕ → ℕ → Type 0
Resident fetch opening xs b t = home opening b + landed fetch xs b t ≡ left xs b t + 1

abbrev pub Absent : List ℕ → List Exchange → ℕ → ℕ → Type 0
Absent opening xs b t = home opening b + brought xs b t ≡ left xs b t

-- in flight: brought in more often than landed
pub record InFlight (fetch : ℕ) (opening : List ℕ) (xs : List Exchange) (b t : ℕ) : Type 0 where
  pub under_way : home opening b + brought xs b t ≡ left xs b t + 1
  pub not_landed : home opening b + landed fetch xs b t ≡ left xs b t

-- Block b is resident during step t: what has started at boundary t has sent its block out already.
abbrev pub ResidentDuring : ℕ → List ℕ → List Exchange → ℕ → ℕ → Type 0
ResidentDuring fetch opening xs b t = home opening b + landed fetch xs b t ≡ left xs b (t + 1) + 1

-- Block b may go out at boundary t, after the exchanges started so far: it is resident between landings and
-- starts, and none of this boundary has sent it out.
pub record MayGoOut (fetch : ℕ) (opening : List ℕ) (earlier : List Exchange) (b t : ℕ) : Type 0 where
  pub resident : Resident fetch opening earlier b t
  pub kept : (j : ℕ) → j < length earlier → (get_or earlier j none).start ≡ t → (get_or earlier j none).sends ≢ b

-- An exchange is lawful after the exchanges started so far: it names existing blocks, its block in is absent
-- between landings and starts of its boundary and not brought in by another of that boundary, its block out may
-- go out, and whatever occupied its disk has landed.
pub record Lawful (side : Side) (homes : List ℕ) (fetch : ℕ) (opening : List ℕ) (earlier : List Exchange) (x : Exchange) : Type 0 where
  pub knows_in : x.brings < length homes
  pub knows_out : x.sends < length homes
  pub comes : Absent opening earlier x.brings x.start
  pub alone : (j : ℕ) → j < length earlier → (get_or earlier j none).start ≡ x.start → (get_or earlier j none).brings ≢ x.brings
  pub goes : MayGoOut fetch opening earlier x.sends x.start
  pub disk_free : (j : ℕ) → j < length earlier → occupies side homes (slice_index_or earlier j none) ≡ occupies side homes x → (get_or earlier j none).start + fetch ≤ x.start

-- Counts of a list of acts: requests served, steps waited.
unfoldable pub served : List Act → ℕ
served [] = 0
served (Serve ∷ acts) = 1 + served acts
served (Wait ∷ acts) = served acts

unfoldable pub waited : List Act → ℕ
waited [] = 0
waited (Serve ∷ acts) = waited acts
waited (Wait ∷ acts) = 1 + waited acts

-- the block that step t serves, if it serves: that of the request at the position reached
abbrev pub wanted : List ℕ → List Act → ℕ → ℕ
wanted requests acts t = slice_index requests (served (take t acts))

-- A plan keeps the model on one side: homes holds the disk of each block, frames is the size of the opening
-- content, fetch the steps from a start to its landing, requests the blocks to be served in their order.
pub record Keeps (side : Side) (homes : List ℕ) (frames fetch : ℕ) (requests : List ℕ) (plan : Plan) : Type 0 where
  -- the opening content fills the frames with existing blocks, each listed once, rising
  pub fills : length plan.opening ≡ frames
  pub exist : (i : ℕ) → i < length plan.opening → slice_index plan.opening i < length homes
  pub rise : (i j : ℕ) → i < j → j < length plan.opening → slice_index plan.opening i < slice_index plan.opening j
  -- starts never fall along the list
  pub in_order : (i j : ℕ) → i < j → j < length plan.exchanges → (get_or plan.exchanges i none).start ≤ (get_or plan.exchanges j none).start
  -- each exchange is lawful after those listed before it
  pub lawful : (i : ℕ) → i < length plan.exchanges → Lawful side homes fetch plan.opening (take i plan.exchanges) (slice_index_or plan.exchanges i none)
  -- each step that serves finds the block of its request resident
  pub serves : (t : ℕ) → t < length plan.acts → slice_index_or plan.acts t Wait ≡ Serve → ResidentDuring fetch plan.opening plan.exchanges (wanted requests plan.acts t) t
  -- all requests are served
  pub all_served : served plan.acts ≡ length requests
  -- all exchanges land by the last boundary
  pub all_land : (i : ℕ) → i < length plan.exchanges → (get_or plan.exchanges i none).start + fetch ≤ length plan.acts

-- The same, exchange by exchange and pair by pair over the whole plan.
pub record KeepsPlainly (side : Side) (homes : List ℕ) (frames fetch : ℕ) (requests : List ℕ) (plan : Plan) : Type 0 where
  pub fills : length plan.opening ≡ frames
  pub exist : (i : ℕ) → i < length plan.opening → slice_index plan.opening i < length homes
  pub rise : (i j : ℕ) → i < j → j < length plan.opening → slice_index plan.opening i < slice_index plan.opening j
  pub in_order : (i j : ℕ) → i < j → j < length plan.exchanges → (get_or plan.exchanges i none).start ≤ (get_or plan.exchanges j none).start
  -- each exchange names existing blocks; between landings and starts of its boundary its block in is absent and
  -- its block out resident
  pub knows_in : (i : ℕ) → i < length plan.exchanges → (get_or plan.exchanges i none).brings < length homes
  pub knows_out : (i : ℕ) → i < length plan.exchanges → (get_or plan.exchanges i none).sends < length homes
  pub comes : (i : ℕ) → i < length plan.exchanges → Absent plan.opening plan.exchanges (get_or plan.exchanges i none).brings (get_or plan.exchanges i none).start
  pub goes : (i : ℕ) → i < length plan.exchanges → Resident fetch plan.opening plan.exchanges (get_or plan.exchanges i none).sends (get_or plan.exchanges i none).start
  -- no two of one boundary share a block in or a block out, and two that occupy one disk do not overlap
  pub ins_differ : (i j : ℕ) → i < j → j < length plan.exchanges → (get_or plan.exchanges i none).start ≡ (get_or plan.exchanges j none).start →
      (get_or plan.exchanges i none).brings ≢ (get_or plan.exchanges j none).brings
  pub outs_differ : (i j : ℕ) → i < j → j < length plan.exchanges → (get_or plan.exchanges i none).start ≡ (get_or plan.exchanges j none).start →
      (get_or plan.exchanges i none).sends ≢ (get_or plan.exchanges j none).sends
  pub apart : (i j : ℕ) → i < j → j < length plan.exchanges → occupies side homes (slice_index_or plan.exchanges i none) ≡ occupies side homes (slice_index_or plan.exchanges j none) →
      (get_or plan.exchanges i none).start + fetch ≤ (get_or plan.exchanges j none).start
  pub serves : (t : ℕ) → t < length plan.acts → slice_index_or plan.acts t Wait ≡ Serve → ResidentDuring fetch plan.opening plan.exchanges (wanted requests plan.acts t) t
  pub all_served : served plan.acts ≡ length requests
  pub all_land : (i : ℕ) → i < length plan.exchanges → (get_or plan.exchanges i none).start + fetch ≤ length plan.acts
