-- Choosing rules. A rule answers two questions from what it sees: need, when the block at the position is missing,
-- which block goes out for it; ahead, for a free disk, an exchange (block in, block out), or none where it wants none.
use Rattle.std.specs.Prelude.{◌≡◌, ℕ, zero, suc, ◌+◌, ◌<◌, true, false, cond, length, nat_lt, slice_index}
use Rattle.model.specs.Timetable.{Side, Forward, Backward}
use Rattle.model.specs.View.{Option, None, Some, View, blocks, wanted_block, is_free, missing, lawful, next_use, first_missing, first_missing_on, latest, latest_on, latest_of}

pub record Rule : Type 0 where
  pub need : View → Option ℕ
  pub ahead : View → ℕ → Option (ℕ × ℕ)

-- A view asks for need: some request is left, and its block exists, is absent and is not yet named.
pub record Wants (v : View) : Type 0 where
  pub asked : v.position < length v.requests
  pub known : wanted_block v < blocks v
  pub away : missing v (wanted_block v) ≡ true

-- Need's law: it names a block that makes a lawful exchange whenever one exists, and none otherwise.
pub record NeedLaw (rule : Rule) : Type 0 where
  pub names : (v : View) → Wants v → (b : ℕ) → rule.need v ≡ Some b → lawful v (wanted_block v) b ≡ true
  pub else_none : (v : View) → Wants v → rule.need v ≡ None → (b : ℕ) → lawful v (wanted_block v) b ≡ false

-- an exchange of two blocks, if there are both and the block out is used later than the block in
abbrev pub only_if_later : View → Option ℕ → Option ℕ → Option (ℕ × ℕ)
only_if_later v None out = None
only_if_later v (Some a) None = None
only_if_later v (Some a) (Some b) = cond (nat_lt (next_use v a) (next_use v b)) (Some (a, b)) None

-- the first answer, or the second where it is none
abbrev pub or_else : Option ℕ → Option ℕ → Option ℕ
or_else None o = o
or_else (Some b) o = Some b

-- of some disks, from one on, the lowest free one that has a resident block: of these the one with the latest next use
unfoldable pub lowest_free : View → ℕ → ℕ → Option ℕ
lowest_free v zero d = None
lowest_free v (suc n) d = or_else (cond (is_free v d) (latest_on v d) None) (lowest_free v n (d + 1))

-- Aggressive. Ahead: forward, the disk's first missing block comes in and the resident block with the latest next use
-- goes out; backward, the first missing block comes in and the disk's resident block with the latest next use goes
-- out; both only if the block out is used later than the block in. Need: forward, the resident block with the latest
-- next use, while the disk of the wanted block is free; backward, that of the lowest free disk that has one.
abbrev pub aggressive_ahead : Side → View → ℕ → Option (ℕ × ℕ)
aggressive_ahead Forward v d = only_if_later v (first_missing_on v d) (latest v)
aggressive_ahead Backward v d = only_if_later v (first_missing v) (latest_on v d)

abbrev pub aggressive_need : Side → View → Option ℕ
aggressive_need Forward v = cond (is_free v (slice_index v.homes (wanted_block v))) (latest v) None
aggressive_need Backward v = lowest_free v (length v.free) 0

abbrev pub aggressive : Rule
aggressive = record { need = λ v. aggressive_need v.side v; ahead = λ v d. aggressive_ahead v.side v d }

-- Demand. Need takes the block with the latest next use of those that make a lawful exchange; ahead is always none.
abbrev pub demand : Rule
demand = record { need = λ v. latest_of v (λ b. lawful v (wanted_block v) b); ahead = λ v d. None }
