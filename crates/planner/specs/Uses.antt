-- The index of next uses. Assumes nothing.
use Rattle.std.specs.Prelude.{◌≡◌, List, ℕ, ◌+◌, ◌<◌, ◌≤◌, eqb, length, get_or, drop}
use Rattle.model.specs.View.{first_at}

-- the lowest position from p on that requests block b, or the number of requests
abbrev pub use_from : List ℕ → ℕ → ℕ → ℕ
use_from requests p b = first_at (λ r. eqb r b) (drop p requests) p

-- Two tables are an index at position p: next holds each block's next use from p on, after holds for each position from p on the next
-- one of the same block.
pub record Indexes (requests : List ℕ) (p : ℕ) (next after : List ℕ) : Type 0 where
  pub told : (b : ℕ) → b < 1024 → get_or next b 0 ≡ use_from requests p b
  pub linked : (k : ℕ) → p ≤ k → k < length requests → get_or after k 0 ≡ use_from requests (k + 1) (get_or requests k 0)
