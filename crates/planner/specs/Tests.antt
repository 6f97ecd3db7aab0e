-- What a test that a closure makes says. Assumes nothing.
use Rattle.std.specs.Prelude.{◌≡◌, ℕ, ◌<◌, Bool}

-- on the blocks below a number the closure answers as a test does
abbrev pub Tells : {F : Type 0} → (F → ℕ → Bool → Type 0) → F → ℕ → (ℕ → Bool) → Type 0
Tells post f n p = (b : ℕ) (r : Bool) → b < n → post f b r → r ≡ p b
