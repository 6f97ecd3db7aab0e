-- One block more, when blocks are gone through for the best. Assumes nothing.
use Rattle.std.proofs.Common.{◌≡◌, ℕ, ◌+◌, Bool, true, false, ◌&&◌, Option, refl, ap, ◌∙◌, add-one}
use Rattle.model.specs.View.{View, may_go_out, next_use, better, better_if, greatest}

pub greatest_more : (p : ℕ → Bool) (key : ℕ → ℕ) (n : ℕ) → greatest p key (n + 1) ≡ better_if (p n) key n (greatest p key n)
unfolding greatest
greatest_more p key n = rw (add-one n) refl

module _ (v : View) (p : ℕ → Bool) where
  -- the latest of the blocks below a number
  abbrev pub latest_below : ℕ → Option ℕ
  latest_below n = greatest (λ b. may_go_out v b && p b) (next_use v) n

  pub stays_in : (n : ℕ) → may_go_out v n ≡ false → latest_below (n + 1) ≡ latest_below n
  stays_in n e = greatest_more (λ b. may_go_out v b && p b) (next_use v) n ∙ ap (λ (t : Bool). better_if (t && p n) (next_use v) n (latest_below n)) e

  pub passed_over : (n : ℕ) → may_go_out v n ≡ true → p n ≡ false → latest_below (n + 1) ≡ latest_below n
  passed_over n e f = greatest_more (λ b. may_go_out v b && p b) (next_use v) n ∙ (ap (λ (t : Bool). better_if (t && p n) (next_use v) n (latest_below n)) e ∙ ap (λ (t : Bool). better_if t (next_use v) n (latest_below n)) f)

  pub compared : (n : ℕ) → may_go_out v n ≡ true → p n ≡ true → latest_below (n + 1) ≡ better (next_use v) n (latest_below n)
  compared n e f = greatest_more (λ b. may_go_out v b && p b) (next_use v) n ∙ (ap (λ (t : Bool). better_if (t && p n) (next_use v) n (latest_below n)) e ∙ ap (λ (t : Bool). better_if t (next_use v) n (latest_below n)) f)
