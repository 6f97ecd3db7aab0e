-- One disk more, when disks are gone through for the lowest free one that has a resident block. Assumes nothing.
use Rattle.std.proofs.Common.{◌≡◌, ℕ, ◌+◌, Bool, true, false, cond, Option, Some, None, is_some, sym, refl, ap, ◌∙◌, add-one}
use Rattle.model.specs.View.{View, is_free, latest_on}
use Rattle.model.specs.Rules.{or_else, lowest_free}

pub none_from : (o : Option ℕ) → is_some o ≡ false → o ≡ None
none_from None e = refl
none_from (Some b) e = absurd (cc)

module _ (v : View) where
  pub lowest_end : (d : ℕ) → lowest_free v 0 d ≡ None
  unfolding lowest_free
  lowest_end d = refl

  lowest_more : (n d : ℕ) → lowest_free v (n + 1) d ≡ or_else (cond (is_free v d) (latest_on v d) None) (lowest_free v n (d + 1))
  unfolding lowest_free
  lowest_more n d = rw (add-one n) refl

  pub lowest_busy : (n d : ℕ) → is_free v d ≡ false → lowest_free v (n + 1) d ≡ lowest_free v n (d + 1)
  lowest_busy n d e = lowest_more n d ∙ ap (λ (t : Bool). or_else (cond t (latest_on v d) None) (lowest_free v n (d + 1))) e

  pub lowest_empty : (n d : ℕ) → is_free v d ≡ true → latest_on v d ≡ None → lowest_free v (n + 1) d ≡ lowest_free v n (d + 1)
  lowest_empty n d e f = lowest_more n d ∙ (ap (λ (t : Bool). or_else (cond t (latest_on v d) None) (lowest_free v n (d + 1))) e ∙ ap (λ (o : Option ℕ). or_else o (lowest_free v n (d + 1))) f)

  pub lowest_met : (n d : ℕ) (o : Option ℕ) → is_free v d ≡ true → o ≡ latest_on v d → is_some o ≡ true → o ≡ lowest_free v (n + 1) d
  lowest_met n d o e f g =
      first o (lowest_free v n (d + 1)) g
      ∙ (ap (λ (x : Option ℕ). or_else x (lowest_free v n (d + 1))) f
      ∙ (ap (λ (t : Bool). or_else (cond t (latest_on v d) None) (lowest_free v n (d + 1))) (sym e) ∙ sym (lowest_more n d)))
    where
      first : (o r : Option ℕ) → is_some o ≡ true → o ≡ or_else o r
      first None r g = absurd (cc)
      first (Some b) r g = refl
