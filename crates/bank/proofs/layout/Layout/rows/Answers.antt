use Rattle.std.proofs.Common.{◌≡◌, ℕ, ◌+◌, ◌-◌, ◌*◌, ◌/◌, ◌%◌, ◌<◌, ◌⊎◌, ap, ◌∙◌, sym, inl, inr, arith}
use Rattle.std.specs.Int.{div_ceil}
use Rattle.std.proofs.lemmas.Nat.{div-add-mod', div-mul-add, mod_below}
use Rattle.std.proofs.lemmas.Bool.{cases_eq}
use Rattle.bank.proofs.layout.Layout.rows.Goals as goal

rounded_up : (n d : ℕ) → 0 < d → div_ceil n d ≡ (n + (d - 1)) / d
rounded_up n d some = by_rest (cases_eq (n % d) 0)
  where
    whole : n / d * d + n % d ≡ n
    whole = div-add-mod' n d

    by_rest : (n % d ≡ 0) ⊎ (n % d ≡ 0 → ⊥) → div_ceil n d ≡ (n + (d - 1)) / d
    by_rest (inl none) =
        let same : n / d * d + (d - 1) ≡ n + (d - 1) = omega (arith, whole) in
        let up : div_ceil n d ≡ n / d = omega arith in
        up ∙ (sym (div-mul-add (n / d) d (d - 1) (omega arith)) ∙ ap (λ m. m / d) same)
    by_rest (inr rest) =
        let low : n % d < d = mod_below n d some in
        let same : (n / d + 1) * d + (n % d - 1) ≡ n + (d - 1) = omega (arith, whole) in
        let up : div_ceil n d ≡ n / d + 1 = omega arith in
        up ∙ (sym (div-mul-add (n / d + 1) d (n % d - 1) (omega arith)) ∙ ap (λ m. m / d) same)

pub returns : goal.returns
returns c =
    c.div_ceil.ensures
    ∙ ((λ i. div_ceil (c.from.ensures i) (c.from-2.ensures i)) ∙ rounded_up c.args.self.blocks c.args.self.disks c.requires)
