-- The least next use of the blocks that pass a test is the first position whose block passes it. Assumes nothing.
use Rattle.std.proofs.Common.{◌≡◌, ℕ, ◌+◌, ◌<◌, ◌≤◌, Bool, true, false, eqb, ◌⊎◌, inl, inr, length, get_or, min, sym, refl, ap, ◌∙◌, subst, arith}
use Rattle.std.proofs.lemmas.Bool.{false_from_ne_true, cases_eq, cases_lt, eqb-true, both_ways, eq-eqb}
use Rattle.model.specs.View.{View, blocks, first_from, next_use}
use Rattle.model.specs.ViewLaws.{FirstIs}
use Rattle.model.proofs.Answering.{first_is, firsts_exact}

-- so far: of the blocks below a number that pass, the least next use; the number of requests where none is used again
pub record Soonest (v : View) (p : ℕ → Bool) (n k : ℕ) : Type 0 where
  pub within : k ≤ length v.requests
  pub least : (b : ℕ) → b < n → p b ≡ true → k ≤ next_use v b
  pub from : (k ≡ length v.requests) ⊎ ((b : ℕ) × (p b ≡ true) × (k ≡ next_use v b))

module _ (v : View) (p : ℕ → Bool) where
  pub soonest_none : (k : ℕ) → k ≡ length v.requests → Soonest v p 0 k
  soonest_none k e = record { within = omega arith; least = λ b l. absurd (omega arith); from = inl e }

  pub soonest_skip : (n k : ℕ) → Soonest v p n k → p n ≡ false → Soonest v p (n + 1) k
  soonest_skip n k h e = record { within = h.within; least = least; from = h.from }
    where
      least : (b : ℕ) → b < n + 1 → p b ≡ true → k ≤ next_use v b
      least b l f = go (cases_eq b n)
        where
          go : (b ≡ n) ⊎ (b ≡ n → ⊥) → k ≤ next_use v b
          go (inl i) = absurd (both_ways (p n) e (subst (λ (x : ℕ). p x ≡ true) i f))
          go (inr i) = h.least b (omega arith) f

  soonest_more : (n k : ℕ) → Soonest v p n k → p n ≡ true → Soonest v p (n + 1) (min k (next_use v n))
  soonest_more n k h e = record { within = omega (arith, h.within); least = least; from = go (cases_lt (next_use v n) k) }
    where
      least : (b : ℕ) → b < n + 1 → p b ≡ true → min k (next_use v n) ≤ next_use v b
      least b l f = go (cases_eq b n)
        where
          go : (b ≡ n) ⊎ (b ≡ n → ⊥) → min k (next_use v n) ≤ next_use v b
          go (inl i) = rw i (omega arith)
          go (inr i) = omega (arith, h.least b (omega arith) f)

      go : (next_use v n < k) ⊎ (k ≤ next_use v n) → (min k (next_use v n) ≡ length v.requests) ⊎ ((b : ℕ) × (p b ≡ true) × (min k (next_use v n) ≡ next_use v b))
      go (inl l) = inr (n, e, omega arith)
      go (inr l) = let m : min k (next_use v n) ≡ k = omega arith in rw m h.from

  pub soonest_later : (n k : ℕ) → Soonest v p n k → k ≤ next_use v n → Soonest v p (n + 1) k
  soonest_later n k h l = record { within = h.within; least = least; from = h.from }
    where
      least : (b : ℕ) → b < n + 1 → p b ≡ true → k ≤ next_use v b
      least b m f = go (cases_eq b n)
        where
          go : (b ≡ n) ⊎ (b ≡ n → ⊥) → k ≤ next_use v b
          go (inl i) = rw i l
          go (inr i) = h.least b (omega arith) f

  pub soonest_sooner : (n k : ℕ) → Soonest v p n k → p n ≡ true → next_use v n < k → Soonest v p (n + 1) (next_use v n)
  soonest_sooner n k h e l = let m : min k (next_use v n) ≡ next_use v n = omega arith in subst (λ (x : ℕ). Soonest v p (n + 1) x) m (soonest_more n k h e)

  pub soonest_all : (n k : ℕ) → n ≡ blocks v → v.position ≤ length v.requests → ((i : ℕ) → i < length v.requests → get_or v.requests i 0 < blocks v) → Soonest v p n k → k ≡ first_from v p
  soonest_all n k all reached known h = (firsts_exact v p reached).only k (record { from = from; within = h.within; passes = passes; none_before = none_before })
    where
      used : (b : ℕ) → FirstIs v.requests v.position (λ r. eqb r b) (next_use v b)
      used b = first_is v (λ r. eqb r b) reached

      from : v.position ≤ k
      from = go h.from
        where
          go : (k ≡ length v.requests) ⊎ ((b : ℕ) × (p b ≡ true) × (k ≡ next_use v b)) → v.position ≤ k
          go (inl e) = omega arith
          go (inr w) = let f = (used w.0).from in omega (arith, w.2)

      passes : k < length v.requests → p (get_or v.requests k 0) ≡ true
      passes l = go h.from
        where
          go : (k ≡ length v.requests) ⊎ ((b : ℕ) × (p b ≡ true) × (k ≡ next_use v b)) → p (get_or v.requests k 0) ≡ true
          go (inl e) = absurd (omega arith)
          go (inr w) =
              let i : get_or v.requests (next_use v w.0) 0 ≡ w.0 = eqb-true (get_or v.requests (next_use v w.0) 0) w.0 ((used w.0).passes (omega (arith, w.2))) in
              subst (λ (x : ℕ). p x ≡ true) (sym (ap (λ (x : ℕ). get_or v.requests x 0) w.2 ∙ i)) w.1

      none_before : (j : ℕ) → v.position ≤ j → j < k → p (get_or v.requests j 0) ≡ false
      none_before j f l = false_from_ne_true (p (get_or v.requests j 0)) no
        where
          no : p (get_or v.requests j 0) ≡ true → ⊥
          no e =
              let m = h.least (get_or v.requests j 0) (omega (arith, known j (omega (arith, h.within)))) e in
              both_ways (eqb (get_or v.requests j 0) (get_or v.requests j 0)) ((used (get_or v.requests j 0)).none_before j f (omega arith)) (eq-eqb (get_or v.requests j 0) (get_or v.requests j 0) refl)
