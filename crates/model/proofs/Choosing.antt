-- Need's law for the two rules, on both sides.
use Rattle.std.proofs.Common.{◌≡◌, ℕ, zero, suc, ◌+◌, ◌<◌, ◌≤◌, Bool, true, false, cond, ◌&&◌, eqb, ltb, ◌⊎◌, [], ◌∷◌, length, get_or, sym, refl, subst, inl, inr, arith}
use Rattle.std.proofs.lemmas.List.{get_or_past}
use Rattle.std.proofs.lemmas.Bool.{both_ways, and_parts, and_from, ltb-true, lt-ltb, eqb-true, eq-eqb, cases_eq, false_from_ne_true, ltb-false}
use Rattle.std.proofs.lemmas.Option.{same_Some}
use Rattle.model.specs.Timetable.{Side, Forward, Backward, occupies}
use Rattle.model.specs.View.{Option, None, Some, View, blocks, wanted_block, is_free, missing, may_go_out, lawful, all_of, disk_of, next_use, better_if, greatest, latest, latest_on, latest_of}
use Rattle.model.specs.Rules.{Wants, NeedLaw, or_else, lowest_free, aggressive, aggressive_need, demand}

-- four tests that all pass
pub all_four : (p q r s : Bool) → all_of (p ∷ q ∷ r ∷ s ∷ []) ≡ true → (p ≡ true) × (q ≡ true) × (r ≡ true) × (s ≡ true)
all_four p q r s e = (grind arith, grind arith, grind arith, grind arith)

pub four_all : (p q r s : Bool) → p ≡ true → q ≡ true → r ≡ true → s ≡ true → all_of (p ∷ q ∷ r ∷ s ∷ []) ≡ true
four_all p q r s a b c d = rw (a, b, c, d)

-- a block that may go out exists
pub known_out : (v : View) (b : ℕ) → may_go_out v b ≡ true → b < blocks v
known_out v b e = ltb-true b (blocks v) (and_parts (ltb b (blocks v)) _ e).0

-- What a lawful exchange says.
pub record IsLawful (v : View) (a b : ℕ) : Type 0 where
  pub known_in : a < blocks v
  pub comes : missing v a ≡ true
  pub known_out : b < blocks v
  pub goes : may_go_out v b ≡ true
  pub on_free : is_free v (disk_of v a b) ≡ true

pub lawful_parts : (v : View) (a b : ℕ) → lawful v a b ≡ true → IsLawful v a b
lawful_parts v a b e =
    let p = all_four (ltb a (blocks v)) (missing v a) (may_go_out v b) (is_free v (disk_of v a b)) e in
    record { known_in = ltb-true a (blocks v) p.0; comes = p.1; known_out = known_out v b p.2; goes = p.2; on_free = p.3 }

-- where there is no greatest, none passes
module _ (p : ℕ → Bool) (key : ℕ → ℕ) where
  misses : (n b : ℕ) (o : Option ℕ) → (o ≡ None → b < n → p b ≡ false) → better_if (p n) key n o ≡ None → b < suc n → p b ≡ false
  misses n b o h f l = grind arith

  pub greatest_none : (n : ℕ) → greatest p key n ≡ None → (b : ℕ) → b < n → p b ≡ false
  unfolding greatest
  greatest_none zero e b l = absurd (omega arith)
  greatest_none (suc n) e b l = misses n b (greatest p key n) (λ f. greatest_none n f b) e l

-- the greatest by a key, ties to the lowest
pub record Top (p : ℕ → Bool) (key : ℕ → ℕ) (n b : ℕ) : Type 0 where
  pub below : b < n
  pub passes : p b ≡ true
  pub most : (c : ℕ) → c < n → p c ≡ true → key c ≤ key b
  pub lowest : (c : ℕ) → c < b → p c ≡ true → key c < key b

module _ (p : ℕ → Bool) (key : ℕ → ℕ) where
  pub top : (n b : ℕ) → greatest p key n ≡ Some b → Top p key n b
  unfolding greatest
  top zero b e = absurd (cc)
  top (suc n) b e = go (p n) refl (greatest p key n) refl (λ c f. top n c f) e
    where
      up : Top p key n b → (p n ≡ true → key n ≤ key b) → Top p key (suc n) b
      up h k = record { below = omega (arith, h.below); passes = h.passes; most = λ c l f. let i = h.most c in grind (arith, cases_eq c n); lowest = h.lowest }

      new : p n ≡ true → ((c : ℕ) → c < n → p c ≡ true → key c < key n) → n ≡ b → Top p key (suc n) b
      new f k i = subst (λ (x : ℕ). Top p key (suc n) x) i (record { below = omega arith; passes = f; most = λ c l g. let j = k c in grind (arith, cases_eq c n); lowest = k })

      go : (x : Bool) → p n ≡ x → (y : Option ℕ) → greatest p key n ≡ y → ((c : ℕ) → y ≡ Some c → Top p key n c) → better_if x key n y ≡ Some b → Top p key (suc n) b
      go false f y g h e = up (h b e) (λ k. absurd (both_ways (p n) f k))
      go true f None g h e = new f (λ c l k. absurd (both_ways (p c) (greatest_none p key n g c l) k)) (same_Some n b e)
      go true f (Some m) g h e = pick (ltb (key m) (key n)) refl e
        where
          pick : (z : Bool) → ltb (key m) (key n) ≡ z → cond z (Some n) (Some m) ≡ Some b → Top p key (suc n) b
          pick true i e = new f (λ c l k. omega (arith, (h m refl).most c l k, ltb-true (key m) (key n) i)) (same_Some n b e)
          pick false i e = up (h b e) (λ k. subst (λ (x : ℕ). key n ≤ key x) (same_Some m b e) (ltb-false (key m) (key n) i))

-- the latest of those that pass a test may go out and passes; and where there is none, none that may go out passes
pub latest_some : (v : View) (p : ℕ → Bool) (b : ℕ) → latest_of v p ≡ Some b → (may_go_out v b ≡ true) × (p b ≡ true)
latest_some v p b e = and_parts (may_go_out v b) (p b) (top (λ c. may_go_out v c && p c) (next_use v) (blocks v) b e).passes

pub latest_none : (v : View) (p : ℕ → Bool) → latest_of v p ≡ None → (b : ℕ) → may_go_out v b ≡ true → p b ≡ true → ⊥
latest_none v p e b m q =
    both_ways (may_go_out v b && p b) (greatest_none (λ c. may_go_out v c && p c) (next_use v) (blocks v) e b (known_out v b m)) (and_from (may_go_out v b) (p b) m q)

pub demand_law : NeedLaw demand
demand_law = record {
  names = λ v w b e. (latest_some v (λ c. lawful v (wanted_block v) c) b e).1;
  else_none = λ v w e b. false_from_ne_true (lawful v (wanted_block v) b) (λ l. latest_none v (λ c. lawful v (wanted_block v) c) e b (lawful_parts v (wanted_block v) b l).goes l);
}

-- forward: the disk is that of the wanted block
forward_names : (v : View) → Wants v → v.side ≡ Forward → (b : ℕ) → aggressive_need Forward v ≡ Some b → lawful v (wanted_block v) b ≡ true
forward_names v w s b e = go (is_free v (get_or v.homes (wanted_block v) 0)) refl e
  where
    go : (t : Bool) → is_free v (get_or v.homes (wanted_block v) 0) ≡ t → cond t (latest v) None ≡ Some b → lawful v (wanted_block v) b ≡ true
    go false f e = absurd (cc)
    go true f e = four_all _ _ _ _ (lt-ltb (wanted_block v) (blocks v) w.known) w.away (latest_some v (λ c. true) b e).0 (rw s f)

forward_none : (v : View) → Wants v → v.side ≡ Forward → aggressive_need Forward v ≡ None → (b : ℕ) → lawful v (wanted_block v) b ≡ true → ⊥
forward_none v w s e b l = go (is_free v (get_or v.homes (wanted_block v) 0)) refl e
  where
    parts : IsLawful v (wanted_block v) b
    parts = lawful_parts v (wanted_block v) b l

    go : (t : Bool) → is_free v (get_or v.homes (wanted_block v) 0) ≡ t → cond t (latest v) None ≡ None → ⊥
    go false f e = both_ways (is_free v (get_or v.homes (wanted_block v) 0)) f (subst (λ (z : Side). is_free v (occupies z v.homes (record { brings = wanted_block v; sends = b; start = 0 })) ≡ true) s parts.on_free)
    go true f e = latest_none v (λ c. true) e b parts.goes refl

-- backward: that of the block out
pub record FreeOut (v : View) (b : ℕ) : Type 0 where
  pub goes : may_go_out v b ≡ true
  pub on_free : is_free v (get_or v.homes b 0) ≡ true

lowest_some : (v : View) (n d b : ℕ) → lowest_free v n d ≡ Some b → FreeOut v b
unfolding lowest_free
lowest_some v zero d b e = absurd (cc)
lowest_some v (suc n) d b e = go (is_free v d) refl (latest_on v d) refl (λ f. lowest_some v n (d + 1) b f) e
  where
    here : is_free v d ≡ true → (c : ℕ) → latest_on v d ≡ Some c → FreeOut v c
    here f c g = let k = latest_some v (λ x. eqb (get_or v.homes x 0) d) c g in
        record { goes = k.0; on_free = subst (λ (x : ℕ). is_free v x ≡ true) (sym (eqb-true (get_or v.homes c 0) d k.1)) f }

    go : (t : Bool) → is_free v d ≡ t → (o : Option ℕ) → latest_on v d ≡ o → (lowest_free v n (d + 1) ≡ Some b → FreeOut v b) → or_else (cond t o None) (lowest_free v n (d + 1)) ≡ Some b → FreeOut v b
    go false f o g h e = h e
    go true f None g h e = h e
    go true f (Some c) g h e = let i : c ≡ b = cc in subst (λ (x : ℕ). FreeOut v x) i (here f c g)

lowest_none : (v : View) (n d : ℕ) → lowest_free v n d ≡ None → (b : ℕ) → FreeOut v b → d ≤ get_or v.homes b 0 → get_or v.homes b 0 < d + n → ⊥
unfolding lowest_free
lowest_none v zero d e b h low high = omega arith
lowest_none v (suc n) d e b h low high =
    go (is_free v d) refl (latest_on v d) refl (cases_eq (get_or v.homes b 0) d) (λ f ne. lowest_none v n (d + 1) f b h (omega arith) (omega arith)) e
  where
    go : (t : Bool) → is_free v d ≡ t → (o : Option ℕ) → latest_on v d ≡ o → (get_or v.homes b 0 ≡ d) ⊎ (get_or v.homes b 0 ≡ d → ⊥) →
        (lowest_free v n (d + 1) ≡ None → (get_or v.homes b 0 ≡ d → ⊥) → ⊥) → or_else (cond t o None) (lowest_free v n (d + 1)) ≡ None → ⊥
    go t f o g (inr ne) k e = k (rest t o e) ne
      where
        rest : (t : Bool) (o : Option ℕ) → or_else (cond t o None) (lowest_free v n (d + 1)) ≡ None → lowest_free v n (d + 1) ≡ None
        rest false o e = e
        rest true None e = e
        rest true (Some c) e = absurd (cc)
    go false f o g (inl i) k e = both_ways (is_free v d) f (subst (λ (x : ℕ). is_free v x ≡ true) i h.on_free)
    go true f None g (inl i) k e = latest_none v (λ x. eqb (get_or v.homes x 0) d) g b h.goes (eq-eqb (get_or v.homes b 0) d i)
    go true f (Some c) g (inl i) k e = absurd (cc)

backward_names : (v : View) → Wants v → v.side ≡ Backward → (b : ℕ) → aggressive_need Backward v ≡ Some b → lawful v (wanted_block v) b ≡ true
backward_names v w s b e =
    let k = lowest_some v (length v.free) 0 b e in
    four_all _ _ _ _ (lt-ltb (wanted_block v) (blocks v) w.known) w.away k.goes (rw s k.on_free)

-- a disk past the list is not free
pub free_known : (v : View) (d : ℕ) → is_free v d ≡ true → d < length v.free
free_known v d e = grind (arith, get_or_past v.free d false)

backward_none : (v : View) → v.side ≡ Backward → aggressive_need Backward v ≡ None → (b : ℕ) → lawful v (wanted_block v) b ≡ true → ⊥
backward_none v s e b l =
    let p = lawful_parts v (wanted_block v) b l in
    let f : is_free v (get_or v.homes b 0) ≡ true = subst (λ (z : Side). is_free v (occupies z v.homes (record { brings = wanted_block v; sends = b; start = 0 })) ≡ true) s p.on_free in
    lowest_none v (length v.free) 0 e b (record { goes = p.goes; on_free = f }) (omega arith) (omega (arith, free_known v (get_or v.homes b 0) f))

pub aggressive_law : NeedLaw aggressive
aggressive_law = record { names = λ v w b e. named v w b v.side refl e; else_none = λ v w e b. false_from_ne_true (lawful v (wanted_block v) b) (not_named v w b v.side refl e) }
  where
    named : (v : View) → Wants v → (b : ℕ) (z : Side) → v.side ≡ z → aggressive_need z v ≡ Some b → lawful v (wanted_block v) b ≡ true
    named v w b Forward s e = forward_names v w s b e
    named v w b Backward s e = backward_names v w s b e

    not_named : (v : View) → Wants v → (b : ℕ) (z : Side) → v.side ≡ z → aggressive_need z v ≡ None → lawful v (wanted_block v) b ≡ true → ⊥
    not_named v w b Forward s e l = forward_none v w s e b l
    not_named v w b Backward s e l = backward_none v s e b l
