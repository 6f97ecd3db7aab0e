-- The questions that a rule can ask, each answered by the one thing it means.
use Rattle.std.proofs.Common.{◌≡◌, ℕ, zero, suc, ◌+◌, ◌-◌, ◌<◌, ◌≤◌, Bool, true, false, cond, ◌&&◌, List, [], ◌∷◌, length, get_or, drop, sym, refl, ap, ◌∙◌, subst, arith}
use Rattle.std.proofs.lemmas.List.{length-drop, get_or-drop}
use Rattle.std.proofs.lemmas.Bool.{false≢true, and_parts, and_from}
use Rattle.model.specs.Timetable.{Forward}
use Rattle.model.specs.View.{Option, None, Some, View, Absent, Resident, blocks, may_go_out, next_use, first_at, first_from, latest_of}
use Rattle.model.specs.ViewLaws.{FirstIs, FirstsExact, LatestIs, LatestsExact, SilenceBreaksTheLaw}
use Rattle.model.proofs.Choosing.{latest_none, top, known_out}

-- first, over a list whose head stands at a position
pub record At (test : ℕ → Bool) (rs : List ℕ) (at k : ℕ) : Type 0 where
  pub offset : ℕ
  pub is : k ≡ at + offset
  pub within : offset ≤ length rs
  pub passes : offset < length rs → test (get_or rs offset 0) ≡ true
  pub none_before : (j : ℕ) → j < offset → test (get_or rs j 0) ≡ false

pub first_at_lem : (test : ℕ → Bool) (rs : List ℕ) (at : ℕ) → At test rs at (first_at test rs at)
unfolding first_at
first_at_lem test [] at = record { offset = 0; is = omega arith; within = omega arith; passes = λ l. absurd (omega arith); none_before = λ j l. absurd (omega arith) }
first_at_lem test (r ∷ rs) at = go (test r) refl (first_at_lem test rs (at + 1))
  where
    go : (x : Bool) → test r ≡ x → At test rs (at + 1) (first_at test rs (at + 1)) → At test (r ∷ rs) at (cond x at (first_at test rs (at + 1)))
    go true e h = record { offset = 0; is = omega arith; within = omega arith; passes = λ l. e; none_before = λ j l. absurd (omega arith) }
    go false e h = record { offset = suc h.offset; is = omega (arith, h.is); within = omega (arith, h.within); passes = λ l. h.passes (omega arith); none_before = λ j l. none j l }
      where
        none : (j : ℕ) → j < suc h.offset → test (get_or (r ∷ rs) j 0) ≡ false
        none zero l = e
        none (suc j) l = h.none_before j (omega arith)

pub first_is : (v : View) (test : ℕ → Bool) → v.position ≤ length v.requests → FirstIs v.requests v.position test (first_from v test)
first_is v test l =
    let h = first_at_lem test (drop v.position v.requests) v.position in
    let n = length-drop v.position v.requests in
    record {
      from = omega (arith, h.is);
      within = omega (arith, h.is, h.within);
      passes = λ m. subst (λ (x : ℕ). test (get_or v.requests x 0) ≡ true) (sym h.is) (subst (λ (x : ℕ). test x ≡ true) (get_or-drop v.position v.requests h.offset 0) (h.passes (omega (arith, h.is))));
      none_before = λ j i m. before h j i m;
    }
  where
    before : (h : At test (drop v.position v.requests) v.position (first_from v test)) (j : ℕ) → v.position ≤ j → j < first_from v test → test (get_or v.requests j 0) ≡ false
    before h j i m =
        let e : v.position + (j - v.position) ≡ j = omega arith in
        subst (λ (x : ℕ). test (get_or v.requests x 0) ≡ false) e
        (subst (λ (x : ℕ). test x ≡ false) (get_or-drop v.position v.requests (j - v.position) 0) (h.none_before (j - v.position) (omega (arith, h.is))))

first_only : (requests : List ℕ) (p : ℕ) (test : ℕ → Bool) (k m : ℕ) → FirstIs requests p test k → FirstIs requests p test m → k ≡ m
first_only requests p test k m f g =
    let a = g.none_before k f.from in let b = f.passes in
    let c = f.none_before m g.from in let d = g.passes in
    let e = f.within in let h = g.within in grind arith

pub firsts_exact : FirstsExact
firsts_exact v test l = record { is = first_is v test l; only = λ k f. first_only v.requests v.position test k (first_from v test) f (first_is v test l) }

latest_is : (v : View) (test : ℕ → Bool) (b : ℕ) → latest_of v test ≡ Some b → LatestIs v test b
latest_is v test b e =
    let h = top (λ c. may_go_out v c && test c) (next_use v) (blocks v) b e in
    let k = and_parts (may_go_out v b) (test b) h.passes in
    record {
      goes = k.0;
      passes = k.1;
      latest = λ c f g. h.most c (known_out v c f) (and_from (may_go_out v c) (test c) f g);
      lowest = λ c f g l. h.lowest c l (and_from (may_go_out v c) (test c) f g);
    }

one_latest : (v : View) (test : ℕ → Bool) (b c : ℕ) → LatestIs v test b → LatestIs v test c → b ≡ c
one_latest v test b c f g =
    let h = g.lowest b f.goes f.passes in let i = f.latest c g.goes g.passes in
    let j = f.lowest c g.goes g.passes in let k = g.latest b f.goes f.passes in grind arith

pub latests_exact : LatestsExact
latests_exact v test = record {
  is = latest_is v test;
  only = λ b h. found b h (latest_of v test) refl;
  none_is = λ e c f g. latest_none v test e c f g;
  none_only = λ h. empty h (latest_of v test) refl;
}
  where
    found : (b : ℕ) → LatestIs v test b → (y : Option ℕ) → latest_of v test ≡ y → latest_of v test ≡ Some b
    found b h None e = absurd (latest_none v test e b h.goes h.passes)
    found b h (Some c) e = e ∙ ap (λ (x : ℕ). Some x) (one_latest v test c b (latest_is v test c e) h)

    empty : ((c : ℕ) → may_go_out v c ≡ true → test c ≡ true → ⊥) → (y : Option ℕ) → latest_of v test ≡ y → latest_of v test ≡ None
    empty h None e = e
    empty h (Some c) e = let k = latest_is v test c e in absurd (h c k.goes k.passes)

-- two blocks on one free disk, the wanted one absent
witness : View
witness = record {
  side = Forward;
  homes = 0 ∷ 0 ∷ [];
  frames = 1;
  requests = 0 ∷ [];
  position = 0;
  places = Absent ∷ Resident ∷ [];
  named = false ∷ false ∷ [];
  free = true ∷ [];
}

pub silence_breaks : SilenceBreaksTheLaw
unfolding witness
silence_breaks law = false≢true (sym (law.else_none witness (record { asked = omega arith; known = omega arith; away = refl }) refl 1))
