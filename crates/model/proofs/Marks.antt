-- What a mark of a block, or of a disk, says of the exchanges so far, and how one more exchange or one more step
-- keeps that true.
use Rattle.std.proofs.Common.{◌≡◌, ℕ, ◌+◌, ◌<◌, ◌≤◌, true, ◌&&◌, eqb, ltb, leb, List, [], ◌∷◌, ◌++◌, length, get_or, refl, ap, arith}
use Rattle.std.proofs.lemmas.Bool.{false≢true, eq-eqb, ne_eqb, le-leb, leb-true}
use Rattle.std.proofs.lemmas.Bool.Decides.{nat_tests}
use Rattle.model.specs.Timetable.{Exchange, none, bit, count, home, landed, brought, left, Resident, Absent, ResidentDuring}
use Rattle.model.specs.Verdict.{Mark, Here, Away, is_here_at, is_away_at}
use Rattle.model.proofs.Counting.{count_push, count_same, count_le, count_tight}

-- the two blocks of an exchange
abbrev pub in_of : Exchange → ℕ
in_of x = x.brings

abbrev pub out_of : Exchange → ℕ
out_of x = x.sends

-- how many exchanges bring a block in, and how many send it out
abbrev pub comings : List Exchange → ℕ → ℕ
comings xs b = count (λ x. eqb x.brings b) xs

abbrev pub goings : List Exchange → ℕ → ℕ
goings xs b = count (λ x. eqb x.sends b) xs

-- all exchanges of a list start at the boundary or before it
abbrev pub Started : List Exchange → ℕ → Type 0
Started xs t = (j : ℕ) → j < length xs → (get_or xs j none).start ≤ t

-- Of exchanges whose block in, or block out, is b: how many there are, and how many start before boundary t.
module _ (f : Exchange → ℕ) where
  abbrev all_of : List Exchange → ℕ → ℕ
  all_of xs b = count (λ x. eqb (f x) b) xs

  abbrev pub early : List Exchange → ℕ → ℕ → ℕ
  early xs b t = count (λ x. eqb (f x) b && ltb x.start t) xs

  same_more : (xs : List Exchange) (x : Exchange) (b : ℕ) → f x ≡ b → all_of (xs ++ (x ∷ [])) b ≡ all_of xs b + 1
  same_more xs x b e = let c = count_push (λ y. eqb (f y) b) xs x in let g : bit (eqb (f x) b) ≡ 1 = ap bit (eq-eqb (f x) b e) in omega arith

  other_more : (xs : List Exchange) (x : Exchange) (b : ℕ) → (f x ≡ b → ⊥) → all_of (xs ++ (x ∷ [])) b ≡ all_of xs b
  other_more xs x b e = let c = count_push (λ y. eqb (f y) b) xs x in let g : bit (eqb (f x) b) ≡ 0 = ap bit (ne_eqb (f x) b e) in omega arith

  pub early_late : (xs : List Exchange) (x : Exchange) (b t : ℕ) → t ≤ x.start → early (xs ++ (x ∷ [])) b t ≡ early xs b t
  early_late xs x b t h = let c = count_push (λ y. eqb (f y) b && ltb y.start t) xs x in let g : bit (eqb (f x) b && ltb x.start t) ≡ 0 = grind (arith, nat_tests) in omega arith

  -- what starts before is among all, and is all where all started before
  pub early_some : (xs : List Exchange) (b t : ℕ) → early xs b t ≤ all_of xs b
  early_some xs b t = count_le (λ x. eqb (f x) b && ltb x.start t) (λ x. eqb (f x) b) (λ x. grind (arith, nat_tests)) xs

  pub early_before : (xs : List Exchange) (b t : ℕ) → Started xs t → ((j : ℕ) → j < length xs → (get_or xs j none).start ≡ t → f (get_or xs j none) ≡ b → ⊥) → early xs b t ≡ all_of xs b
  early_before xs b t s h = count_same (λ x. eqb (f x) b && ltb x.start t) (λ x. eqb (f x) b) xs (λ j l. let m = s j l in let n = h j l in grind (arith, nat_tests))

  pub early_all : (xs : List Exchange) (b t : ℕ) → Started xs t → early xs b (t + 1) ≡ all_of xs b
  early_all xs b t s = early_before xs b (t + 1) (λ j l. omega (arith, s j l)) (λ j l e g. omega (arith, s j l))

  -- all started before: none at the boundary
  pub early_none : (xs : List Exchange) (b t : ℕ) → early xs b t ≡ all_of xs b → (j : ℕ) → j < length xs → (get_or xs j none).start ≡ t → f (get_or xs j none) ≡ b → ⊥
  early_none xs b t e j l at is =
      let h = count_tight (λ x. eqb (f x) b && ltb x.start t) (λ x. eqb (f x) b) (λ x. grind (arith, nat_tests)) xs e j l in
      grind (arith, nat_tests)

  -- a count up to a boundary grows with the boundary
  pub early_grows : (xs : List Exchange) (b t u : ℕ) → t ≤ u → early xs b t ≤ early xs b u
  early_grows xs b t u h = count_le (λ x. eqb (f x) b && ltb x.start t) (λ x. eqb (f x) b && ltb x.start u) (λ x. grind (arith, nat_tests)) xs

module _ (xs : List Exchange) (x : Exchange) (b : ℕ) where
  landed_other : (fetch u : ℕ) → (x.brings ≡ b → ⊥) → landed fetch (xs ++ (x ∷ [])) b u ≡ landed fetch xs b u
  landed_other fetch u e = let c = count_push (λ y. eqb y.brings b && leb (y.start + fetch) u) xs x in let f : bit (eqb x.brings b && leb (x.start + fetch) u) ≡ 0 = grind (arith, nat_tests) in omega arith

  pub landed_late : (fetch u : ℕ) → u < x.start + fetch → landed fetch (xs ++ (x ∷ [])) b u ≡ landed fetch xs b u
  landed_late fetch u h = let c = count_push (λ y. eqb y.brings b && leb (y.start + fetch) u) xs x in let f : bit (eqb x.brings b && leb (x.start + fetch) u) ≡ 0 = grind (arith, nat_tests) in omega arith

  landed_same : (fetch u : ℕ) → x.brings ≡ b → x.start + fetch ≤ u → landed fetch (xs ++ (x ∷ [])) b u ≡ landed fetch xs b u + 1
  landed_same fetch u e h = let c = count_push (λ y. eqb y.brings b && leb (y.start + fetch) u) xs x in let f : bit (eqb x.brings b && leb (x.start + fetch) u) ≡ 1 = grind (arith, nat_tests) in omega arith

-- what has landed was brought in before
pub landed_brought : (fetch : ℕ) → 0 < fetch → (xs : List Exchange) (b t : ℕ) → landed fetch xs b t ≤ brought xs b t
landed_brought fetch f xs b t = count_le (λ x. eqb x.brings b && leb (x.start + fetch) t) (λ x. eqb x.brings b && ltb x.start t) (λ x. grind (arith, nat_tests)) xs

-- A block marked here from boundary l on, seen at boundary t, with the exchanges so far.
pub record HereFrom (fetch : ℕ) (opening : List ℕ) (xs : List Exchange) (t b l : ℕ) : Type 0 where
  pub one : home opening b + comings xs b ≡ goings xs b + 1
  pub stays : left xs b t ≡ goings xs b
  pub lands : (u : ℕ) → t ≤ u → l ≤ u → landed fetch xs b u ≡ comings xs b
  pub flies : (u : ℕ) → t ≤ u → u < l → home opening b + landed fetch xs b u ≡ goings xs b

-- A block marked away from boundary g on.
pub record AwayFrom (fetch : ℕ) (opening : List ℕ) (xs : List Exchange) (t b g : ℕ) : Type 0 where
  pub out : home opening b + comings xs b ≡ goings xs b
  pub came : brought xs b t ≡ comings xs b
  pub gone : g ≤ t → left xs b t ≡ goings xs b
  pub going : t < g → left xs b t + 1 ≡ goings xs b
  pub soon : g ≤ t + 1
  pub down : (u : ℕ) → t ≤ u → landed fetch xs b u ≡ comings xs b

abbrev pub MarkIs : ℕ → List ℕ → List Exchange → ℕ → ℕ → Mark → Type 0
MarkIs fetch opening xs t b (Here l) = HereFrom fetch opening xs t b l
MarkIs fetch opening xs t b (Away g) = AwayFrom fetch opening xs t b g

-- one step more
pub mark_step : (fetch : ℕ) (opening : List ℕ) (xs : List Exchange) (t b : ℕ) (m : Mark) → Started xs t →
    MarkIs fetch opening xs t b m → MarkIs fetch opening xs (t + 1) b m
mark_step fetch opening xs t b (Here l) s h =
    record { one = h.one; stays = early_all out_of xs b t s; lands = λ u i j. h.lands u (omega arith) j; flies = λ u i j. h.flies u (omega arith) j }
mark_step fetch opening xs t b (Away g) s h =
    record { out = h.out; came = early_all in_of xs b t s; gone = λ i. early_all out_of xs b t s; going = λ i. absurd (omega (arith, h.soon)); soon = omega (arith, h.soon); down = λ u i. h.down u (omega arith) }

-- an exchange of other blocks
pub mark_other : (fetch : ℕ) → 0 < fetch → (opening : List ℕ) (xs : List Exchange) (x : Exchange) (b : ℕ) (m : Mark) →
    (x.brings ≡ b → ⊥) → (x.sends ≡ b → ⊥) → MarkIs fetch opening xs x.start b m → MarkIs fetch opening (xs ++ (x ∷ [])) x.start b m
mark_other fetch f opening xs x b (Here l) p q h =
    record {
      one = omega (arith, other_more in_of xs x b p, other_more out_of xs x b q, h.one);
      stays = omega (arith, early_late out_of xs x b x.start (omega arith), other_more out_of xs x b q, h.stays);
      lands = λ u i j. omega (arith, landed_other xs x b fetch u p, other_more in_of xs x b p, h.lands u i j);
      flies = λ u i j. omega (arith, landed_other xs x b fetch u p, other_more out_of xs x b q, h.flies u i j);
    }
mark_other fetch f opening xs x b (Away g) p q h =
    record {
      out = omega (arith, other_more in_of xs x b p, other_more out_of xs x b q, h.out);
      came = omega (arith, early_late in_of xs x b x.start (omega arith), other_more in_of xs x b p, h.came);
      gone = λ i. omega (arith, early_late out_of xs x b x.start (omega arith), other_more out_of xs x b q, h.gone i);
      going = λ i. omega (arith, early_late out_of xs x b x.start (omega arith), other_more out_of xs x b q, h.going i);
      soon = h.soon;
      down = λ u i. omega (arith, landed_other xs x b fetch u p, other_more in_of xs x b p, h.down u i);
    }

-- the block that it brings in
pub mark_in : (fetch : ℕ) → 0 < fetch → (opening : List ℕ) (xs : List Exchange) (x : Exchange) (g : ℕ) →
    (x.sends ≡ x.brings → ⊥) → g ≤ x.start → AwayFrom fetch opening xs x.start x.brings g →
    HereFrom fetch opening (xs ++ (x ∷ [])) x.start x.brings (x.start + fetch)
mark_in fetch f opening xs x g q le h =
    record {
      one = omega (arith, same_more in_of xs x x.brings refl, other_more out_of xs x x.brings q, h.out);
      stays = omega (arith, early_late out_of xs x x.brings x.start (omega arith), other_more out_of xs x x.brings q, h.gone le);
      lands = λ u i j. omega (arith, landed_same xs x x.brings fetch u refl j, same_more in_of xs x x.brings refl, h.down u i);
      flies = λ u i j. omega (arith, landed_late xs x x.brings fetch u j, other_more out_of xs x x.brings q, h.down u i, h.out);
    }

-- the block that it sends out
pub mark_out : (fetch : ℕ) → 0 < fetch → (opening : List ℕ) (xs : List Exchange) (x : Exchange) (l : ℕ) →
    (x.brings ≡ x.sends → ⊥) → l ≤ x.start → HereFrom fetch opening xs x.start x.sends l →
    AwayFrom fetch opening (xs ++ (x ∷ [])) x.start x.sends (x.start + 1)
mark_out fetch f opening xs x l p le h =
    record {
      out = omega (arith, other_more in_of xs x x.sends p, same_more out_of xs x x.sends refl, h.one);
      came = omega (arith, early_late in_of xs x x.sends x.start (omega arith), other_more in_of xs x x.sends p, h.lands x.start (omega arith) le, landed_brought fetch f xs x.sends x.start, early_some in_of xs x.sends x.start);
      gone = λ i. absurd (omega arith);
      going = λ i. omega (arith, early_late out_of xs x x.sends x.start (omega arith), same_more out_of xs x x.sends refl, h.stays);
      soon = omega arith;
      down = λ u i. omega (arith, landed_other xs x x.sends fetch u p, other_more in_of xs x x.sends p, h.lands u i (omega arith));
    }

-- What the tests of a mark decide.
pub away_absent : (fetch : ℕ) (opening : List ℕ) (xs : List Exchange) (t b : ℕ) (m : Mark) → MarkIs fetch opening xs t b m → is_away_at m t ≡ true →
    Absent opening xs b t × (brought xs b t ≡ comings xs b)
away_absent fetch opening xs t b (Here l) h e = absurd (false≢true e)
away_absent fetch opening xs t b (Away g) h e = (omega (arith, h.out, h.came, h.gone (leb-true g t e)), h.came)

pub absent_away : (fetch : ℕ) (opening : List ℕ) (xs : List Exchange) (t b : ℕ) (m : Mark) → MarkIs fetch opening xs t b m →
    Absent opening xs b t → brought xs b t ≡ comings xs b → is_away_at m t ≡ true
absent_away fetch opening xs t b (Here l) h a c = absurd (omega (arith, h.one, h.stays))
absent_away fetch opening xs t b (Away g) h a c = le-leb g t (grind (arith, h.out, h.going))

pub here_resident : (fetch : ℕ) (opening : List ℕ) (xs : List Exchange) (t b : ℕ) (m : Mark) → Started xs t → MarkIs fetch opening xs t b m → is_here_at m t ≡ true →
    Resident fetch opening xs b t × (left xs b t ≡ goings xs b) × ResidentDuring fetch opening xs b t
here_resident fetch opening xs t b (Away g) s h e = absurd (false≢true e)
here_resident fetch opening xs t b (Here l) s h e =
    let i = h.lands t (omega arith) (leb-true l t e) in
    (omega (arith, h.one, h.stays), h.stays, omega (arith, h.one, early_all out_of xs b t s))

pub resident_here : (fetch : ℕ) → 0 < fetch → (opening : List ℕ) (xs : List Exchange) (t b : ℕ) (m : Mark) → Started xs t → MarkIs fetch opening xs t b m →
    ResidentDuring fetch opening xs b t → is_here_at m t ≡ true
resident_here fetch f opening xs t b (Away g) s h r =
    absurd (omega (arith, h.out, early_all out_of xs b t s, landed_brought fetch f xs b t, early_some in_of xs b t))
resident_here fetch f opening xs t b (Here l) s h r = le-leb l t (grind (arith, h.flies t (omega arith), early_all out_of xs b t s))

-- resident between landings and starts, and not sent out at this boundary: resident during the step
pub still_resident : (fetch : ℕ) (opening : List ℕ) (xs : List Exchange) (t b : ℕ) → Started xs t → Resident fetch opening xs b t → left xs b t ≡ goings xs b → ResidentDuring fetch opening xs b t
still_resident fetch opening xs t b s r e = omega (arith, early_all out_of xs b t s)
