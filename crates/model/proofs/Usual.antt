-- The usual opening fills the frames with existing blocks, rising.
use Rattle.std.proofs.Common.{◌≡◌, ℕ, zero, suc, ◌+◌, ◌-◌, ◌<◌, ◌≤◌, Bool, true, false, ◌||◌, eqb, ltb, leb, ◌⊎◌, List, [], ◌∷◌, ◌++◌, length, get_or, refl, ◌∙◌, subst, inl, inr, arith}
use Rattle.std.proofs.lemmas.List.{length-append, get_or_append_left, get_or-append-add, get_or-append_right}
use Rattle.std.proofs.lemmas.Bool.{and_parts, and_from, ltb-true, lt-ltb, le-leb, eqb-true, eqb-false, leb-true, leb-false, eq-eqb, cases_lt}
use Rattle.std.proofs.lemmas.Bool.Decides.{nat_tests}
use Rattle.model.specs.Timetable.{bit, home}
use Rattle.model.specs.Pass.{each, add_unless, different, usual_opening, rises, opening_fits}
use Rattle.model.specs.PassLaws.{Playable, FitOpening, OpeningsTold}
use Rattle.model.proofs.Picked.{Rising, rising_room, rising_from, rising_each, rising_pairs, picked_rises, sum_below, sum_same, sum_both, sum_none, sum_one, length_picked, home_one, among_is}
use Rattle.model.proofs.Seeing.{each_at, each_length}
use Rattle.model.proofs.Choosing.{all_four}

-- as many numbers are in a list of different numbers below n as the list is long
abbrev Different : ℕ → List ℕ → Type 0
Different n [] = Unit {0}
Different n (x ∷ xs) = (x < n) × (home xs x ≡ 0) × Different n xs

home_cons : (x : ℕ) (xs : List ℕ) (b : ℕ) → home xs x ≡ 0 → home (x ∷ xs) b ≡ bit (eqb x b) + home xs b
unfolding home
home_cons x xs b e = grind (arith, nat_tests)

sum_different : (n : ℕ) (xs : List ℕ) → Different n xs → sum_below (λ b. home xs b) n ≡ length xs
unfolding home
sum_different n [] h = sum_none n
sum_different n (x ∷ xs) h =
    let a = sum_same (λ b. home (x ∷ xs) b) (λ b. bit (eqb x b) + home xs b) n (λ b l. home_cons x xs b h.1) in
    let c = sum_both (λ b. bit (eqb x b)) (λ b. home xs b) n in
    omega (arith, sum_one x n h.0, sum_different n xs h.2)

-- What is found: different numbers below n, and either so many or all that are listed.
record Found (n k : ℕ) (rs found : List ℕ) (out : List ℕ) : Type 0 where
  differ : Different n out
  most : length out ≤ k
  full_or : (k ≤ length out) ⊎ ((i : ℕ) → i < length rs → home out (get_or rs i 0) ≡ 1)
  keeps : (b : ℕ) → home found b ≡ 1 → home out b ≡ 1
  grows : length found ≤ length out

home_own : (x : ℕ) (xs : List ℕ) → home (x ∷ xs) x ≡ 1
unfolding home
home_own x xs = rw (eq-eqb x x refl)

home_more : (x : ℕ) (xs : List ℕ) (b : ℕ) → home xs b ≡ 1 → home (x ∷ xs) b ≡ 1
unfolding home
home_more x xs b e = grind arith

finds : (n k : ℕ) (rs found : List ℕ) → Different n found → length found ≤ k → ((i : ℕ) → i < length rs → get_or rs i 0 < n) → Found n k rs found (different k found rs)
unfolding different
finds n k [] found h few below = record { differ = h; most = few; full_or = inr (λ i l. absurd (omega arith)); keeps = λ b e. e; grows = omega arith }
finds n k (r ∷ rs) found h few below =
    go (eqb (home found r) 1) refl (leb k (length found)) refl (λ more d f. finds n k rs more d f (λ i l. below (suc i) (omega arith)))
  where
    all : (out : List ℕ) → home out r ≡ 1 → (k ≤ length out) ⊎ ((i : ℕ) → i < length rs → home out (get_or rs i 0) ≡ 1) → (k ≤ length out) ⊎ ((i : ℕ) → i < suc (length rs) → home out (get_or (r ∷ rs) i 0) ≡ 1)
    all out e (inl l) = inl l
    all out e (inr f) = inr at
      where
        at : (i : ℕ) → i < suc (length rs) → home out (get_or (r ∷ rs) i 0) ≡ 1
        at zero l = e
        at (suc i) l = f i (omega arith)

    not_one : (m : ℕ) → m ≤ 1 → (m ≡ 1 → ⊥) → m ≡ 0
    not_one m l i = omega arith

    go : (x : Bool) → eqb (home found r) 1 ≡ x → (y : Bool) → leb k (length found) ≡ y → ((more : List ℕ) → Different n more → length more ≤ k → Found n k rs more (different k more rs)) →
        Found n k (r ∷ rs) found (different k (add_unless (x || y) r found) rs)
    go true e y f again =
        let j = again found h few in
        record { differ = j.differ; most = j.most; full_or = all (different k found rs) (j.keeps r (eqb-true (home found r) 1 e)) j.full_or; keeps = j.keeps; grows = j.grows }
    go false e true f again =
        let j = again found h few in
        record { differ = j.differ; most = j.most; full_or = inl (omega (arith, leb-true k (length found) f, j.grows)); keeps = j.keeps; grows = j.grows }
    go false e false f again =
        let none_yet : home found r ≡ 0 = not_one (home found r) (home_one found r) (eqb-false (home found r) 1 e) in
        let j = again (r ∷ found) (below 0 (omega arith), none_yet, h) (omega (arith, leb-false k (length found) f)) in
        record {
          differ = j.differ;
          most = j.most;
          full_or = all (different k (r ∷ found) rs) (j.keeps r (home_own r found)) j.full_or;
          keeps = λ b i. j.keeps b (home_more r found b i);
          grows = omega (arith, j.grows);
        }

sum_ones : (f : ℕ → ℕ) (n : ℕ) → ((b : ℕ) → b < n → f b ≡ 1) → sum_below f n ≡ n
sum_ones f zero h = refl
sum_ones f (suc n) h = omega (arith, sum_ones f n (λ b l. h b (omega arith)), h n (omega arith))

module _ (n k : ℕ) (requests : List ℕ) (enough : k ≤ n) (known : (i : ℕ) → i < length requests → get_or requests i 0 < n) where
  abbrev listed : List ℕ
  listed = requests ++ each (λ b. b) n

  abbrev chosen : List ℕ
  chosen = different k [] listed

  listed_below : (i : ℕ) → i < length listed → get_or listed i 0 < n
  listed_below i l = go (cases_lt i (length requests))
    where
      go : (i < length requests) ⊎ (length requests ≤ i) → get_or listed i 0 < n
      go (inl m) = omega (arith, get_or_append_left requests (each (λ b. b) n) 0 i m, known i m)
      go (inr m) =
          let j : i - length requests < n = omega (arith, length-append requests (each (λ b. b) n), each_length (λ b. b) n) in
          omega (arith, get_or-append_right requests (each (λ b. b) n) (length requests) i 0 refl m, each_at (λ b. b) n (i - length requests) 0 j)

  found : Found n k listed [] chosen
  found = finds n k listed [] tt (omega arith) listed_below

  chosen_length : length chosen ≡ k
  chosen_length = go found.full_or
    where
      go : (k ≤ length chosen) ⊎ ((i : ℕ) → i < length listed → home chosen (get_or listed i 0) ≡ 1) → length chosen ≡ k
      go (inl e) = omega (arith, found.most)
      go (inr h) = omega (arith, found.most, sum_different n chosen found.differ, sum_ones (λ b. home chosen b) n all)
        where
          all : (b : ℕ) → b < n → home chosen b ≡ 1
          all b l =
              let e : get_or listed (length requests + b) 0 ≡ b = get_or-append-add requests (each (λ x. x) n) b 0 ∙ each_at (λ x. x) n b 0 l in
              subst (λ (x : ℕ). home chosen x ≡ 1) e (h (length requests + b) (omega (arith, length-append requests (each (λ x. x) n), each_length (λ x. x) n)))

  pub usual_length : length (usual_opening n k requests) ≡ k
  unfolding usual_opening
  usual_length =
      length_picked (λ b. eqb (home chosen b) 1) n
      ∙ (sum_same (λ b. bit (eqb (home chosen b) 1)) (λ b. home chosen b) n (λ b l. among_is chosen b)
      ∙ (sum_different n chosen found.differ ∙ chosen_length))

  pub usual_rises : Rising 0 n (usual_opening n k requests)
  unfolding usual_opening
  usual_rises = picked_rises (λ b. eqb (home chosen b) 1) n

pub usual_fits : (homes : List ℕ) (frames fetch : ℕ) (requests : List ℕ) → Playable homes frames fetch requests → FitOpening homes frames (usual_opening (length homes) frames requests)
usual_fits homes frames fetch requests play =
    let r = usual_rises (length homes) frames requests play.enough play.known in
    record {
      fills = usual_length (length homes) frames requests play.enough play.known;
      exist = λ i l. (rising_each 0 (length homes) (usual_opening (length homes) frames requests) r i l).1;
      rise = λ i j m l. rising_pairs 0 (length homes) (usual_opening (length homes) frames requests) r i j m l;
    }

-- The test of an opening.
rises_each : (high : ℕ) (bs : List ℕ) (low : ℕ) → low ≤ high → rises low high bs ≡ true → Rising low high bs
unfolding rises
rises_each high [] low l e = l
rises_each high (b ∷ bs) low l e =
    let k = all_four true (leb low b) (ltb b high) (rises (b + 1) high bs) e in
    (leb-true low b k.1, rises_each high bs (b + 1) (omega (arith, ltb-true b high k.2)) k.3)

each_rises : (high : ℕ) (bs : List ℕ) (low : ℕ) → Rising low high bs → rises low high bs ≡ true
unfolding rises
each_rises high [] low h = refl
each_rises high (b ∷ bs) low h =
    let room = rising_room (b + 1) high bs h.1 in
    rw (le-leb low b h.0, lt-ltb b high (omega arith), each_rises high bs (b + 1) h.1)

pub openings_told : OpeningsTold
openings_told homes frames o = record { said = said; meant = meant }
  where
    said : opening_fits (length homes) frames o ≡ true → FitOpening homes frames o
    said e =
        let k = and_parts (eqb (length o) frames) (rises 0 (length homes) o) e in
        let r = rises_each (length homes) o 0 (omega arith) k.1 in
        record { fills = eqb-true (length o) frames k.0; exist = λ i l. (rising_each 0 (length homes) o r i l).1; rise = λ i j m l. rising_pairs 0 (length homes) o r i j m l }

    meant : FitOpening homes frames o → opening_fits (length homes) frames o ≡ true
    meant f = and_from (eqb (length o) frames) (rises 0 (length homes) o) (eq-eqb (length o) frames f.fills)
        (each_rises (length homes) o 0 (rising_from 0 (length homes) o (omega arith) (λ i l. omega arith) f.exist f.rise))
