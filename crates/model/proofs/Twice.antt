-- The mirror of the mirror of a plan that keeps the model is the plan.
use Rattle.std.proofs.Common.{◌≡◌, ℕ, suc, ◌+◌, ◌-◌, ◌<◌, ◌≤◌, Bool, true, ◌&&◌, eqb, ltb, leb, List, [], ◌∷◌, map, reverse, length, get_or, sym, refl, ap, ◌∙◌, arith}
use mathlib.Core.List.{reverse-cons}
use Rattle.std.proofs.lemmas.List.{append-nil, reverse-reverse, length-reverse, ext_get_or}
use Rattle.std.proofs.lemmas.Bool.{eqb-true, eq-eqb, le-ltb, lt-leb, and_right}
use Rattle.std.proofs.lemmas.Bool.Decides.{nat_tests}
use Rattle.model.specs.Timetable.{Exchange, none, Side, Plan, Keeps, landed, left, home, bit}
use Rattle.model.specs.PlanBytes.{starting_at}
use Rattle.model.specs.Mirror.{remains, closing, reflected, mirrored}
use Rattle.model.specs.MirrorLaws.{MirrorTwice, ClosingContent, MirrorOrder}
use Rattle.model.proofs.Counting.{count_none}
use Rattle.model.proofs.Writing.{starting_append}
use Rattle.model.proofs.Picked.{among, picked_same, rising_picked, home_picked}
use Rattle.model.proofs.Reflected.{left_reflected, landed_reflected, closes_with, opening_rises}
use Rattle.model.proofs.Mirroring.{length_reflected, at_reflected}

-- at the first boundary nothing has landed or gone
landed_first : (fetch : ℕ) → 0 < fetch → (xs : List Exchange) (b : ℕ) → landed fetch xs b 0 ≡ 0
landed_first fetch f xs b = count_none (λ x. eqb x.brings b && leb (x.start + fetch) 0) xs
    (λ j l. and_right (eqb (get_or xs j none).brings b) (leb ((get_or xs j none).start + fetch) 0) (lt-leb ((get_or xs j none).start + fetch) 0 (omega arith)))

left_first : (xs : List Exchange) (b : ℕ) → left xs b 0 ≡ 0
left_first xs b = count_none (λ x. eqb x.sends b && ltb x.start 0) xs
    (λ j l. and_right (eqb (get_or xs j none).sends b) (ltb (get_or xs j none).start 0) (le-ltb (get_or xs j none).start 0 (omega arith)))

-- an exchange reflected twice
reflected_twice : (T U fetch : ℕ) (x : Exchange) → x.start + fetch ≤ T → U ≡ T → reflected U fetch (reflected T fetch x) ≡ x
reflected_twice T U fetch x l e = ap start_at again
  where
    start_at : ℕ → Exchange
    start_at s = record { brings = x.brings; sends = x.sends; start = s }

    again : U - (T - (x.start + fetch) + fetch) ≡ x.start
    again = omega arith

same_test : (m n c h : ℕ) → m ≡ h + c → n ≡ c → eqb m (n + 1) ≡ eqb h 1
same_test m n c h e d = grind (arith, nat_tests)

module _ (side : Side) (homes : List ℕ) (frames fetch : ℕ) (requests : List ℕ) (plan : Plan) (f : 0 < fetch) (k : Keeps side homes frames fetch requests plan) where
  closes_back : closing (length homes) fetch (mirrored (length homes) fetch plan) ≡ plan.opening
  closes_back = picked_same (remains fetch (mirrored (length homes) fetch plan)) (among plan.opening) (length homes) (λ b l. test b)
      ∙ rising_picked (length homes) plan.opening (opening_rises side homes frames fetch requests plan f k)
    where
      test : (b : ℕ) → remains fetch (mirrored (length homes) fetch plan) b ≡ among plan.opening b
      test b =
          let T : ℕ = length plan.acts in
          let xs : List Exchange = plan.exchanges in
          let ys : List Exchange = reverse (map (reflected T fetch) xs) in
          let U : ℕ = length (reverse plan.acts) in
          let n : U + 0 ≡ T = omega (arith, length-reverse plan.acts) in
          let c = closes_with side homes frames fetch requests plan f k b in
          let d = landed_reflected fetch T xs k.all_land b U 0 n in
          let e = left_reflected fetch T xs k.all_land b U 0 n in
          let g = left_first xs b in
          let h = landed_first fetch f xs b in
          same_test (home (closing (length homes) fetch plan) b + landed fetch ys b U) (left ys b U) (left ys b U) (home plan.opening b) (omega arith) refl

  trades_back : reverse (map (reflected (length (reverse plan.acts)) fetch) (reverse (map (reflected (length plan.acts) fetch) plan.exchanges))) ≡ plan.exchanges
  trades_back =
      let T : ℕ = length plan.acts in
      let U : ℕ = length (reverse plan.acts) in
      let xs : List Exchange = plan.exchanges in
      let ys : List Exchange = reverse (map (reflected T fetch) xs) in
      let m = length_reflected T fetch xs in
      let n = length_reflected U fetch ys in
      ext_get_or none (reverse (map (reflected U fetch) ys)) xs (n ∙ m)
      (λ i l.
      let j : ℕ = length xs - 1 - i in
      let here : i < length xs = omega arith in
      let there : i + j + 1 ≡ length ys = omega arith in
      let again : j + i + 1 ≡ length xs = omega arith in
      at_reflected U fetch ys i j there
      ∙ (ap (λ (y : Exchange). reflected U fetch y) (at_reflected T fetch xs j i again)
      ∙ reflected_twice T U fetch (get_or xs i none) (k.all_land i here) (length-reverse plan.acts)))

pub mirror_twice : MirrorTwice
mirror_twice side homes frames fetch requests plan f k = λ i.
    record {
      opening = closes_back side homes frames fetch requests plan f k i;
      acts = reverse-reverse plan.acts i;
      exchanges = trades_back side homes frames fetch requests plan f k i;
    }

pub closing_content : ClosingContent
closing_content blocks fetch plan b l =
    let T : ℕ = length plan.acts in
    let m : ℕ = home plan.opening b + landed fetch plan.exchanges b T in
    let n : ℕ = left plan.exchanges b T in
    let e = home_picked (remains fetch plan) blocks b l in
    record {
      inside = λ r. e ∙ ap bit (eq-eqb m (n + 1) r);
      resident = λ h. eqb-true m (n + 1) (passes (eqb m (n + 1)) (sym e ∙ h));
    }
  where
    passes : (t : Bool) → bit t ≡ 1 → t ≡ true
    passes t h = grind arith

-- The exchanges of one boundary.
starting_reverse : (t : ℕ) (xs : List Exchange) → starting_at t (reverse xs) ≡ reverse (starting_at t xs)
unfolding starting_at
starting_reverse t [] = refl
starting_reverse t (x ∷ xs) =
    let e = starting_append t (reverse xs) (x ∷ []) in
    let f = starting_reverse t xs in
    let g = reverse-cons x (starting_at t xs) in
    rw (reverse-cons x xs) (grind (arith, nat_tests, append-nil (reverse (starting_at t xs))))

starts_across : (s fetch T t u : ℕ) → s + fetch ≤ T → t + (u + fetch) ≡ T → eqb (T - (s + fetch)) t ≡ eqb s u
starts_across s fetch T t u l e = grind (arith, nat_tests)

starting_reflected : (T fetch t u : ℕ) → t + (u + fetch) ≡ T → (xs : List Exchange) → ((j : ℕ) → j < length xs → (get_or xs j none).start + fetch ≤ T) →
    starting_at t (map (reflected T fetch) xs) ≡ map (reflected T fetch) (starting_at u xs)
unfolding starting_at
starting_reflected T fetch t u e [] h = refl
starting_reflected T fetch t u e (x ∷ xs) h =
    rw (starts_across x.start fetch T t u (h 0 (omega arith)) e, starting_reflected T fetch t u e xs (λ j l. h (suc j) (omega arith))) (grind (arith, nat_tests))

pub mirror_order : MirrorOrder
mirror_order side homes frames fetch requests plan k t u e =
    starting_reverse t (map (reflected (length plan.acts) fetch) plan.exchanges)
    ∙ ap (λ (ys : List Exchange). reverse ys) (starting_reflected (length plan.acts) fetch t u e plan.exchanges k.all_land)
