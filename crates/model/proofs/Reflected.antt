-- What the mirror of a plan counts, beside what the plan counts.
use Rattle.std.proofs.Common.{◌≡◌, ℕ, suc, ◌+◌, ◌-◌, ◌<◌, ◌≤◌, Bool, true, false, ◌&&◌, eqb, ltb, leb, ◌⊎◌, List, [], ◌∷◌, map, reverse, length, get_or, refl, ap, ◌∙◌, inl, inr, arith}
use Rattle.std.proofs.lemmas.Bool.{ne_eqb, cases_lt}
use Rattle.std.proofs.lemmas.Bool.Decides.{nat_tests}
use Rattle.model.specs.Timetable.{Exchange, none, Side, Plan, Keeps, KeepsPlainly, home, landed, brought, left, count, bit}
use Rattle.model.specs.Mirror.{remains, closing, reflected}
use Rattle.model.proofs.Counting.{count_same, count_none, count_split, same_reversed, count_append}
use Rattle.model.proofs.Marks.{comings, goings, landed_brought, early_grows, in_of, out_of, early_before}
use Rattle.model.proofs.Plainly.{plain_reading}
use Rattle.model.proofs.Places.{Chained, chained}
use Rattle.model.proofs.Picked.{Rising, rising_from, picked_rises, home_picked, home_picked_past, home_above, sum_below, sum_same, sum_both, sum_none, sum_one, length_rising}
use Rattle.model.proofs.Steady.{Steady, steady, early_counts, landed_started}

-- Counting over a list of images.
count_map : (p : Exchange → Bool) (g : Exchange → Exchange) (xs : List Exchange) → count p (map g xs) ≡ count (λ x. p (g x)) xs
unfolding count
count_map p g [] = refl
count_map p g (x ∷ xs) = ap (λ n. bit (p (g x)) + n) (count_map p g xs)

-- one of two tests, under a third
split_bit : (a p q : Bool) → bit p + bit q ≡ 1 → bit (a && p) + bit (a && q) ≡ bit a
split_bit true p q e = e
split_bit false p q e = refl

-- An exchange that starts at s and lands by the last boundary T, and its mirror, before and after a boundary.
start_or_landed : (s fetch T t u : ℕ) → s + fetch ≤ T → t + u ≡ T → bit (ltb (T - (s + fetch)) t) + bit (leb (s + fetch) u) ≡ 1
start_or_landed s fetch T t u l e = grind (arith, nat_tests)

landed_or_start : (s fetch T t u : ℕ) → s + fetch ≤ T → t + u ≡ T → bit (leb (T - (s + fetch) + fetch) t) + bit (ltb s u) ≡ 1
landed_or_start s fetch T t u l e = grind (arith, nat_tests)

start_or_start : (s fetch T t u : ℕ) → s + fetch ≤ T → t + (u + fetch) ≡ T → bit (ltb (T - (s + fetch)) t) + bit (ltb s (u + 1)) ≡ 1
start_or_start s fetch T t u l e = grind (arith, nat_tests)

-- Exchanges that all land by boundary T, and their mirrors.
module _ (fetch T : ℕ) (xs : List Exchange) (lands : (j : ℕ) → j < length xs → (get_or xs j none).start + fetch ≤ T) (b : ℕ) where
  turns : (p : Exchange → Bool) → count p (reverse (map (reflected T fetch) xs)) ≡ count (λ x. p (reflected T fetch x)) xs
  turns p = same_reversed (λ ys. count p ys) (count_append p) (map (reflected T fetch) xs) ∙ count_map p (reflected T fetch) xs

  pub left_reflected : (t u : ℕ) → t + u ≡ T → left (reverse (map (reflected T fetch) xs)) b t + landed fetch xs b u ≡ comings xs b
  left_reflected t u e =
      let f = turns (λ x. eqb x.sends b && ltb x.start t) in
      let g = count_split (λ x. eqb x.brings b && ltb (T - (x.start + fetch)) t) (λ x. eqb x.brings b && leb (x.start + fetch) u) (λ x. eqb x.brings b) xs
      (λ j l. split_bit (eqb (get_or xs j none).brings b) (ltb (T - ((get_or xs j none).start + fetch)) t) (leb ((get_or xs j none).start + fetch) u) (start_or_landed (get_or xs j none).start fetch T t u (lands j l) e)) in
      omega arith

  pub landed_reflected : (t u : ℕ) → t + u ≡ T → landed fetch (reverse (map (reflected T fetch) xs)) b t + left xs b u ≡ goings xs b
  landed_reflected t u e =
      let f = turns (λ x. eqb x.brings b && leb (x.start + fetch) t) in
      let g = count_split (λ x. eqb x.sends b && leb (T - (x.start + fetch) + fetch) t) (λ x. eqb x.sends b && ltb x.start u) (λ x. eqb x.sends b) xs
      (λ j l. split_bit (eqb (get_or xs j none).sends b) (leb (T - ((get_or xs j none).start + fetch) + fetch) t) (ltb (get_or xs j none).start u) (landed_or_start (get_or xs j none).start fetch T t u (lands j l) e)) in
      omega arith

  pub brought_reflected : (t u : ℕ) → t + (u + fetch) ≡ T → brought (reverse (map (reflected T fetch) xs)) b t + left xs b (u + 1) ≡ goings xs b
  brought_reflected t u e =
      let f = turns (λ x. eqb x.brings b && ltb x.start t) in
      let g = count_split (λ x. eqb x.sends b && ltb (T - (x.start + fetch)) t) (λ x. eqb x.sends b && ltb x.start (u + 1)) (λ x. eqb x.sends b) xs
      (λ j l. split_bit (eqb (get_or xs j none).sends b) (ltb (T - ((get_or xs j none).start + fetch)) t) (ltb (get_or xs j none).start (u + 1)) (start_or_start (get_or xs j none).start fetch T t u (lands j l) e)) in
      omega arith

-- over all blocks each exchange counts once
pub sum_count : (g : Exchange → ℕ) (xs : List Exchange) (n : ℕ) → ((j : ℕ) → j < length xs → g (get_or xs j none) < n) → sum_below (λ b. count (λ x. eqb (g x) b) xs) n ≡ length xs
unfolding count
sum_count g [] n h = sum_none n
sum_count g (x ∷ xs) n h =
    let e : sum_below (λ b. bit (eqb (g x) b)) n ≡ 1 = sum_one (g x) n (h 0 (omega arith)) in
    let i = sum_count g xs n (λ j l. h (suc j) (omega arith)) in
    let d = sum_both (λ b. bit (eqb (g x) b)) (λ b. count (λ y. eqb (g y) b) xs) n in
    omega arith

-- In a plan that keeps the model.
module _ (side : Side) (homes : List ℕ) (frames fetch : ℕ) (requests : List ℕ) (plan : Plan) (f : 0 < fetch) (k : Keeps side homes frames fetch requests plan) where
  plainly : KeepsPlainly side homes frames fetch requests plan
  plainly = (plain_reading side homes frames fetch requests plan f).0 k

  steadily : (b t : ℕ) → Steady fetch plan.opening plan.exchanges b t
  steadily b t = steady side homes frames fetch requests plan k b t

  -- a block sent out has not been brought in again when the exchange lands
  pub gone_until : (j : ℕ) → j < length plan.exchanges →
      home plan.opening (get_or plan.exchanges j none).sends + landed fetch plan.exchanges (get_or plan.exchanges j none).sends ((get_or plan.exchanges j none).start + fetch)
      ≡ left plan.exchanges (get_or plan.exchanges j none).sends ((get_or plan.exchanges j none).start + 1)
  gone_until j l =
      let xs : List Exchange = plan.exchanges in
      let b : ℕ = (get_or xs j none).sends in
      let s : ℕ = (get_or xs j none).start in
      omega (arith, plainly.goes j l, early_counts out_of xs j l, (steadily b s).goes_after, (steadily b s).comes_after, landed_started fetch xs b (s + 1) (s + fetch) (omega arith), landed_brought fetch f xs b s, early_grows in_of xs b s (s + 1) (omega arith))

  -- a block brought in has not been sent out when the exchange lands
  pub here_when : (j : ℕ) → j < length plan.exchanges →
      home plan.opening (get_or plan.exchanges j none).brings + landed fetch plan.exchanges (get_or plan.exchanges j none).brings ((get_or plan.exchanges j none).start + fetch)
      ≡ left plan.exchanges (get_or plan.exchanges j none).brings ((get_or plan.exchanges j none).start + fetch) + 1
  here_when j l =
      let xs : List Exchange = plan.exchanges in
      let b : ℕ = (get_or xs j none).brings in
      let s : ℕ = (get_or xs j none).start in
      let u : ℕ = s + fetch - 1 in
      let up : u + 1 ≡ s + fetch = omega arith in
      let same : left xs b (u + 1) ≡ left xs b (s + fetch) = ap (λ (t : ℕ). left xs b t) up in
      omega (arith, same, plainly.comes j l, early_counts in_of xs j l, (steadily b s).comes_after, (steadily b u).goes_after, landed_started fetch xs b s u up, landed_started fetch xs b (s + 1) (s + fetch) (omega arith), early_grows out_of xs b s (s + fetch) (omega arith))

  -- all have landed, and all have gone, by the last boundary
  landed_last : (b : ℕ) → landed fetch plan.exchanges b (length plan.acts) ≡ comings plan.exchanges b
  landed_last b = count_same (λ x. eqb x.brings b && leb (x.start + fetch) (length plan.acts)) (λ x. eqb x.brings b) plan.exchanges (λ j l. let m = k.all_land j l in grind (arith, nat_tests))

  left_last : (b : ℕ) → left plan.exchanges b (length plan.acts) ≡ goings plan.exchanges b
  left_last b = early_before out_of plan.exchanges b (length plan.acts) (λ j l. omega (arith, k.all_land j l)) (λ j l e g. omega (arith, k.all_land j l))

  pub opening_rises : Rising 0 (length homes) plan.opening
  opening_rises = rising_from 0 (length homes) plan.opening (omega arith) (λ i l. omega arith) k.exist k.rise

  -- what a block's comings and goings leave of it is in the closing content
  pub closes_with : (b : ℕ) → home plan.opening b + comings plan.exchanges b ≡ goings plan.exchanges b + home (closing (length homes) fetch plan) b
  closes_with b = go (cases_lt b (length homes))
    where
      T : ℕ
      T = length plan.acts

      c : Chained fetch plan.opening plan.exchanges b T
      c = chained side homes frames fetch requests plan k b T

      left_over : (m n : ℕ) → n ≤ m → m ≤ n + 1 → m ≡ n + bit (eqb m (n + 1))
      left_over m n i j = grind (arith, nat_tests)

      go : (b < length homes) ⊎ (length homes ≤ b) → home plan.opening b + comings plan.exchanges b ≡ goings plan.exchanges b + home (closing (length homes) fetch plan) b
      go (inl l) =
          let e = home_picked (remains fetch plan) (length homes) b l in
          let i = left_over (home plan.opening b + landed fetch plan.exchanges b T) (left plan.exchanges b T) c.low (omega (arith, c.high, landed_brought fetch f plan.exchanges b T)) in
          omega (arith, landed_last b, left_last b)
      go (inr l) =
          let e = home_picked_past (remains fetch plan) (length homes) b l in
          let h = home_above 0 (length homes) plan.opening opening_rises b l in
          let i : comings plan.exchanges b ≡ 0 = count_none (λ x. eqb x.brings b) plan.exchanges (λ j m. ne_eqb (get_or plan.exchanges j none).brings b (λ (e : (get_or plan.exchanges j none).brings ≡ b). omega (arith, plainly.knows_in j m))) in
          let o : goings plan.exchanges b ≡ 0 = count_none (λ x. eqb x.sends b) plan.exchanges (λ j m. ne_eqb (get_or plan.exchanges j none).sends b (λ (e : (get_or plan.exchanges j none).sends ≡ b). omega (arith, plainly.knows_out j m))) in
          omega arith

  -- the closing content fills the frames
  pub closing_fills : length (closing (length homes) fetch plan) ≡ frames
  closing_fills =
      let n : ℕ = length homes in
      let xs : List Exchange = plan.exchanges in
      let o : List ℕ = plan.opening in
      let h : List ℕ = closing n fetch plan in
      let a = length_rising n o opening_rises in
      let c = length_rising n h (picked_rises (remains fetch plan) n) in
      let d = sum_count (λ x. x.brings) xs n plainly.knows_in in
      let e = sum_count (λ x. x.sends) xs n plainly.knows_out in
      let i = sum_both (λ b. home o b) (λ b. comings xs b) n in
      let j = sum_both (λ b. goings xs b) (λ b. home h b) n in
      let m = sum_same (λ b. home o b + comings xs b) (λ b. goings xs b + home h b) n (λ b l. closes_with b) in
      omega (arith, k.fills)
