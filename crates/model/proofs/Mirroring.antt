-- The mirror of a plan that keeps the model keeps it on the opposite side, for the requests reversed.
use Rattle.std.proofs.Common.{◌≡◌, ℕ, ◌+◌, ◌-◌, ◌<◌, ◌≤◌, List, [], ◌∷◌, ◌++◌, map, reverse, length, get_or, take, drop, sym, refl, ap, ◌∙◌, subst, arith}
use Rattle.std.proofs.lemmas.List.{get_or-reverse, get_or-map, length-map, length-reverse, length-drop, reverse-append, take-append-drop, take_at, take_more}
use Rattle.model.specs.Timetable.{Exchange, none, Side, Forward, Backward, opposite, Act, Serve, Wait, Plan, Keeps, KeepsPlainly, Resident, Absent, ResidentDuring, occupies, served, waited, wanted}
use Rattle.model.specs.Mirror.{remains, closing, reflected, mirrored}
use Rattle.model.specs.MirrorLaws.{MirrorKeeps, MirrorAlike}
use Rattle.model.proofs.Counting.{served_append, same_reversed, waited_append}
use Rattle.model.proofs.Plainly.{plain_reading}
use Rattle.model.proofs.Picked.{picked_rises, rising_each, rising_pairs}
use Rattle.model.proofs.Reflected.{left_reflected, landed_reflected, brought_reflected, gone_until, here_when, closes_with, closing_fills}

-- a list read backwards
pub at_reverse : {X : Type 0} (xs : List X) (d : X) (i j : ℕ) → i + j + 1 ≡ length xs → get_or (reverse xs) i d ≡ get_or xs j d
at_reverse xs d i j e = get_or-reverse xs i d (omega arith) ∙ ap (λ (n : ℕ). get_or xs n d) at
  where
    at : length xs - 1 - i ≡ j
    at = omega arith

-- a step that serves: the requests served before it, and in the mirror before its mirror, are all but its own
served_across : (acts : List Act) (i t : ℕ) → i + t + 1 ≡ length acts → get_or acts t Wait ≡ Serve → served (take i (reverse acts)) + served (take t acts) + 1 ≡ served acts
unfolding served
served_across acts i t e s =
    let joins : take (t + 1) acts ++ drop (t + 1) acts ≡ acts = take-append-drop (t + 1) acts in
    let turns : reverse acts ≡ reverse (drop (t + 1) acts) ++ reverse (take (t + 1) acts) = ap (λ (ps : List Act). reverse ps) (sym joins) ∙ reverse-append (take (t + 1) acts) (drop (t + 1) acts) in
    let long : length (reverse (drop (t + 1) acts)) ≡ i = omega (arith, length-reverse (drop (t + 1) acts), length-drop (t + 1) acts) in
    let front : take i (reverse acts) ≡ reverse (drop (t + 1) acts) = ap (λ (ps : List Act). take i ps) turns ∙ take_at (reverse (drop (t + 1) acts)) (reverse (take (t + 1) acts)) i long in
    let a : served (take i (reverse acts)) ≡ served (reverse (drop (t + 1) acts)) = ap (λ (ps : List Act). served ps) front in
    let b = same_reversed served served_append (drop (t + 1) acts) in
    let c : served (take (t + 1) acts ++ drop (t + 1) acts) ≡ served acts = ap (λ (ps : List Act). served ps) joins in
    let d = served_append (take (t + 1) acts) (drop (t + 1) acts) in
    let g : served (take (t + 1) acts) ≡ served (take t acts ++ (get_or acts t Wait ∷ [])) = ap (λ (ps : List Act). served ps) (take_more acts t Wait (omega arith)) in
    let h = served_append (take t acts) (get_or acts t Wait ∷ []) in
    let one : served (get_or acts t Wait ∷ []) ≡ 1 = ap (λ (act : Act). served (act ∷ [])) s in
    omega arith

-- the exchanges of a mirror, each and in pairs
module _ (T fetch : ℕ) (xs : List Exchange) where
  pub length_reflected : length (reverse (map (reflected T fetch) xs)) ≡ length xs
  length_reflected = length-reverse (map (reflected T fetch) xs) ∙ length-map xs (reflected T fetch)

  pub at_reflected : (i j : ℕ) → i + j + 1 ≡ length xs → get_or (reverse (map (reflected T fetch) xs)) i none ≡ reflected T fetch (get_or xs j none)
  at_reflected i j e =
      let n = length-map xs (reflected T fetch) in
      at_reverse (map (reflected T fetch) xs) none i j (omega arith) ∙ get_or-map (reflected T fetch) xs j none none (omega arith)

  reflected_each : (P : Exchange → Type 0) → ((j : ℕ) → j < length xs → P (reflected T fetch (get_or xs j none))) →
      (i : ℕ) → i < length (reverse (map (reflected T fetch) xs)) → P (get_or (reverse (map (reflected T fetch) xs)) i none)
  reflected_each P h i l =
      let n = length_reflected in
      subst P (sym (at_reflected i (length xs - 1 - i) (omega arith))) (h (length xs - 1 - i) (omega arith))

  reflected_pairs : (P : Exchange → Exchange → Type 0) → ((i j : ℕ) → i < j → j < length xs → P (reflected T fetch (get_or xs j none)) (reflected T fetch (get_or xs i none))) →
      (i j : ℕ) → i < j → j < length (reverse (map (reflected T fetch) xs)) → P (get_or (reverse (map (reflected T fetch) xs)) i none) (get_or (reverse (map (reflected T fetch) xs)) j none)
  reflected_pairs P h i j m l =
      let n = length_reflected in
      let e = sym (at_reflected i (length xs - 1 - i) (omega arith)) in
      let f = sym (at_reflected j (length xs - 1 - j) (omega arith)) in
      subst (λ (y : Exchange). P y (get_or (reverse (map (reflected T fetch) xs)) j none)) e
      (subst (λ (z : Exchange). P (reflected T fetch (get_or xs (length xs - 1 - i) none)) z) f (h (length xs - 1 - j) (length xs - 1 - i) (omega arith) (omega arith)))

occupies_reflected : (side : Side) (homes : List ℕ) (T fetch : ℕ) (x : Exchange) → occupies (opposite side) homes (reflected T fetch x) ≡ occupies side homes x
occupies_reflected Forward homes T fetch x = refl
occupies_reflected Backward homes T fetch x = refl

module _ (side : Side) (homes : List ℕ) (frames fetch : ℕ) (requests : List ℕ) (plan : Plan) (f : 0 < fetch) (k : Keeps side homes frames fetch requests plan) where
  plainly : KeepsPlainly side homes frames fetch requests plan
  plainly = (plain_reading side homes frames fetch requests plan f).0 k

  -- the steps of the mirror find their blocks resident
  serves_reflected : (i : ℕ) → i < length (reverse plan.acts) → get_or (reverse plan.acts) i Wait ≡ Serve →
      ResidentDuring fetch (closing (length homes) fetch plan) (reverse (map (reflected (length plan.acts) fetch) plan.exchanges)) (wanted (reverse requests) (reverse plan.acts) i) i
  serves_reflected i l s =
      let T : ℕ = length plan.acts in
      let xs : List Exchange = plan.exchanges in
      let ys : List Exchange = reverse (map (reflected T fetch) xs) in
      let n = length-reverse plan.acts in
      let t : ℕ = T - 1 - i in
      let across : i + t + 1 ≡ T = omega arith in
      let serve : get_or plan.acts t Wait ≡ Serve = sym (at_reverse plan.acts Wait i t across) ∙ s in
      let b : ℕ = wanted requests plan.acts t in
      let same : wanted (reverse requests) (reverse plan.acts) i ≡ b =
      at_reverse requests 0 (served (take i (reverse plan.acts))) (served (take t plan.acts)) (served_across plan.acts i t across serve ∙ k.all_served) in
      subst (λ (c : ℕ). ResidentDuring fetch (closing (length homes) fetch plan) ys c i) (sym same)
      (omega (arith, k.serves t (omega arith) serve, closes_with side homes frames fetch requests plan f k b, landed_reflected fetch T xs k.all_land b i (t + 1) (omega arith), left_reflected fetch T xs k.all_land b (i + 1) t (omega arith)))

  -- the exchanges of the mirror find their blocks absent and resident
  comes_reflected : (j : ℕ) → j < length plan.exchanges →
      Absent (closing (length homes) fetch plan) (reverse (map (reflected (length plan.acts) fetch) plan.exchanges)) (get_or plan.exchanges j none).sends (length plan.acts - ((get_or plan.exchanges j none).start + fetch))
  comes_reflected j l =
      let T : ℕ = length plan.acts in
      let xs : List Exchange = plan.exchanges in
      let b : ℕ = (get_or xs j none).sends in
      let s : ℕ = (get_or xs j none).start in
      let lands = k.all_land j l in
      let t : ℕ = T - (s + fetch) in
      let across : t + (s + fetch) ≡ T = omega arith in
      omega (arith, gone_until side homes frames fetch requests plan f k j l, closes_with side homes frames fetch requests plan f k b, brought_reflected fetch T xs k.all_land b t s across, left_reflected fetch T xs k.all_land b t (s + fetch) across)

  goes_reflected : (j : ℕ) → j < length plan.exchanges →
      Resident fetch (closing (length homes) fetch plan) (reverse (map (reflected (length plan.acts) fetch) plan.exchanges)) (get_or plan.exchanges j none).brings (length plan.acts - ((get_or plan.exchanges j none).start + fetch))
  goes_reflected j l =
      let T : ℕ = length plan.acts in
      let xs : List Exchange = plan.exchanges in
      let b : ℕ = (get_or xs j none).brings in
      let s : ℕ = (get_or xs j none).start in
      let lands = k.all_land j l in
      let t : ℕ = T - (s + fetch) in
      let across : t + (s + fetch) ≡ T = omega arith in
      omega (arith, here_when side homes frames fetch requests plan f k j l, closes_with side homes frames fetch requests plan f k b, landed_reflected fetch T xs k.all_land b t (s + fetch) across, left_reflected fetch T xs k.all_land b t (s + fetch) across)

  mirror_plainly : KeepsPlainly (opposite side) homes frames fetch (reverse requests) (mirrored (length homes) fetch plan)
  mirror_plainly =
      let T : ℕ = length plan.acts in
      let xs : List Exchange = plan.exchanges in
      let o : List ℕ = closing (length homes) fetch plan in
      record {
        fills = closing_fills side homes frames fetch requests plan f k;
        exist = λ i l. (rising_each 0 (length homes) o (picked_rises (remains fetch plan) (length homes)) i l).1;
        rise = rising_pairs 0 (length homes) o (picked_rises (remains fetch plan) (length homes));
        in_order = reflected_pairs T fetch xs (λ y z. y.start ≤ z.start) (λ i j m l. omega (arith, k.in_order i j m l));
        knows_in = reflected_each T fetch xs (λ y. y.brings < length homes) plainly.knows_out;
        knows_out = reflected_each T fetch xs (λ y. y.sends < length homes) plainly.knows_in;
        comes = reflected_each T fetch xs (λ y. Absent o (reverse (map (reflected T fetch) xs)) y.brings y.start) comes_reflected;
        goes = reflected_each T fetch xs (λ y. Resident fetch o (reverse (map (reflected T fetch) xs)) y.sends y.start) goes_reflected;
        ins_differ = reflected_pairs T fetch xs (λ y z. y.start ≡ z.start → y.brings ≡ z.brings → ⊥)
            (λ i j m l e g. plainly.outs_differ i j m l (omega (arith, k.all_land i (omega arith), k.all_land j l)) (sym g));
        outs_differ = reflected_pairs T fetch xs (λ y z. y.start ≡ z.start → y.sends ≡ z.sends → ⊥)
            (λ i j m l e g. plainly.ins_differ i j m l (omega (arith, k.all_land i (omega arith), k.all_land j l)) (sym g));
        apart = reflected_pairs T fetch xs (λ y z. occupies (opposite side) homes y ≡ occupies (opposite side) homes z → y.start + fetch ≤ z.start)
            (λ i j m l e. let d = plainly.apart i j m l (sym (occupies_reflected side homes T fetch (get_or xs i none)) ∙ (sym e ∙ occupies_reflected side homes T fetch (get_or xs j none))) in
            omega (arith, k.all_land i (omega arith), k.all_land j l));
        serves = serves_reflected;
        all_served = same_reversed served served_append plan.acts ∙ (k.all_served ∙ sym (length-reverse requests));
        all_land = reflected_each T fetch xs (λ y. y.start + fetch ≤ length (reverse plan.acts)) (λ j l. omega (arith, k.all_land j l, length-reverse plan.acts));
      }

pub mirror_keeps : MirrorKeeps
mirror_keeps side homes frames fetch requests plan f k =
    (plain_reading (opposite side) homes frames fetch (reverse requests) (mirrored (length homes) fetch plan) f).1 (mirror_plainly side homes frames fetch requests plan f k)

pub mirror_alike : MirrorAlike
mirror_alike blocks fetch plan =
    record { steps = length-reverse plan.acts; waits = same_reversed waited waited_append plan.acts; trades = length_reflected (length plan.acts) fetch plan.exchanges }
