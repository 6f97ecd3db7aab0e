-- The commands of a mirror, one more at a time, from the plan read backwards; its opening content, off the marks of
-- the blocks at the last boundary; and how many exchanges have started, as a place in their list.
use Rattle.std.proofs.Common.{◌≡◌, ℕ, zero, suc, leb, ◌+◌, ◌-◌, ◌<◌, ◌≤◌, Bool, true, false, cond, ◌⊎◌, List, [], ◌∷◌, ◌++◌, map, reverse, length, get_or, take, sym, ap, ◌∙◌, inl, inr, add-one, arith}
use Rattle.std.proofs.lemmas.List.{append-nil, take_more, length-take-le, length-reverse, get_or-take}
use Rattle.std.proofs.lemmas.Bool.{eq-eqb, ne_eqb, le-leb, lt-leb, cases_lt}
use Rattle.model.specs.Layout.{started_by}
use Rattle.model.specs.Timetable.{Exchange, none, bit, count, Side, Act, Wait, Plan, Keeps, home, landed, left}
use Rattle.model.specs.PlanBytes.{Opens, Trades, Ends, act_command, so_far, plan_commands}
use Rattle.model.specs.Verdict.{Mark, Here, Away, is_here_at}
use Rattle.model.specs.Mirror.{picked, remains, closing, reflected, mirrored}
use Rattle.model.proofs.Counting.{count_none}
use Rattle.model.proofs.Marks.{MarkIs, goings}
use Rattle.model.proofs.Writing.{so_far_opens, so_far_trades, so_far_act, so_far_ends}
use Rattle.model.proofs.Picked.{picked_same}
use Rattle.model.proofs.Mirroring.{at_reverse, length_reflected, at_reflected, mirror_keeps}

-- one block more of the opening content, or none
pub opens_more : (p : ℕ → Bool) (n : ℕ) → so_far (picked p (n + 1)) [] [] ≡ so_far (picked p n) [] [] ++ cond (p n) (Opens n ∷ []) []
unfolding picked
opens_more p n = rw (add-one n) (go (p n))
  where
    go : (t : Bool) → so_far (picked p n ++ cond t (n ∷ []) []) [] [] ≡ so_far (picked p n) [] [] ++ cond t (Opens n ∷ []) []
    go true = so_far_opens (picked p n) n
    go false = ap (λ (o : List ℕ). so_far o [] []) (append-nil (picked p n)) ∙ sym (append-nil (so_far (picked p n) [] []))

module _ (fetch : ℕ) (plan : Plan) (o : List ℕ) where
  -- one exchange more, at the mirror image of its landing
  pub trade_more : (i j t : ℕ) → i + j + 1 ≡ length plan.exchanges → t + ((get_or plan.exchanges j none).start + fetch) ≡ length plan.acts →
      so_far o (take t (reverse plan.acts)) (take (i + 1) (reverse (map (reflected (length plan.acts) fetch) plan.exchanges)))
      ≡ so_far o (take t (reverse plan.acts)) (take i (reverse (map (reflected (length plan.acts) fetch) plan.exchanges))) ++ (Trades (get_or plan.exchanges j none).sends (get_or plan.exchanges j none).brings ∷ [])
  trade_more i j t e at =
      let T : ℕ = length plan.acts in
      let xs : List Exchange = plan.exchanges in
      let ys : List Exchange = reverse (map (reflected T fetch) xs) in
      let a : List Act = take t (reverse plan.acts) in
      let n = length_reflected T fetch xs in
      let x : Exchange = reflected T fetch (get_or xs j none) in
      let long : length a ≡ t = length-take-le t (reverse plan.acts) (omega (arith, length-reverse plan.acts)) in
      let more : take (i + 1) ys ≡ take i ys ++ (x ∷ []) = take_more ys i none (omega arith) ∙ ap (λ (y : Exchange). take i ys ++ (y ∷ [])) (at_reflected T fetch xs i j e) in
      ap (λ (zs : List Exchange). so_far o a zs) more ∙ so_far_trades o a (take i ys) x (omega arith)

  -- one step more, once what starts at its boundary is written
  pub act_more : (i t u : ℕ) → t + u + 1 ≡ length plan.acts → i ≤ length plan.exchanges →
      ((j : ℕ) → j < length plan.exchanges → length plan.exchanges ≤ i + j → length plan.acts ≤ t + ((get_or plan.exchanges j none).start + fetch)) →
      so_far o (take (t + 1) (reverse plan.acts)) (take i (reverse (map (reflected (length plan.acts) fetch) plan.exchanges)))
      ≡ so_far o (take t (reverse plan.acts)) (take i (reverse (map (reflected (length plan.acts) fetch) plan.exchanges))) ++ (act_command (get_or plan.acts u Wait) ∷ [])
  act_more i t u e most h =
      let T : ℕ = length plan.acts in
      let xs : List Exchange = plan.exchanges in
      let ys : List Exchange = reverse (map (reflected T fetch) xs) in
      let a : List Act = take t (reverse plan.acts) in
      let n = length_reflected T fetch xs in
      let m = length-reverse plan.acts in
      let long : length a ≡ t = length-take-le t (reverse plan.acts) (omega arith) in
      let more : take (t + 1) (reverse plan.acts) ≡ a ++ (get_or plan.acts u Wait ∷ []) =
      take_more (reverse plan.acts) t Wait (omega arith) ∙ ap (λ (act : Act). a ++ (act ∷ [])) (at_reverse plan.acts Wait t u e) in
      ap (λ (b : List Act). so_far o b (take i ys)) more
      ∙ so_far_act o a (take i ys) (get_or plan.acts u Wait)
      (λ k l.
      let c : k < i = omega (arith, length-take-le i ys (omega arith)) in
      let j : ℕ = length xs - 1 - k in
      let across : k + j + 1 ≡ length xs = omega arith in
      let same : get_or (take i ys) k none ≡ reflected T fetch (get_or xs j none) = get_or-take i ys k none c ∙ at_reflected T fetch xs k j across in
      let start : (get_or (take i ys) k none).start ≡ T - ((get_or xs j none).start + fetch) = ap (λ (y : Exchange). y.start) same in
      omega (arith, h j (omega arith) (omega arith)))

-- the end completes the mirror
pub mirror_ends : (side : Side) (homes : List ℕ) (frames fetch : ℕ) (requests : List ℕ) (plan : Plan) → 0 < fetch → Keeps side homes frames fetch requests plan →
    plan_commands (mirrored (length homes) fetch plan)
    ≡ so_far (closing (length homes) fetch plan) (reverse plan.acts) (reverse (map (reflected (length plan.acts) fetch) plan.exchanges)) ++ (Ends ∷ [])
mirror_ends side homes frames fetch requests plan f k =
    let m = mirror_keeps side homes frames fetch requests plan f k in
    so_far_ends (closing (length homes) fetch plan) (reverse plan.acts) (reverse (map (reflected (length plan.acts) fetch) plan.exchanges)) (λ j l. omega (arith, m.all_land j l))

-- At the last boundary, where nothing starts, a block is resident exactly if its mark says so.
pub here_remains : (fetch : ℕ) (plan : Plan) (b : ℕ) (m : Mark) → left plan.exchanges b (length plan.acts) ≡ goings plan.exchanges b →
    MarkIs fetch plan.opening plan.exchanges (length plan.acts) b m → is_here_at m (length plan.acts) ≡ remains fetch plan b
here_remains fetch plan b (Here l) e h = go (cases_lt (length plan.acts) l)
  where
    T : ℕ
    T = length plan.acts

    all : ℕ
    all = home plan.opening b + landed fetch plan.exchanges b T

    go : (length plan.acts < l) ⊎ (l ≤ length plan.acts) → is_here_at (Here l) (length plan.acts) ≡ remains fetch plan b
    go (inl i) = lt-leb l T i ∙ sym (ne_eqb all (left plan.exchanges b T + 1) (λ (n : all ≡ left plan.exchanges b T + 1). omega (arith, h.flies T (omega arith) i)))
    go (inr i) = le-leb l T i ∙ sym (eq-eqb all (left plan.exchanges b T + 1) (omega (arith, h.lands T (omega arith) i, h.one)))
here_remains fetch plan b (Away g) e h = sym (ne_eqb (home plan.opening b + landed fetch plan.exchanges b T) (left plan.exchanges b T + 1) apart)
  where
    T : ℕ
    T = length plan.acts

    apart : home plan.opening b + landed fetch plan.exchanges b T ≡ left plan.exchanges b T + 1 → ⊥
    apart n = omega (arith, h.down T (omega arith), h.out)

-- so the closing content is read off the marks
pub closing_marks : (blocks fetch : ℕ) (plan : Plan) (marks : List Mark) → ((b : ℕ) → left plan.exchanges b (length plan.acts) ≡ goings plan.exchanges b) →
    ((b : ℕ) → b < blocks → MarkIs fetch plan.opening plan.exchanges (length plan.acts) b (get_or marks b (Away 0))) →
    picked (λ b. is_here_at (get_or marks b (Away 0)) (length plan.acts)) blocks ≡ closing blocks fetch plan
closing_marks blocks fetch plan marks e h = picked_same (λ b. is_here_at (get_or marks b (Away 0)) (length plan.acts)) (remains fetch plan) blocks (λ b l. here_remains fetch plan b (get_or marks b (Away 0)) (e b) (h b l))

-- The number of exchanges started by a boundary, as a place in a list: those before it start by then, those from it
-- on later.
pub started_by_lem : (xs : List Exchange) (t j : ℕ) → j ≤ length xs → ((k : ℕ) → k < j → (get_or xs k none).start ≤ t) → ((k : ℕ) → j ≤ k → k < length xs → t < (get_or xs k none).start) → started_by xs t ≡ j
unfolding count
started_by_lem [] t j m f g = omega arith
started_by_lem (x ∷ xs) t zero m f g =
    count_none (λ y. leb y.start t) (x ∷ xs) (λ k l. lt-leb (get_or (x ∷ xs) k none).start t (g k (omega arith) l))
started_by_lem (x ∷ xs) t (suc j) m f g =
    let e : bit (leb x.start t) ≡ 1 = ap bit (le-leb x.start t (f 0 (omega arith))) in
    let h = started_by_lem xs t j (omega arith) (λ k l. f (suc k) (omega arith)) (λ k i l. g (suc k) (omega arith) (omega arith)) in
    omega arith
