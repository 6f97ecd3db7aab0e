-- What a block does in time, in a plan that keeps the model: it is not brought in again before it has gone, and it
-- does not go before it has landed.
use Rattle.std.proofs.Common.{◌≡◌, ℕ, zero, suc, ◌+◌, ◌<◌, ◌≤◌, Bool, true, false, ◌&&◌, eqb, ltb, leb, List, [], ◌∷◌, ◌++◌, length, get_or, take, sym, refl, ap, subst, arith}
use Rattle.std.proofs.lemmas.List.{take_all, length-take-le, get_or-take}
use Rattle.std.proofs.lemmas.Bool.{eq-eqb, lt-ltb, le-ltb, and_right, and_from}
use Rattle.std.proofs.lemmas.Bool.Decides.{nat_tests}
use Rattle.std.proofs.Math.Seq.{take-suc}
use Rattle.model.specs.Timetable.{Exchange, none, Side, Plan, Keeps, Lawful, home, landed, brought, left, count, bit}
use Rattle.model.proofs.Counting.{count_push, count_same, count_le, count_tight}
use Rattle.model.proofs.Marks.{Started, early_before, in_of, out_of, early_some, early, early_grows}
use Rattle.model.proofs.Picked.{home_one}

-- a count of landings up to a boundary grows with the boundary
landed_rises : (fetch : ℕ) (xs : List Exchange) (b t u : ℕ) → t ≤ u → landed fetch xs b t ≤ landed fetch xs b u
landed_rises fetch xs b t u h = count_le (λ x. eqb x.brings b && leb (x.start + fetch) t) (λ x. eqb x.brings b && leb (x.start + fetch) u) (λ x. grind (arith, nat_tests)) xs

-- what goes at a boundary has landed at it; what comes at a boundary had gone before it
pub record Steady (fetch : ℕ) (o : List ℕ) (xs : List Exchange) (b t : ℕ) : Type 0 where
  pub goes_after : left xs b (t + 1) ≤ home o b + landed fetch xs b t
  pub comes_after : home o b + brought xs b (t + 1) ≤ left xs b t + 1

steady_push : (side : Side) (homes : List ℕ) (fetch : ℕ) (o : List ℕ) (xs : List Exchange) (x : Exchange) → Lawful side homes fetch o xs x → Started xs x.start →
    (b t : ℕ) → Steady fetch o xs b t → Steady fetch o (xs ++ (x ∷ [])) b t
steady_push side homes fetch o xs x law started b t h =
    record {
      goes_after = let a = lefts (t + 1) in let c = landeds in let d = h.goes_after in let e = sent in grind (arith, nat_tests);
      comes_after = let a = lefts t in let c = broughts (t + 1) in let d = h.comes_after in let e = taken in grind (arith, nat_tests);
    }
  where
    lefts : (u : ℕ) → left (xs ++ (x ∷ [])) b u ≡ left xs b u + bit (eqb x.sends b && ltb x.start u)
    lefts u = count_push (λ y. eqb y.sends b && ltb y.start u) xs x

    broughts : (u : ℕ) → brought (xs ++ (x ∷ [])) b u ≡ brought xs b u + bit (eqb x.brings b && ltb x.start u)
    broughts u = count_push (λ y. eqb y.brings b && ltb y.start u) xs x

    landeds : landed fetch (xs ++ (x ∷ [])) b t ≡ landed fetch xs b t + bit (eqb x.brings b && leb (x.start + fetch) t)
    landeds = count_push (λ y. eqb y.brings b && leb (y.start + fetch) t) xs x

    sent : x.sends ≡ b → x.start < t + 1 → left xs b (t + 1) + 1 ≤ home o b + landed fetch xs b t
    sent e l = subst (λ (c : ℕ). left xs c (t + 1) + 1 ≤ home o c + landed fetch xs c t) e
        (omega (arith, law.goes.resident, early_before out_of xs x.sends x.start started law.goes.kept, early_some out_of xs x.sends (t + 1), landed_rises fetch xs x.sends x.start t (omega arith)))

    taken : x.brings ≡ b → x.start < t + 1 → home o b + brought xs b (t + 1) ≤ left xs b t
    taken e l = subst (λ (c : ℕ). home o c + brought xs c (t + 1) ≤ left xs c t) e
        (omega (arith, law.comes, early_before in_of xs x.brings x.start started law.alone, early_some in_of xs x.brings (t + 1), early_grows out_of xs x.brings x.start t (omega arith)))

steady_none : (fetch : ℕ) (o : List ℕ) (b t : ℕ) → Steady fetch o [] b t
unfolding count
steady_none fetch o b t = record { goes_after = omega arith; comes_after = omega (arith, home_one o b) }

module _ (side : Side) (homes : List ℕ) (frames fetch : ℕ) (requests : List ℕ) (plan : Plan) (k : Keeps side homes frames fetch requests plan) (b t : ℕ) where
  steady_take : (i : ℕ) → i ≤ length plan.exchanges → Steady fetch plan.opening (take i plan.exchanges) b t
  steady_take zero l = steady_none fetch plan.opening b t
  steady_take (suc i) l =
      let xs : List Exchange = plan.exchanges in
      let e : take (suc i) xs ≡ take i xs ++ (get_or xs i none ∷ []) = take-suc xs i none l in
      subst (λ (ys : List Exchange). Steady fetch plan.opening ys b t) (sym e)
      (steady_push side homes fetch plan.opening (take i xs) (get_or xs i none) (k.lawful i l) (earlier i l) b t (steady_take i (omega arith)))
    where
      earlier : (i : ℕ) → i < length plan.exchanges → Started (take i plan.exchanges) (get_or plan.exchanges i none).start
      earlier i l j m =
          let n : j < i = omega (arith, length-take-le i plan.exchanges (omega arith)) in
          omega (arith, ap (λ (x : Exchange). x.start) (get_or-take i plan.exchanges j none n), k.in_order j i n l)

  pub steady : Steady fetch plan.opening plan.exchanges b t
  steady = subst (λ (ys : List Exchange). Steady fetch plan.opening ys b t) (take_all (length plan.exchanges) plan.exchanges (omega arith)) (steady_take (length plan.exchanges) (omega arith))

-- a test that passes where another fails, and wherever that one passes, counts more
count_more : (p q : Exchange → Bool) → ((x : Exchange) → bit (p x) ≤ bit (q x)) → (xs : List Exchange) (j : ℕ) → j < length xs → p (get_or xs j none) ≡ false → q (get_or xs j none) ≡ true →
    count p xs < count q xs
count_more p q h xs j l e f =
    let a = count_le p q h xs in
    let c = λ (i : count p xs ≡ count q xs). count_tight p q h xs i j l in
    grind arith

-- an exchange counts from just after its start
pub early_counts : (f : Exchange → ℕ) (xs : List Exchange) (j : ℕ) → j < length xs → early f xs (f (get_or xs j none)) (get_or xs j none).start < early f xs (f (get_or xs j none)) ((get_or xs j none).start + 1)
early_counts f xs j l =
    let b : ℕ = f (get_or xs j none) in let s : ℕ = (get_or xs j none).start in
    count_more (λ x. eqb (f x) b && ltb x.start s) (λ x. eqb (f x) b && ltb x.start (s + 1)) (λ x. grind (arith, nat_tests)) xs j l
    (and_right (eqb b b) (ltb s s) (le-ltb s s (omega arith))) (and_from (eqb b b) (ltb s (s + 1)) (eq-eqb b b refl) (lt-ltb s (s + 1) (omega arith)))

-- landed at a boundary is what started before, a fetch earlier
lands_as : (s fetch t u : ℕ) → u + 1 ≡ t + fetch → leb (s + fetch) u ≡ ltb s t
lands_as s fetch t u e = grind (arith, nat_tests)

pub landed_started : (fetch : ℕ) (xs : List Exchange) (b t u : ℕ) → u + 1 ≡ t + fetch → landed fetch xs b u ≡ brought xs b t
landed_started fetch xs b t u e = count_same (λ x. eqb x.brings b && leb (x.start + fetch) u) (λ x. eqb x.brings b && ltb x.start t) xs
    (λ j l. ap (λ (q : Bool). eqb (get_or xs j none).brings b && q) (lands_as (get_or xs j none).start fetch t u e))
