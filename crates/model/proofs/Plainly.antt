-- Counts over the exchanges listed before one, and over the whole plan, agree at its boundary.
use Rattle.std.proofs.Common.{◌≡◌, ℕ, ◌+◌, ◌<◌, ◌≤◌, Bool, false, ◌&&◌, eqb, ltb, leb, List, ◌++◌, length, get_or, take, drop, sym, ap, subst, arith}
use Rattle.std.proofs.lemmas.List.{take-append-drop, length-take-le, get_or-take, get_or-drop, length-drop}
use Rattle.std.proofs.lemmas.Bool.{lt-leb, le-ltb, cases_eq, and_right}
use Rattle.model.specs.Timetable.{Exchange, none, Keeps, KeepsPlainly, landed, count, occupies}
use Rattle.model.specs.Statements.{PlainReading}
use Rattle.model.proofs.Counting.{count_append, count_none}
use Rattle.model.proofs.Gather.{Ordered}
use Rattle.model.proofs.Marks.{in_of, out_of, early}

-- a test that no later exchange passes counts the same over the front
count_front : (p : Exchange → Bool) (xs : List Exchange) (i : ℕ) → ((j : ℕ) → i ≤ j → j < length xs → p (get_or xs j none) ≡ false) → count p (take i xs) ≡ count p xs
count_front p xs i h =
    let e : count p (take i xs ++ drop i xs) ≡ count p xs = ap (λ (ys : List Exchange). count p ys) (take-append-drop i xs) in
    let f = count_append p (take i xs) (drop i xs) in
    let g = count_none p (drop i xs) (λ j l. subst (λ (x : Exchange). p x ≡ false) (sym (get_or-drop i xs j none)) (h (i + j) (omega arith) (omega (arith, length-drop i xs)))) in
    omega arith

module _ (xs : List Exchange) (ordered : Ordered xs) (i : ℕ) (l : i < length xs) where
  from_here : (j : ℕ) → i ≤ j → j < length xs → (get_or xs i none).start ≤ (get_or xs j none).start
  from_here j h k = let m = ordered i j in grind (arith, cases_eq i j)

  pub early_front : (f : Exchange → ℕ) (b : ℕ) → early f (take i xs) b (get_or xs i none).start ≡ early f xs b (get_or xs i none).start
  early_front f b = count_front (λ x. eqb (f x) b && ltb x.start (get_or xs i none).start) xs i
      (λ j h k. and_right (eqb (f (get_or xs j none)) b) (ltb (get_or xs j none).start (get_or xs i none).start) (le-ltb (get_or xs j none).start (get_or xs i none).start (from_here j h k)))

  pub landed_front : (fetch : ℕ) → 0 < fetch → (b : ℕ) → landed fetch (take i xs) b (get_or xs i none).start ≡ landed fetch xs b (get_or xs i none).start
  landed_front fetch f b = count_front (λ x. eqb x.brings b && leb (x.start + fetch) (get_or xs i none).start) xs i
      (λ j h k. and_right (eqb (get_or xs j none).brings b) (leb ((get_or xs j none).start + fetch) (get_or xs i none).start) (lt-leb ((get_or xs j none).start + fetch) (get_or xs i none).start (omega (arith, from_here j h k))))

  -- what holds of each pair with an earlier one, over the front and over the whole list
  pub front_each : (P : Exchange → Type 0) → ((j : ℕ) → j < length (take i xs) → P (get_or (take i xs) j none)) → (j : ℕ) → j < i → P (get_or xs j none)
  front_each P h j k = subst P (get_or-take i xs j none k) (h j (omega (arith, length-take-le i xs (omega arith))))

  pub each_front_of : (P : Exchange → Type 0) → ((j : ℕ) → j < i → P (get_or xs j none)) → (j : ℕ) → j < length (take i xs) → P (get_or (take i xs) j none)
  each_front_of P h j k = let m : j < i = omega (arith, length-take-le i xs (omega arith)) in subst P (sym (get_or-take i xs j none m)) (h j m)

pub plain_reading : PlainReading
plain_reading side homes frames fetch requests plan f = (there, back)
  where
    xs : List Exchange
    xs = plan.exchanges

    x : ℕ → Exchange
    x i = get_or plan.exchanges i none

    there : Keeps side homes frames fetch requests plan → KeepsPlainly side homes frames fetch requests plan
    there k =
        record {
          fills = k.fills;
          exist = k.exist;
          rise = k.rise;
          in_order = k.in_order;
          knows_in = λ i l. (k.lawful i l).knows_in;
          knows_out = λ i l. (k.lawful i l).knows_out;
          comes = λ i l. omega (arith, (k.lawful i l).comes, early_front xs k.in_order i l in_of (x i).brings, early_front xs k.in_order i l out_of (x i).brings);
          goes = λ i l. omega (arith, (k.lawful i l).goes.resident, landed_front xs k.in_order i l fetch f (x i).sends, early_front xs k.in_order i l out_of (x i).sends);
          ins_differ = λ i j m l. front_each xs k.in_order j l (λ y. y.start ≡ (x j).start → y.brings ≡ (x j).brings → ⊥) (k.lawful j l).alone i m;
          outs_differ = λ i j m l. front_each xs k.in_order j l (λ y. y.start ≡ (x j).start → y.sends ≡ (x j).sends → ⊥) (k.lawful j l).goes.kept i m;
          apart = λ i j m l. front_each xs k.in_order j l (λ y. occupies side homes y ≡ occupies side homes (x j) → y.start + fetch ≤ (x j).start) (k.lawful j l).disk_free i m;
          serves = k.serves;
          all_served = k.all_served;
          all_land = k.all_land;
        }

    back : KeepsPlainly side homes frames fetch requests plan → Keeps side homes frames fetch requests plan
    back k =
        record {
          fills = k.fills;
          exist = k.exist;
          rise = k.rise;
          in_order = k.in_order;
          lawful = λ j l. record {
            knows_in = k.knows_in j l;
            knows_out = k.knows_out j l;
            comes = omega (arith, k.comes j l, early_front xs k.in_order j l in_of (x j).brings, early_front xs k.in_order j l out_of (x j).brings);
            alone = each_front_of xs k.in_order j l (λ y. y.start ≡ (x j).start → y.brings ≡ (x j).brings → ⊥) (λ i m. k.ins_differ i j m l);
            goes = record {
              resident = omega (arith, k.goes j l, landed_front xs k.in_order j l fetch f (x j).sends, early_front xs k.in_order j l out_of (x j).sends);
              kept = each_front_of xs k.in_order j l (λ y. y.start ≡ (x j).start → y.sends ≡ (x j).sends → ⊥) (λ i m. k.outs_differ i j m l);
            };
            disk_free = each_front_of xs k.in_order j l (λ y. occupies side homes y ≡ occupies side homes (x j) → y.start + fetch ≤ (x j).start) (λ i m. k.apart i j m l);
          };
          serves = k.serves;
          all_served = k.all_served;
          all_land = k.all_land;
        }
