-- How many exchanges a plan that keeps the model can have, and how large the plan of a pass is.
use Rattle.std.proofs.Common.{◌≡◌, ℕ, zero, suc, ◌+◌, ◌*◌, ◌<◌, ◌≤◌, Bool, eqb, List, [], ◌∷◌, ◌++◌, length, get_or, take, sym, ap, ◌∙◌, subst, mul_assoc, suc-mul, mul_comm, zero-mul, le_of_mul-le-mul_right, arith, add-mul, true, false, refl}
use Rattle.std.proofs.lemmas.List.{take_all}
use Rattle.std.proofs.lemmas.Bool.{eqb-true}
use Rattle.std.proofs.Math.Seq.{take-suc}
use Rattle.model.specs.Timetable.{Exchange, none, Side, occupies, bit, count, KeepsPlainly}
use Rattle.model.specs.Verdict.{most_disks}
use Rattle.model.specs.PassLaws.{FewExchanges}
use Rattle.model.proofs.Counting.{count_push}
use Rattle.model.proofs.Plainly.{plain_reading}
use Rattle.model.proofs.Picked.{sum_below}
use Rattle.model.proofs.Reflected.{sum_count}
use Rattle.model.proofs.Progress.{on_disks}

module _ (side : Side) (homes : List ℕ) (fetch : ℕ) where
  abbrev on : ℕ → Exchange → Bool
  on d x = eqb (occupies side homes x) d

  -- those of one disk follow each other by the fetch time
  module _ (xs : List Exchange) (apart : (i j : ℕ) → i < j → j < length xs → occupies side homes (get_or xs i none) ≡ occupies side homes (get_or xs j none) → (get_or xs i none).start + fetch ≤ (get_or xs j none).start) (d : ℕ) where
    busy : (m bound : ℕ) → m ≤ length xs → ((j : ℕ) → j < m → occupies side homes (get_or xs j none) ≡ d → (get_or xs j none).start + fetch ≤ bound) → count (on d) (take m xs) * fetch ≤ bound
    unfolding count
    busy zero bound l h = omega (arith, zero-mul fetch)
    busy (suc m) bound l h =
        let x : Exchange = get_or xs m none in
        let e : take (suc m) xs ≡ take m xs ++ (x ∷ []) = take-suc xs m none (omega arith) in
        let f : count (on d) (take (suc m) xs) ≡ count (on d) (take m xs) + bit (on d x) = ap (λ (ys : List Exchange). count (on d) ys) e ∙ count_push (on d) (take m xs) x in
        subst (λ (n : ℕ). n * fetch ≤ bound) (sym f)
        (on_or_off (count (on d) (take m xs)) x.start bound (on d x)
        (λ i. busy m x.start (omega arith) (λ j n o. apart j m n (omega arith) (o ∙ sym (eqb-true (occupies side homes x) d i)))) (λ i. h m (omega arith) (eqb-true (occupies side homes x) d i))
        (busy m bound (omega arith) (λ j n o. h j (omega arith) o)))
      where
        on_or_off : (c s b : ℕ) (t : Bool) → (t ≡ true → c * fetch ≤ s) → (t ≡ true → s + fetch ≤ b) → c * fetch ≤ b → (c + bit t) * fetch ≤ b
        on_or_off c s b true i k l = omega (arith, i refl, k refl, add-mul c 1 fetch)
        on_or_off c s b false i k l = omega arith

sum_le : (f : ℕ → ℕ) (n b : ℕ) → ((d : ℕ) → d < n → f d ≤ b) → sum_below f n ≤ n * b
sum_le f zero b h = omega (arith, zero-mul b)
sum_le f (suc n) b h = omega (arith, suc-mul n b, sum_le f n b (λ d l. h d (omega arith)), h n (omega arith))

pub few_exchanges : FewExchanges
few_exchanges side homes frames fetch requests plan fit k short = omega (arith, sum_count (λ x. occupies side homes x) xs most_disks known, sum_le (λ d. count (on side homes fetch d) xs) most_disks (2 * length requests) each_few)
  where
    xs : List Exchange
    xs = plan.exchanges

    plainly : KeepsPlainly side homes frames fetch requests plan
    plainly = (plain_reading side homes frames fetch requests plan fit.lasts).0 k

    known : (j : ℕ) → j < length xs → occupies side homes (get_or xs j none) < most_disks
    known j l = on_disks side homes fetch fit (get_or xs j none) (plainly.knows_in j l) (plainly.knows_out j l)

    regroup : (f n : ℕ) → 2 * f * n ≡ 2 * n * f
    regroup f n = mul_assoc 2 f n ∙ (ap (λ (m : ℕ). 2 * m) (mul_comm f n) ∙ sym (mul_assoc 2 n f))

    each_few : (d : ℕ) → d < most_disks → count (on side homes fetch d) xs ≤ 2 * length requests
    each_few d l =
        let b = busy side homes fetch xs plainly.apart d (length xs) (length plan.acts) (omega arith) (λ j m e. k.all_land j m) in
        let e : count (on side homes fetch d) (take (length xs) xs) ≡ count (on side homes fetch d) xs = ap (λ (ys : List Exchange). count (on side homes fetch d) ys) (take_all (length xs) xs (omega arith)) in
        let c : count (on side homes fetch d) xs * fetch ≤ 2 * length requests * fetch = subst (λ (n : ℕ). n * fetch ≤ 2 * length requests * fetch) e (omega (arith, regroup fetch (length requests))) in
        le_of_mul-le-mul_right c fit.lasts
