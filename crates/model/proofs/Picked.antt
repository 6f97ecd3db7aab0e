-- The numbers that pass a test, as a rising list; and sums over all numbers below one.
use Rattle.std.proofs.Common.{◌≡◌, ℕ, zero, suc, ◌+◌, ◌<◌, ◌≤◌, Bool, true, false, cond, eqb, ◌⊎◌, List, [], ◌∷◌, ◌++◌, length, get_or, sym, refl, ap, ◌∙◌, subst, inl, inr, arith}
use Rattle.std.proofs.lemmas.List.{append-nil, length_push}
use Rattle.std.proofs.lemmas.Bool.{ne_eqb, cases_eq}
use Rattle.std.proofs.lemmas.Bool.Decides.{nat_tests}
use Rattle.model.specs.Timetable.{bit, home}
use Rattle.model.specs.Mirror.{picked}
use Rattle.model.proofs.Counting.{home_push_same, home_push_other}

-- a list that rises, from a number on and below another
abbrev pub Rising : ℕ → ℕ → List ℕ → Type 0
Rising low high [] = low ≤ high
Rising low high (x ∷ xs) = (low ≤ x) × Rising (x + 1) high xs

pub rising_room : (low high : ℕ) (xs : List ℕ) → Rising low high xs → low ≤ high
rising_room low high [] h = h
rising_room low high (x ∷ xs) h = let r = rising_room (x + 1) high xs h.1 in omega (arith, h.0)

-- rising by index, and back
pub rising_each : (low high : ℕ) (xs : List ℕ) → Rising low high xs → (i : ℕ) → i < length xs → (low ≤ get_or xs i 0) × (get_or xs i 0 < high)
rising_each low high [] h i l = absurd (omega arith)
rising_each low high (x ∷ xs) h zero l = let r = rising_room (x + 1) high xs h.1 in (h.0, omega arith)
rising_each low high (x ∷ xs) h (suc i) l = let r = rising_each (x + 1) high xs h.1 i (omega arith) in (omega (arith, r.0, h.0), r.1)

pub rising_pairs : (low high : ℕ) (xs : List ℕ) → Rising low high xs → (i j : ℕ) → i < j → j < length xs → get_or xs i 0 < get_or xs j 0
rising_pairs low high [] h i j m l = absurd (omega arith)
rising_pairs low high (x ∷ xs) h zero zero m l = absurd (omega arith)
rising_pairs low high (x ∷ xs) h zero (suc j) m l = let r = rising_each (x + 1) high xs h.1 j (omega arith) in omega (arith, r.0)
rising_pairs low high (x ∷ xs) h (suc i) zero m l = absurd (omega arith)
rising_pairs low high (x ∷ xs) h (suc i) (suc j) m l = rising_pairs (x + 1) high xs h.1 i j (omega arith) (omega arith)

pub rising_from : (low high : ℕ) (xs : List ℕ) → low ≤ high → ((i : ℕ) → i < length xs → low ≤ get_or xs i 0) → ((i : ℕ) → i < length xs → get_or xs i 0 < high) →
    ((i j : ℕ) → i < j → j < length xs → get_or xs i 0 < get_or xs j 0) → Rising low high xs
rising_from low high [] r f g h = r
rising_from low high (x ∷ xs) r f g h =
    let a : low ≤ x = f 0 (omega arith) in
    let b : x < high = g 0 (omega arith) in
    (a, rising_from (x + 1) high xs (omega arith) (λ i l. omega (arith, h 0 (suc i) (omega arith) (omega arith))) (λ i l. g (suc i) (omega arith)) (λ i j m l. h (suc i) (suc j) (omega arith) (omega arith)))

rising_wider : (low high : ℕ) (xs : List ℕ) → Rising low high xs → Rising low (suc high) xs
rising_wider low high [] h = omega arith
rising_wider low high (x ∷ xs) h = (h.0, rising_wider (x + 1) high xs h.1)

rising_push : (low high : ℕ) (xs : List ℕ) → Rising low high xs → Rising low (suc high) (xs ++ (high ∷ []))
rising_push low high [] h = (h, omega arith)
rising_push low high (x ∷ xs) h = (h.0, rising_push (x + 1) high xs h.1)

pub home_one : (xs : List ℕ) (b : ℕ) → home xs b ≤ 1
unfolding home
home_one [] b = omega arith
home_one (x ∷ xs) b = let h = home_one xs b in grind arith

-- what is picked rises
pub picked_rises : (p : ℕ → Bool) (n : ℕ) → Rising 0 n (picked p n)
unfolding picked
picked_rises p zero = omega arith
picked_rises p (suc n) = go (p n) (picked_rises p n)
  where
    go : (t : Bool) → Rising 0 n (picked p n) → Rising 0 (suc n) (picked p n ++ cond t (n ∷ []) [])
    go true h = rising_push 0 n (picked p n) h
    go false h = subst (λ (xs : List ℕ). Rising 0 (suc n) xs) (sym (append-nil (picked p n))) (rising_wider 0 n (picked p n) h)

-- tests that agree below n pick the same
pub picked_same : (p q : ℕ → Bool) (n : ℕ) → ((b : ℕ) → b < n → p b ≡ q b) → picked p n ≡ picked q n
unfolding picked
picked_same p q zero h = refl
picked_same p q (suc n) h =
    let e = picked_same p q n (λ b l. h b (omega arith)) in
    let f = h n (omega arith) in
    cc

-- a number above all of a list is not in it
pub home_above : (low high : ℕ) (xs : List ℕ) → Rising low high xs → (b : ℕ) → high ≤ b → home xs b ≡ 0
unfolding home
home_above low high [] h b l = refl
home_above low high (x ∷ xs) h b l =
    let r = rising_room (x + 1) high xs h.1 in
    let e : home xs b ≡ 0 = home_above (x + 1) high xs h.1 b l in
    rw (ne_eqb x b (λ (k : x ≡ b). omega arith)) e

pub home_picked : (p : ℕ → Bool) (n b : ℕ) → b < n → home (picked p n) b ≡ bit (p b)
unfolding picked
home_picked p zero b l = absurd (omega arith)
home_picked p (suc n) b l =
    let h = λ (m : b < n). home_picked p n b m in
    let same = home_push_same (picked p n) n in
    let other = home_push_other (picked p n) n b in
    let nil = append-nil (picked p n) in
    let above = home_above 0 n (picked p n) (picked_rises p n) n (omega arith) in
    grind arith

pub home_picked_past : (p : ℕ → Bool) (n b : ℕ) → n ≤ b → home (picked p n) b ≡ 0
home_picked_past p n b l = home_above 0 n (picked p n) (picked_rises p n) b l

-- A rising list below suc n ends with n, or is below n.
pub record EndsWith (low n : ℕ) (xs : List ℕ) : Type 0 where
  pub front : List ℕ
  pub rises : Rising low n front
  pub joins : xs ≡ front ++ (n ∷ [])

ends_or_below : (low n : ℕ) (xs : List ℕ) → Rising low (suc n) xs → low ≤ n → Rising low n xs ⊎ EndsWith low n xs
ends_or_below low n [] h r = inl r
ends_or_below low n (x ∷ []) h r = go (cases_eq x n)
  where
    go : (x ≡ n) ⊎ (x ≡ n → ⊥) → Rising low n (x ∷ []) ⊎ EndsWith low n (x ∷ [])
    go (inl e) = inr (record { front = []; rises = r; joins = ap (λ (y : ℕ). y ∷ []) e })
    go (inr e) = inl (h.0, omega (arith, h.1))
ends_or_below low n (x ∷ (y ∷ xs)) h r =
    let a : x + 1 ≤ y = h.1.0 in
    let b : y + 1 ≤ suc n = rising_room (y + 1) (suc n) xs h.1.1 in
    go (ends_or_below (x + 1) n (y ∷ xs) h.1 (omega arith))
  where
    go : Rising (x + 1) n (y ∷ xs) ⊎ EndsWith (x + 1) n (y ∷ xs) → Rising low n (x ∷ (y ∷ xs)) ⊎ EndsWith low n (x ∷ (y ∷ xs))
    go (inl k) = inl (h.0, k)
    go (inr k) = inr (record { front = x ∷ k.front; rises = (h.0, k.rises); joins = ap (λ (zs : List ℕ). x ∷ zs) k.joins })

-- whether a number is in a list
abbrev pub among : List ℕ → ℕ → Bool
among xs b = eqb (home xs b) 1

pub among_is : (xs : List ℕ) (b : ℕ) → bit (among xs b) ≡ home xs b
among_is xs b = let h = home_one xs b in grind (arith, nat_tests)

-- a rising list is what is picked by being in it
pub rising_picked : (n : ℕ) (xs : List ℕ) → Rising 0 n xs → picked (among xs) n ≡ xs
unfolding picked
rising_picked zero [] h = refl
rising_picked zero (x ∷ xs) h = absurd (omega (arith, rising_room (x + 1) 0 xs h.1))
rising_picked (suc n) xs h = go (λ ys k. rising_picked n ys k) (ends_or_below 0 n xs h (omega arith))
  where
    below : Rising 0 n xs → picked (among xs) n ≡ xs → picked (among xs) n ++ cond (among xs n) (n ∷ []) [] ≡ xs
    below k e = rw (home_above 0 n xs k n (omega arith)) (append-nil (picked (among xs) n) ∙ e)

    ends : (k : EndsWith 0 n xs) → picked (among k.front) n ≡ k.front → picked (among xs) n ++ cond (among xs n) (n ∷ []) [] ≡ xs
    ends k e =
        let one : home xs n ≡ 1 = rw k.joins (home_push_same k.front n) in
        let same : picked (among xs) n ≡ picked (among k.front) n = picked_same (among xs) (among k.front) n
        (λ b l. rw (k.joins, home_push_other k.front n b (λ (i : b ≡ n). omega arith))) in
        rw (one, same, e) (sym k.joins)

    go : ((ys : List ℕ) → Rising 0 n ys → picked (among ys) n ≡ ys) → Rising 0 n xs ⊎ EndsWith 0 n xs → picked (among xs) n ++ cond (among xs n) (n ∷ []) [] ≡ xs
    go f (inl k) = below k (f xs k)
    go f (inr k) = ends k (f k.front k.rises)

-- the sum of a function over all numbers below n
abbrev pub sum_below : (ℕ → ℕ) → ℕ → ℕ
sum_below f zero = 0
sum_below f (suc n) = sum_below f n + f n

pub sum_same : (f g : ℕ → ℕ) (n : ℕ) → ((b : ℕ) → b < n → f b ≡ g b) → sum_below f n ≡ sum_below g n
sum_same f g zero h = refl
sum_same f g (suc n) h = let e = sum_same f g n (λ b l. h b (omega arith)) in let k = h n (omega arith) in omega arith

pub sum_both : (f g : ℕ → ℕ) (n : ℕ) → sum_below (λ b. f b + g b) n ≡ sum_below f n + sum_below g n
sum_both f g zero = refl
sum_both f g (suc n) = let e = sum_both f g n in omega arith

pub sum_none : (n : ℕ) → sum_below (λ b. 0) n ≡ 0
sum_none zero = refl
sum_none (suc n) = let e = sum_none n in omega arith

-- one number below n counts once
sum_past : (c n : ℕ) → n ≤ c → sum_below (λ b. bit (eqb c b)) n ≡ 0
sum_past c zero l = refl
sum_past c (suc n) l = let e = sum_past c n (omega arith) in grind (arith, nat_tests)

pub sum_one : (c n : ℕ) → c < n → sum_below (λ b. bit (eqb c b)) n ≡ 1
sum_one c zero l = absurd (omega arith)
sum_one c (suc n) l = let h = λ (m : c < n). sum_one c n m in let p = sum_past c n in grind (arith, nat_tests)

-- as many are picked as pass
pub length_picked : (p : ℕ → Bool) (n : ℕ) → length (picked p n) ≡ sum_below (λ b. bit (p b)) n
unfolding picked
length_picked p zero = refl
length_picked p (suc n) = let e = length_picked p n in grind (arith, length_push (picked p n) n, append-nil (picked p n))

-- a rising list has as many as are in it
pub length_rising : (n : ℕ) (xs : List ℕ) → Rising 0 n xs → length xs ≡ sum_below (λ b. home xs b) n
length_rising n xs h =
    let e : length (picked (among xs) n) ≡ length xs = ap (λ (ys : List ℕ). length ys) (rising_picked n xs h) in
    sym e ∙ (length_picked (among xs) n ∙ sum_same (λ b. bit (among xs b)) (λ b. home xs b) n (λ b l. among_is xs b))
