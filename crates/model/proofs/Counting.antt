-- Counting exchanges, and the opening content, one more at a time.
use Rattle.std.proofs.Common.{◌≡◌, ℕ, zero, suc, ◌+◌, ◌<◌, ◌≤◌, Bool, false, eqb, List, [], ◌∷◌, ◌++◌, length, get_or, sym, refl, ap, ◌∙◌, add_assoc, zero-add, arith, reverse, true}
use Rattle.std.proofs.lemmas.Bool.{eq-eqb, ne_eqb}
use mathlib.Core.List.{reverse-cons}
use Rattle.model.specs.Timetable.{Exchange, none, bit, count, home, one_or, Act, Serve, Wait, served, waited}

pub count_append : (p : Exchange → Bool) (xs ys : List Exchange) → count p (xs ++ ys) ≡ count p xs + count p ys
unfolding count
count_append p [] ys = sym (zero-add (count p ys))
count_append p (x ∷ xs) ys = ap (λ n. bit (p x) + n) (count_append p xs ys) ∙ sym (add_assoc (bit (p x)) (count p xs) (count p ys))

pub count_push : (p : Exchange → Bool) (xs : List Exchange) (x : Exchange) → count p (xs ++ (x ∷ [])) ≡ count p xs + bit (p x)
unfolding count
count_push p xs x = let e = count_append p xs (x ∷ []) in omega arith

-- tests that agree on each of a list count alike
pub count_same : (p q : Exchange → Bool) (xs : List Exchange) → ((j : ℕ) → j < length xs → p (get_or xs j none) ≡ q (get_or xs j none)) → count p xs ≡ count q xs
unfolding count
count_same p q [] h = refl
count_same p q (x ∷ xs) h =
    let e : p x ≡ q x = h 0 (omega arith) in
    let f = count_same p q xs (λ j l. h (suc j) (omega arith)) in
    cc

pub count_none : (p : Exchange → Bool) (xs : List Exchange) → ((j : ℕ) → j < length xs → p (get_or xs j none) ≡ false) → count p xs ≡ 0
unfolding count
count_none p [] h = refl
count_none p (x ∷ xs) h =
    let e : bit (p x) ≡ 0 = ap bit (h 0 (omega arith)) in
    let f = count_none p xs (λ j l. h (suc j) (omega arith)) in
    omega arith

pub count_each : (p : Exchange → Bool) (xs : List Exchange) → ((j : ℕ) → j < length xs → p (get_or xs j none) ≡ true) → count p xs ≡ length xs
unfolding count
count_each p [] h = refl
count_each p (x ∷ xs) h =
    let e : bit (p x) ≡ 1 = ap bit (h 0 (omega arith)) in
    let f = count_each p xs (λ j l. h (suc j) (omega arith)) in
    omega arith

-- a test that passes less often counts less; where the counts agree, so do the tests
pub count_le : (p q : Exchange → Bool) → ((x : Exchange) → bit (p x) ≤ bit (q x)) → (xs : List Exchange) → count p xs ≤ count q xs
unfolding count
count_le p q h [] = omega arith
count_le p q h (x ∷ xs) = let e = h x in let f = count_le p q h xs in omega arith

pub count_tight : (p q : Exchange → Bool) → ((x : Exchange) → bit (p x) ≤ bit (q x)) → (xs : List Exchange) → count p xs ≡ count q xs →
    (j : ℕ) → j < length xs → bit (p (get_or xs j none)) ≡ bit (q (get_or xs j none))
unfolding count
count_tight p q h [] e j l = absurd (omega arith)
count_tight p q h (x ∷ xs) e zero l = let a = h x in let b = count_le p q h xs in omega arith
count_tight p q h (x ∷ xs) e (suc j) l =
    let a = h x in let b = count_le p q h xs in
    count_tight p q h xs (omega arith) j (omega arith)

-- two tests that between them pass as often as a third
pub count_split : (p q r : Exchange → Bool) (xs : List Exchange) → ((j : ℕ) → j < length xs → bit (p (get_or xs j none)) + bit (q (get_or xs j none)) ≡ bit (r (get_or xs j none))) →
    count p xs + count q xs ≡ count r xs
unfolding count
count_split p q r [] h = refl
count_split p q r (x ∷ xs) h =
    let e : bit (p x) + bit (q x) ≡ bit (r x) = h 0 (omega arith) in
    let f = count_split p q r xs (λ j l. h (suc j) (omega arith)) in
    omega arith

-- the opening content, one block more
pub home_push_same : (os : List ℕ) (b : ℕ) → home (os ++ (b ∷ [])) b ≡ 1
unfolding home
home_push_same [] b = rw (eq-eqb b b refl)
home_push_same (o ∷ os) b = let h = home_push_same os b in grind arith

pub home_push_other : (os : List ℕ) (b c : ℕ) → (c ≡ b → ⊥) → home (os ++ (b ∷ [])) c ≡ home os c
unfolding home
home_push_other [] b c h = rw (ne_eqb b c (λ e. h (sym e)))
home_push_other (o ∷ os) b c h = ap (λ n. one_or (eqb o c) n) (home_push_other os b c h)

pub served_append : (a b : List Act) → served (a ++ b) ≡ served a + served b
unfolding served
served_append [] b = sym (zero-add (served b))
served_append (Serve ∷ a) b = let e = served_append a b in omega arith
served_append (Wait ∷ a) b = served_append a b

pub waited_append : (a b : List Act) → waited (a ++ b) ≡ waited a + waited b
unfolding waited
waited_append [] b = sym (zero-add (waited b))
waited_append (Serve ∷ a) b = waited_append a b
waited_append (Wait ∷ a) b = let e = waited_append a b in omega arith

-- what adds up over joined lists is the same of a list read backwards
pub same_reversed : {X : Type 0} (f : List X → ℕ) → ((xs ys : List X) → f (xs ++ ys) ≡ f xs + f ys) → (xs : List X) → f (reverse xs) ≡ f xs
same_reversed f adds [] = refl
same_reversed f adds (x ∷ xs) =
    let e = ap f (reverse-cons x xs) in
    omega (arith, e, adds (reverse xs) (x ∷ []), same_reversed f adds xs, adds (x ∷ []) xs)
