-- What marking one block more does to the list of the marked ones. Assumes nothing.
use Rattle.std.proofs.Common.{◌≡◌, ℕ, ◌+◌, ◌<◌, ◌≤◌, Bool, true, false, ◌||◌, eqb, leb, ◌⊎◌, inl, inr, List, [], ◌∷◌, ◌++◌, length, get_or, take, replicate, set, sym, refl, ◌∙◌, subst, add-one, append_assoc, arith}
use Rattle.std.proofs.lemmas.List.{get_or-set_same, get_or-set_other, get_or-replicate}
use Rattle.std.proofs.lemmas.Bool.{eq-eqb, ne_eqb, cases_eq, le-leb, lt-leb}
use Rattle.std.proofs.Math.Seq.{take-suc}
use Rattle.model.specs.Timetable.{home}
use Rattle.model.specs.Pass.{each, add_unless, different}
use Rattle.planner.specs.Openings.{Marks}

pub none_marked : (n : ℕ) → Marks (replicate 1024 false) 0 []
unfolding home
none_marked n = record { told = λ b l. get_or-replicate 1024 b false false l; many = refl }

home_other : (x : ℕ) (xs : List ℕ) (b : ℕ) → (b ≡ x → ⊥) → home (x ∷ xs) b ≡ home xs b
unfolding home
home_other x xs b n = rw (ne_eqb x b (λ i. n (sym i))) refl

home_same : (x : ℕ) (xs : List ℕ) → home (x ∷ xs) x ≡ 1
unfolding home
home_same x xs = rw (eq-eqb x x refl) refl

pub one_marked : (is : List Bool) (count : ℕ) (found : List ℕ) (b : ℕ) → Marks is count found → b < 1024 → length is ≡ 1024 → Marks (set is b true) (count + 1) (b ∷ found)
one_marked is count found b h l e = record { told = told; many = omega (arith, h.many) }
  where
    told : (c : ℕ) → c < 1024 → get_or (set is b true) c false ≡ eqb (home (b ∷ found) c) 1
    told c m = go (cases_eq c b)
      where
        go : (c ≡ b) ⊎ (c ≡ b → ⊥) → get_or (set is b true) c false ≡ eqb (home (b ∷ found) c) 1
        go (inl i) = rw (i, get_or-set_same is b true false (omega arith), home_same b found) refl
        go (inr i) = rw (get_or-set_other is b c true false i, home_other b found c i) (h.told c m)

-- one number more at the end of a list
pub different_push : (k : ℕ) (xs found : List ℕ) (r : ℕ) → different k found (xs ++ (r ∷ [])) ≡ add_unless (eqb (home (different k found xs) r) 1 || leb k (length (different k found xs))) r (different k found xs)
unfolding different
different_push k [] found r = refl
different_push k (x ∷ xs) found r = different_push k xs (add_unless (eqb (home found x) 1 || leb k (length found)) x found) r

module _ (is : List Bool) (count : ℕ) (found : List ℕ) (k b : ℕ) (h : Marks is count found) where
  pub kept_chosen : b < 1024 → get_or is b false ≡ true → Marks is count (add_unless (eqb (home found b) 1 || leb k (length found)) b found)
  kept_chosen l e = rw (sym (h.told b l) ∙ e) h

  pub kept_full : k ≤ count → Marks is count (add_unless (eqb (home found b) 1 || leb k (length found)) b found)
  kept_full l = go (eqb (home found b) 1)
    where
      go : (t : Bool) → Marks is count (add_unless (t || leb k (length found)) b found)
      go true = h
      go false = rw (le-leb k (length found) (omega (arith, h.many))) h

  pub taken_in : b < 1024 → length is ≡ 1024 → get_or is b false ≡ false → count < k → Marks (set is b true) (count + 1) (add_unless (eqb (home found b) 1 || leb k (length found)) b found)
  taken_in l e f m = rw (sym (h.told b l) ∙ f, lt-leb k (length found) (omega (arith, h.many))) (one_marked is count found b h l e)

-- the first different ones of one block more: at the next position, or the next block of all
pub first_nothing : (k : ℕ) → different k [] [] ≡ []
unfolding different
first_nothing k = refl

next_request : (k : ℕ) (xs : List ℕ) (i r : ℕ) → i < length xs → r ≡ get_or xs i 0 →
    different k [] (take (i + 1) xs) ≡ add_unless (eqb (home (different k [] (take i xs)) r) 1 || leb k (length (different k [] (take i xs)))) r (different k [] (take i xs))
next_request k xs i r l e = rw (add-one i, take-suc xs i 0 l, ← e) (different_push k (take i xs) [] r)

next_block : (k : ℕ) (xs : List ℕ) (b : ℕ) →
    different k [] (xs ++ each (λ x. x) (b + 1)) ≡ add_unless (eqb (home (different k [] (xs ++ each (λ x. x) b)) b) 1 || leb k (length (different k [] (xs ++ each (λ x. x) b)))) b (different k [] (xs ++ each (λ x. x) b))
unfolding each
next_block k xs b = rw (add-one b, ← append_assoc) (different_push k (xs ++ each (λ x. x) b) [] b)

-- so marks of the first different ones stay so, where as many are enough as there are frames
pub marks_request : (is : List Bool) (count k m : ℕ) (xs : List ℕ) (i r : ℕ) → i < length xs → r ≡ get_or xs i 0 → m ≡ k →
    Marks is count (add_unless (eqb (home (different k [] (take i xs)) r) 1 || leb m (length (different k [] (take i xs)))) r (different k [] (take i xs))) → Marks is count (different k [] (take (i + 1) xs))
marks_request is count k m xs i r l e f h = rw (next_request k xs i r l e, ← f) (subst (λ (x : ℕ). Marks is count (add_unless (eqb (home (different x [] (take i xs)) r) 1 || leb m (length (different x [] (take i xs)))) r (different x [] (take i xs)))) (sym f) h)

pub marks_block : (is : List Bool) (count k m : ℕ) (xs : List ℕ) (b : ℕ) → m ≡ k →
    Marks is count (add_unless (eqb (home (different k [] (xs ++ each (λ x. x) b)) b) 1 || leb m (length (different k [] (xs ++ each (λ x. x) b)))) b (different k [] (xs ++ each (λ x. x) b))) → Marks is count (different k [] (xs ++ each (λ x. x) (b + 1)))
marks_block is count k m xs b f h = rw (next_block k xs b, ← f) (subst (λ (x : ℕ). Marks is count (add_unless (eqb (home (different x [] (xs ++ each (λ y. y) b)) b) 1 || leb m (length (different x [] (xs ++ each (λ y. y) b)))) b (different x [] (xs ++ each (λ y. y) b)))) (sym f) h)
