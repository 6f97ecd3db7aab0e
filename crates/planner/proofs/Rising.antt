-- The marked blocks, picked in rising order, are the usual opening. Assumes nothing.
use Rattle.std.proofs.Common.{◌≡◌, ℕ, zero, suc, ◌+◌, ◌<◌, ◌≤◌, Bool, true, false, cond, eqb, ◌⊎◌, inl, inr, List, [], ◌∷◌, ◌++◌, length, get_or, sym, refl, ap, ◌∙◌, subst, add-one, arith}
use Rattle.std.proofs.lemmas.List.{append-nil, length-append, length_push}
use Rattle.std.proofs.lemmas.Bool.{cases_eq}
use Rattle.model.specs.Mirror.{picked}
use Rattle.model.specs.Timetable.{home}
use Rattle.model.specs.Pass.{each, usual_opening}
use Rattle.model.proofs.Usual.{usual_length}
use Rattle.sheet.specs.Sheets.{meant}
use Rattle.sheet.specs.declared.view.Sheet.{Sheet as Lent}
use Rattle.sheet.proofs.Known.{known, few_blocks}
use Rattle.planner.specs.Openings.{Marks, first_of}

pub picked_in : (p : ℕ → Bool) (n : ℕ) → p n ≡ true → picked p (n + 1) ≡ picked p n ++ (n ∷ [])
unfolding picked
picked_in p n e = rw (add-one n, e) refl

pub picked_not : (p : ℕ → Bool) (n : ℕ) → p n ≡ false → picked p (n + 1) ≡ picked p n
unfolding picked
picked_not p n e = rw (add-one n, e) (append-nil (picked p n))

pub picked_room : (p : ℕ → Bool) (b n : ℕ) → p b ≡ true → b < n → length (picked p b) < length (picked p n)
unfolding picked
picked_room p b zero e l = absurd (omega arith)
picked_room p b (suc n) e l = go (cases_eq b n) (λ m. picked_room p b n e m)
  where
    grows : length (picked p n) ≤ length (picked p (suc n))
    grows = omega (arith, length-append (picked p n) (cond (p n) (n ∷ []) []))

    go : (b ≡ n) ⊎ (b ≡ n → ⊥) → (b < n → length (picked p b) < length (picked p n)) → length (picked p b) < length (picked p (suc n))
    go (inl i) f = rw i (rw (subst (λ (x : ℕ). p x ≡ true) i e) (omega (arith, length_push (picked p n) n)))
    go (inr i) f = omega (arith, f (omega arith), grows)

-- the test of the usual opening
abbrev pub is_first : Lent → ℕ → Bool
is_first s b = eqb (home (first_of (meant s) ((meant s).requests ++ each (λ x. x) (length (meant s).rack.homes))) b) 1

pub usual_is : (s : Lent) → picked (is_first s) (length (meant s).rack.homes) ≡ usual_opening (length (meant s).rack.homes) (meant s).rack.frames (meant s).requests
unfolding usual_opening
usual_is s = refl

pub usual_room : (s : Lent) (b : ℕ) → is_first s b ≡ true → b < length (meant s).rack.homes → length (picked (is_first s) b) < 64
usual_room s b e l =
    let n = usual_length (length (meant s).rack.homes) (meant s).rack.frames (meant s).requests s.rack.now.fits.blocks.0 (known s) in
    omega (arith, picked_room (is_first s) b (length (meant s).rack.homes) e l, ap (λ (xs : List ℕ). length xs) (usual_is s), n, s.rack.now.fits.frames.1)

pub is_marked : (s : Lent) (is : List Bool) (count b : ℕ) (r : Bool) → Marks is count (first_of (meant s) ((meant s).requests ++ each (λ x. x) (length (meant s).rack.homes))) → b < length (meant s).rack.homes →
    r ≡ get_or is b false → is_first s b ≡ r
is_marked s is count b r h l e = sym (e ∙ h.told b (omega (arith, few_blocks s)))
