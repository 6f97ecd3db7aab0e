-- Where reading has come from the first command of some bytes, turn by turn; and that it ends in one state only.
use Rattle.std.proofs.Common.{◌≡◌, ℕ, zero, suc, ◌+◌, ◌-◌, ◌<◌, ◌≤◌, true, ◌⊎◌, List, length, sym, refl, ap, ◌∙◌, subst, inl, inr, arith}
use Rattle.std.proofs.lemmas.Bool.{cases_lt}
use Rattle.model.specs.Timetable.{Side}
use Rattle.model.specs.Verdict.{Cause, State, is_over, begin, Turn, Goes, Stops, step}
use Rattle.model.proofs.Turns.{over_step}

module _ (side : Side) (homes : List ℕ) (frames fetch : ℕ) (requests : List ℕ) (room : ℕ) (bytes : List ℕ) where
  -- one turn more, unless there was a stop
  abbrev turn_on : Turn → Turn
  turn_on (Goes s rest) = step side homes frames fetch requests room (length bytes) s rest
  turn_on (Stops cause place) = Stops cause place

  -- what so many turns come to
  abbrev turns : ℕ → Turn
  turns zero = Goes begin bytes
  turns (suc n) = turn_on (turns n)

  -- reading comes to a state, with a rest of the bytes left
  abbrev pub Comes : State → List ℕ → Type 0
  Comes s rest = (n : ℕ) × (turns n ≡ Goes s rest)

  pub comes_first : Comes begin bytes
  comes_first = (0, refl)

  pub comes_on : (s : State) (rest : List ℕ) (t : State) (more : List ℕ) → Comes s rest → step side homes frames fetch requests room (length bytes) s rest ≡ Goes t more → Comes t more
  comes_on s rest t more h e = (suc h.0, ap turn_on h.1 ∙ e)

  -- a stop stays
  stays : (d n : ℕ) (cause : Cause) (place : ℕ) → turns n ≡ Stops cause place → turns (d + n) ≡ Stops cause place
  stays zero n cause place e = let i : n ≡ 0 + n = omega arith in subst (λ (m : ℕ). turns m ≡ Stops cause place) i e
  stays (suc d) n cause place e = let i : suc (d + n) ≡ suc d + n = omega arith in subst (λ (m : ℕ). turns m ≡ Stops cause place) i (ap turn_on (stays d n cause place e))

  -- past the end there is no turn that goes on
  past : (n m : ℕ) (s t : State) (rest more : List ℕ) → n < m → turns n ≡ Goes s rest → is_over s.phase ≡ true → turns m ≡ Goes t more → ⊥
  past n m s t rest more l e over f =
      let stop = ap turn_on e ∙ over_step side homes frames fetch requests room (length bytes) s rest over in
      let d : ℕ = m - suc n in
      let same : d + suc n ≡ m = omega arith in
      let k = stays d (suc n) _ _ stop in
      let g : turns (d + suc n) ≡ Goes t more = subst (λ (i : ℕ). turns i ≡ Goes t more) (sym same) f in
      absurd (cc)

  pub comes_once : (s t : State) (rest more : List ℕ) → Comes s rest → Comes t more → is_over s.phase ≡ true → is_over t.phase ≡ true → s ≡ t
  comes_once s t rest more h k over over' = go (cases_lt h.0 k.0) (cases_lt k.0 h.0)
    where
      go : (h.0 < k.0) ⊎ (k.0 ≤ h.0) → (k.0 < h.0) ⊎ (h.0 ≤ k.0) → s ≡ t
      go (inl l) w = absurd (past h.0 k.0 s t rest more l h.1 over k.1)
      go (inr l) (inl m) = absurd (past k.0 h.0 t s more rest m k.1 over' h.1)
      go (inr l) (inr m) = let e : h.0 ≡ k.0 = omega arith in let g = ap turns e in let a = h.1 in let b = k.1 in cc
