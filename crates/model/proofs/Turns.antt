-- One turn of the verdict: when it goes on, and with what.
use Rattle.std.proofs.Common.{◌≡◌, ℕ, zero, suc, ◌-◌, ◌<◌, ◌≤◌, true, false, cond, ◌⊎◌, List, [], ◌∷◌, length, drop, sym, refl, ap, ◌∙◌, inl, inr, arith}
use lib.Dec.{eqb-suc-zero}
use Rattle.std.proofs.lemmas.List.{length-drop}
use Rattle.std.proofs.lemmas.Bool.{leb-true, cases_Bool}
use Rattle.model.specs.Timetable.{Side}
use Rattle.model.specs.PlanBytes.{Command}
use Rattle.model.specs.Verdict
use Rattle.model.specs.Verdict.{Accepted, Refused, Outcome, Cause, State, Phase, Filling, Standing, Starting, Over, is_over, Found, Missing, Strange, Known, found, size, Finding, Clean, Faulty, first, tests_of, tests_at, turn_by, Turn, Goes, Stops, place_of, step, run, onward, after, accepted, refused, finished, within_limit}
use Rattle.model.proofs.Reading.{AllPass, clean_pass, pass_clean, size_some}

module _ (side : Side) (homes : List ℕ) (frames fetch : ℕ) (requests : List ℕ) (room : ℕ) (total : ℕ) where
  -- what a turn that goes on has found
  pub record Went (s : State) (rest : List ℕ) (s' : State) (rest' : List ℕ) (c : Command) : Type 0 where
    pub finds : found rest ≡ Known c
    pub passes : AllPass (tests_of side homes frames fetch requests room s total rest (Known c))
    pub state : s' ≡ after side homes frames fetch requests room s c
    pub rests : rest' ≡ drop (size c) rest

  tests_before : (s : State) (rest : List ℕ) (ph : Phase) (f : Found) → is_over ph ≡ false → tests_at side homes frames fetch requests room s total rest ph f ≡ tests_of side homes frames fetch requests room s total rest f
  tests_before s rest ph f e = grind arith

  went : (s : State) (rest : List ℕ) (s' : State) (rest' : List ℕ) (f : Found) → found rest ≡ f → (w : Finding) → first (tests_of side homes frames fetch requests room s total rest f) ≡ w →
      turn_by side homes frames fetch requests room s total rest f w ≡ Goes s' rest' → (c : Command) × Went s rest s' rest' c
  went s rest s' rest' f e (Faulty cause) k h = absurd (cc)
  went s rest s' rest' Missing e Clean k h = absurd (cc)
  went s rest s' rest' Strange e Clean k h = absurd (cc)
  went s rest s' rest' (Known c) e Clean k h =
      (c, record { finds = e; passes = clean_pass (tests_of side homes frames fetch requests room s total rest (Known c)) k; state = cc; rests = cc })

  pub step_goes : (s : State) (rest : List ℕ) (s' : State) (rest' : List ℕ) → is_over s.phase ≡ false → step side homes frames fetch requests room total s rest ≡ Goes s' rest' →
      (c : Command) × Went s rest s' rest' c
  unfolding step
  step_goes s rest s' rest' over h =
      went s rest s' rest' (found rest) refl (first (tests_of side homes frames fetch requests room s total rest (found rest))) refl
      (rw (sym (tests_before s rest s.phase (found rest) over)) h)

  -- a command whose tests all pass is gone on from
  pub goes_step : (s : State) (rest : List ℕ) (c : Command) → is_over s.phase ≡ false → found rest ≡ Known c → AllPass (tests_of side homes frames fetch requests room s total rest (Known c)) →
      step side homes frames fetch requests room total s rest ≡ Goes (after side homes frames fetch requests room s c) (drop (size c) rest)
  unfolding step
  goes_step s rest c over f h =
      rw (tests_before s rest s.phase (found rest) over) (rw f (rw (pass_clean (tests_of side homes frames fetch requests room s total rest (Known c)) h)))

  pub run_more : (n : ℕ) (s : State) (rest : List ℕ) → is_over s.phase ≡ false →
      run side homes frames fetch requests room (suc n) total s rest ≡ onward (λ t more. run side homes frames fetch requests room n total t more) s (step side homes frames fetch requests room total s rest)
  unfolding run
  run_more n s rest over = rw over

  -- past the end: stopped, if anything is left
  over_turn : (s : State) (rest : List ℕ) (ph : Phase) (f : Found) → is_over ph ≡ true →
      turn_by side homes frames fetch requests room s total rest f (first (tests_at side homes frames fetch requests room s total rest ph f))
      ≡ Stops (cond (within_limit total (total - length rest) 1) Verdict.OutOfPlace Verdict.OverLimit) (total - length rest)
  over_turn s rest ph f e = grind arith

  pub over_step : (s : State) (rest : List ℕ) → is_over s.phase ≡ true →
      step side homes frames fetch requests room total s rest ≡ Stops (cond (within_limit total (total - length rest) 1) Verdict.OutOfPlace Verdict.OverLimit) (total - length rest)
  unfolding step
  over_step s rest over = over_turn s rest s.phase (found rest) over

  over_run : (n : ℕ) (s : State) (b : ℕ) (rest : List ℕ) → is_over s.phase ≡ true →
      run side homes frames fetch requests room (suc n) total s (b ∷ rest) ≡ refused s (cond (within_limit total (total - length (b ∷ rest)) 1) Verdict.OutOfPlace Verdict.OverLimit) (total - length (b ∷ rest))
  unfolding run
  over_run n s b rest over =
      rw (over, eqb-suc-zero (length rest)) (ap (λ (v : Turn). onward (λ t more. run side homes frames fetch requests room n total t more) s v) (over_step s (b ∷ rest) over))

  -- past the end: accepted exactly if nothing is left
  pub over_accepts : (n : ℕ) (s : State) (rest : List ℕ) (t w x : ℕ) → is_over s.phase ≡ true → (run side homes frames fetch requests room n total s rest).answer ≡ Accepted t w x →
      (rest ≡ []) × (run side homes frames fetch requests room n total s rest ≡ accepted s)
  unfolding run
  over_accepts zero s rest t w x over h = absurd (cc)
  over_accepts (suc n) s [] t w x over h = (refl, rw over)
  over_accepts (suc n) s (b ∷ rest) t w x over h = let e = ap (λ (o : Outcome). o.answer) (over_run n s b rest over) in absurd (cc)

  -- past the end with nothing left
  pub over_ends : (n : ℕ) (s : State) → is_over s.phase ≡ true → run side homes frames fetch requests room (suc n) total s [] ≡ accepted s
  unfolding run
  over_ends n s over = rw over

  -- a turn that goes on takes bytes off the rest
  pub step_shorter : (s : State) (rest : List ℕ) (s' : State) (rest' : List ℕ) → step side homes frames fetch requests room total s rest ≡ Goes s' rest' → length rest' < length rest
  unfolding step
  step_shorter s rest s' rest' e = go (cases_Bool (is_over s.phase))
    where
      go : (is_over s.phase ≡ true) ⊎ (is_over s.phase ≡ false) → length rest' < length rest
      go (inl over) = let k = over_step s rest over in absurd (cc)
      go (inr over) =
          let w = step_goes s rest s' rest' over e in
          let c : Command = w.0 in
          let i : length rest' ≡ length (drop (size c) rest) = ap (λ (ys : List ℕ). length ys) w.1.rests in
          omega (arith, i, length-drop (size c) rest, size_some c, leb-true (size c) (length rest) w.1.passes.1.1.0)

  -- any number of commands above the bytes left is enough
  abbrev Enough : ℕ → ℕ → Type 0
  Enough n m = (s : State) (rest : List ℕ) → length rest < n → length rest < m → run side homes frames fetch requests room n total s rest ≡ run side homes frames fetch requests room m total s rest

  enough_more : (n m : ℕ) → Enough n m → Enough (suc n) (suc m)
  unfolding run
  enough_more n m more s rest i j =
      ap (λ (o : Outcome). cond (finished s rest) (accepted s) o) (go (step side homes frames fetch requests room total s rest) refl)
    where
      go : (v : Turn) → step side homes frames fetch requests room total s rest ≡ v →
          onward (λ t after. run side homes frames fetch requests room n total t after) s v ≡ onward (λ t after. run side homes frames fetch requests room m total t after) s v
      go (Stops cause place) e = refl
      go (Goes s' rest') e = let k = step_shorter s rest s' rest' e in more s' rest' (omega arith) (omega arith)

  pub run_enough : (n m : ℕ) → Enough n m
  run_enough zero m = λ s rest i j. absurd (omega arith)
  run_enough (suc n) zero = λ s rest i j. absurd (omega arith)
  run_enough (suc n) (suc m) = enough_more n m (run_enough n m)

  -- For a loop over the rest: with more turns than there are bytes left, a turn that goes on, one that stops, and the end.
  pub run_goes : (n : ℕ) (s : State) (rest : List ℕ) (s' : State) (rest' : List ℕ) → length rest ≤ n → finished s rest ≡ false → step side homes frames fetch requests room total s rest ≡ Goes s' rest' →
      run side homes frames fetch requests room (suc n) total s rest ≡ run side homes frames fetch requests room (suc n) total s' rest'
  unfolding run
  run_goes n s rest s' rest' l open' e =
      let k = step_shorter s rest s' rest' e in
      rw open' (ap (λ (v : Turn). onward (λ t more. run side homes frames fetch requests room n total t more) s v) e ∙ run_enough n (suc n) s' rest' (omega arith) (omega arith))

  pub run_stops : (n : ℕ) (s : State) (rest : List ℕ) (cause : Cause) (place : ℕ) → finished s rest ≡ false → step side homes frames fetch requests room total s rest ≡ Stops cause place →
      run side homes frames fetch requests room (suc n) total s rest ≡ refused s cause place
  unfolding run
  run_stops n s rest cause place open' e = rw open' (ap (λ (v : Turn). onward (λ t more. run side homes frames fetch requests room n total t more) s v) e)

  pub run_finishes : (n : ℕ) (s : State) (rest : List ℕ) → finished s rest ≡ true → run side homes frames fetch requests room (suc n) total s rest ≡ accepted s
  unfolding run
  run_finishes n s rest e = rw e

  stopped : (s : State) (rest : List ℕ) (cause : Cause) (place : ℕ) (f : Found) (w : Finding) → first (tests_of side homes frames fetch requests room s total rest f) ≡ w →
      turn_by side homes frames fetch requests room s total rest f w ≡ Stops cause place →
      (first (tests_of side homes frames fetch requests room s total rest f) ≡ Faulty cause) × (place ≡ place_of cause total (total - length rest))
  stopped s rest cause place f (Faulty d) k h =
      let e : d ≡ cause = cc in
      let g : place_of d total (total - length rest) ≡ place = cc in
      (k ∙ ap Faulty e, sym g ∙ ap (λ (c : Cause). place_of c total (total - length rest)) e)
  stopped s rest cause place Missing Clean k h = absurd (cc)
  stopped s rest cause place Strange Clean k h = absurd (grind arith)
  stopped s rest cause place (Known c) Clean k h = absurd (cc)

  -- a stop before the end tells the first test that fails
  pub step_stops : (s : State) (rest : List ℕ) (cause : Cause) (place : ℕ) → is_over s.phase ≡ false → step side homes frames fetch requests room total s rest ≡ Stops cause place →
      (first (tests_of side homes frames fetch requests room s total rest (found rest)) ≡ Faulty cause) × (place ≡ place_of cause total (total - length rest))
  unfolding step
  step_stops s rest cause place over h =
      stopped s rest cause place (found rest) (first (tests_of side homes frames fetch requests room s total rest (found rest))) refl (rw (sym (tests_before s rest s.phase (found rest) over)) h)

  -- past the end: refused exactly if something is left
  pub over_refuses : (n : ℕ) (s : State) (rest : List ℕ) (cause : Cause) (place : ℕ) → is_over s.phase ≡ true → length rest < n → (run side homes frames fetch requests room n total s rest).answer ≡ Refused cause place →
      (0 < length rest) × (place ≡ total - length rest) × (cause ≡ cond (within_limit total (total - length rest) 1) Verdict.OutOfPlace Verdict.OverLimit) × ((run side homes frames fetch requests room n total s rest).records ≡ s.records)
  over_refuses zero s rest cause place over l h = absurd (omega arith)
  over_refuses (suc n) s [] cause place over l h = let e = ap (λ (o : Outcome). o.answer) (over_ends n s over) in absurd (cc)
  over_refuses (suc n) s (b ∷ rest) cause place over l h =
      let e = over_run n s b rest over in
      let k : Refused (cond (within_limit total (total - length (b ∷ rest)) 1) Verdict.OutOfPlace Verdict.OverLimit) (total - length (b ∷ rest)) ≡ Refused cause place = sym (ap (λ (o : Outcome). o.answer) e) ∙ h in
      (omega arith, cc, cc, ap (λ (o : Outcome). o.records) e)

  -- the first test that fails stops the turn
  pub stops_step : (s : State) (rest : List ℕ) (cause : Cause) → is_over s.phase ≡ false → first (tests_of side homes frames fetch requests room s total rest (found rest)) ≡ Faulty cause →
      step side homes frames fetch requests room total s rest ≡ Stops cause (place_of cause total (total - length rest))
  unfolding step
  stops_step s rest cause over h = rw (tests_before s rest s.phase (found rest) over) (rw h)

  -- past the end with something left
  pub over_stops : (n : ℕ) (s : State) (rest : List ℕ) → is_over s.phase ≡ true → length rest < n → 0 < length rest →
      run side homes frames fetch requests room n total s rest ≡ refused s (cond (within_limit total (total - length rest) 1) Verdict.OutOfPlace Verdict.OverLimit) (total - length rest)
  over_stops zero s rest over l m = absurd (omega arith)
  over_stops (suc n) s [] over l m = absurd (omega arith)
  over_stops (suc n) s (b ∷ rest) over l m = over_run n s b rest over
