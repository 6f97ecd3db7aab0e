-- One command judged: what its being admitted gives. Assumes nothing.
use Rattle.std.proofs.Common.{◌≡◌, ℕ, ◌+◌, ◌-◌, ◌<◌, ◌≤◌, Bool, true, false, cond, leb, List, [], ◌∷◌, length, drop, Ok, Err, Result, sym, refl, ap, ◌∙◌, subst, arith}
use Rattle.std.proofs.lemmas.Bool.{leb-true}
use Rattle.std.proofs.lemmas.Bool.Decides.{nat_tests}
use Rattle.model.specs.PlanBytes.{plan_limit}
use Rattle.model.specs.Sheet.{Sheet}
use Rattle.model.specs.Timetable.{Side}
use Rattle.model.specs.declared.Cause.{Cause}
use Rattle.model.specs.declared.Cause.TheVariants.{RunsOut, OutOfPlace, OverLimit}
use Rattle.model.specs.declared.Command.{Command}
use Rattle.model.specs.declared.Command.TheVariants.{Opens, Trades, Serves, Waits, Ends}
use Rattle.model.specs.declared.Phase.{Phase}
use Rattle.model.specs.declared.Phase.TheVariants.{Filling, Standing, Starting, Over}
use Rattle.model.specs.Verdict.{State, Found, Missing, Strange, Known, found, Test, test, Finding, first, Turn, Goes, Stops, turn_by, tests_at, tests_of, size, in_place, is_over, within_limit, place_of, step, after}
use Rattle.plan.specs.Numbers.{PlanFault}
use Rattle.plan.specs.Admitted.{stray, admit_found, admitted_of, told_of}
use Rattle.plan.specs.Steps.{step_for}
use Rattle.plan.specs.Tracks.{tests_for, after_for, finding, answered, left_by, left_for}
use Rattle.plan.proofs.Traded.{faulty_by, clean_by}

-- An answer with its place, taken apart.

told_err : {T : Type 0} (total place : ℕ) (r : Result T Cause) (f : PlanFault) → Err f ≡ told_of total place r → (x : Cause) × (r ≡ Err x) × (f ≡ record { cause = x; place = place_of x total place })
told_err total place (Ok y) f e = cc
told_err total place (Err x) f e = (x, refl, cc)

told_ok : {T : Type 0} (total place : ℕ) (r : Result T Cause) (y : T) → Ok y ≡ told_of total place r → r ≡ Ok y
told_ok total place (Ok x) y e = cc
told_ok total place (Err x) y e = cc

module _ (side : Side) (sheet : Sheet) (room total : ℕ) (s : State) (rest : List ℕ) where
  abbrev turned : Found → Finding → Turn
  turned f g = turn_by side sheet.rack.homes sheet.rack.frames sheet.rack.fetch sheet.requests room s total rest f g

  abbrev stopped : Cause → Turn
  stopped x = Stops x (place_of x total (total - length rest))

  stopped_at : (x : Cause) (f : PlanFault) → f ≡ record { cause = x; place = place_of x total (total - length rest) } → stopped x ≡ Stops f.cause f.place
  stopped_at x f e = ap (λ (g : PlanFault). Stops g.cause g.place) (sym e)

  -- what follows from an admission
  pub record Lets (t : Turn) (c : Command) : Type 0 where
    pub judged : t ≡ turned (Known c) (first (tests_for side sheet room s c))
    pub there : size c ≤ length rest
    pub within : within_limit total (total - length rest) (size c) ≡ true

  abbrev Gives : Turn → Result Command Cause → Type 0
  Gives t (Err x) = t ≡ stopped x
  Gives t (Ok c) = Lets t c

  strays : (f : Found) (b : Bool) → turned f (first (test b OverLimit ∷ test false OutOfPlace ∷ [])) ≡ stopped (cond b OutOfPlace OverLimit)
  strays f true = refl
  strays f false = refl

  knows : (c : Command) (w i z : Bool) → within_limit total (total - length rest) (size c) ≡ w → leb (size c) (length rest) ≡ z → Gives (turned (Known c) (first (test w OverLimit ∷ test i OutOfPlace ∷ test z RunsOut ∷ tests_for side sheet room s c))) (cond w (cond i (cond z (Ok c) (Err RunsOut)) (Err OutOfPlace)) (Err OverLimit))
  knows c false i z e g = refl
  knows c true false z e g = refl
  knows c true true false e g = refl
  knows c true true true e g = record { judged = refl; there = leb-true (size c) (length rest) g; within = e }

  abbrev tested : Phase → Found → List Test
  tested p f = tests_at side sheet.rack.homes sheet.rack.frames sheet.rack.fetch sheet.requests room s total rest p f

  by_found : (f : Found) → Gives (turned f (first (tests_of side sheet.rack.homes sheet.rack.frames sheet.rack.fetch sheet.requests room s total rest f))) (admit_found s.phase f total (total - length rest) (length rest))
  by_found Missing = refl
  by_found Strange = strays Strange (within_limit total (total - length rest) 1)
  by_found (Known c) = knows c (within_limit total (total - length rest) (size c)) (in_place s.phase c) (leb (size c) (length rest)) refl refl

  by_phase : (p : Phase) (f : Found) → Gives (turned f (first (tested p f))) (cond (is_over p) (Err (stray total (total - length rest))) (admit_found s.phase f total (total - length rest) (length rest)))
  by_phase Filling f = by_found f
  by_phase Standing f = by_found f
  by_phase Starting f = by_found f
  by_phase Over f = strays f (within_limit total (total - length rest) 1)

  gives : Gives (step_for side sheet room total s rest) (admitted_of s.phase total rest)
  unfolding step
  gives = by_phase s.phase (found rest)

  pub refused : (r : Result Command Cause) (f : PlanFault) → r ≡ admitted_of s.phase total rest → Err f ≡ told_of total (total - length rest) r → step_for side sheet room total s rest ≡ Stops f.cause f.place
  refused r f e told =
      let why = told_err total (total - length rest) r f told in
      subst (Gives (step_for side sheet room total s rest)) (sym e ∙ why.1) gives ∙ stopped_at why.0 f why.2

  pub lets : (r : Result Command Cause) (c : Command) → r ≡ admitted_of s.phase total rest → Ok c ≡ told_of total (total - length rest) r → Lets (step_for side sheet room total s rest) c
  lets r c e told = subst (Gives (step_for side sheet room total s rest)) (sym e ∙ told_ok total (total - length rest) r c told) gives

  module _ (c : Command) (h : Lets (step_for side sheet room total s rest) c) (r : Result (Unit {0}) Cause) (e : r ≡ answered (finding side sheet room s c)) (t : State) (left : t ≡ left_for side sheet room s c) where
    pub goes : Ok tt ≡ told_of total (total - length rest) r → (step_for side sheet room total s rest ≡ Goes (after_for side sheet room s c) (drop (size c) rest)) × (t ≡ after_for side sheet room s c)
    goes told =
        let found = clean_by _ (sym (told_ok total (total - length rest) r tt told) ∙ e) in
        (h.judged ∙ ap (turned (Known c)) found, left ∙ ap (left_by s (after_for side sheet room s c)) found)

    pub faults : (f : PlanFault) → Err f ≡ told_of total (total - length rest) r → (step_for side sheet room total s rest ≡ Stops f.cause f.place) × (t ≡ s)
    faults f told =
        let why = told_err total (total - length rest) r f told in
        let found = faulty_by _ why.0 (sym why.1 ∙ e) in
        (h.judged ∙ ap (turned (Known c)) found ∙ stopped_at why.0 f why.2, left ∙ ap (left_by s (after_for side sheet room s c)) found)

-- A command within the limit stands within it.

pub small : (total place n b : ℕ) → within_limit total place n ≡ true → 1 ≤ n → b ≤ place → place + n ≤ total → b < plan_limit
small total place n b e some l k = grind (arith, nat_tests)

-- A command takes at most one step.

pub one_step : (side : Side) (sheet : Sheet) (room : ℕ) (s : State) (c : Command) → (after_for side sheet room s c).boundary ≤ s.boundary + 1
unfolding after
one_step side sheet room s (Opens b) = omega arith
one_step side sheet room s (Trades a b) = omega arith
one_step side sheet room s Serves = omega arith
one_step side sheet room s Waits = omega arith
one_step side sheet room s Ends = omega arith
