-- Commands one after the other, as the loop takes them. Assumes nothing.
use Rattle.std.proofs.Common.{◌≡◌, ℕ, suc, ◌≤◌, ◌<◌, Bool, true, false, ◌&&◌, List, [], ◌∷◌, length, get_or, Ok, Err, Result, sym, refl, ap, ◌∙◌, subst, arith}
use Rattle.std.specs.Prelude.{◌==◌}
use Rattle.std.proofs.lemmas.Bool.{eqb-true}
use Rattle.model.specs.Sheet.{Sheet}
use Rattle.model.specs.Timetable.{Side, Plan}
use Rattle.model.specs.declared.Mark.TheVariants.{Away}
use Rattle.model.specs.Verdict.{is_over, is_here_at, State, begin, Turn, Goes, Stops, finished, accepted, Outcome, Accepted, refused, verdict}
use Rattle.model.specs.Mirror.{picked, closing}
use Rattle.model.proofs.Closed.{closes_as}
use Rattle.model.proofs.Comes.{Comes, comes_first}
use Rattle.model.proofs.Turns.{run_goes, run_stops, run_finishes}
use Rattle.plan.specs.declared.counts.Counts.{Counts}
use Rattle.plan.specs.Numbers.{PlanFault}
use Rattle.sheet.specs.Sheets.{meant}
use Rattle.sheet.specs.declared.view.Sheet.{Sheet as Lent}
use Rattle.plan.specs.Checks.{outcome_of, WrittenFor}
use Rattle.plan.proofs.Exactness.{rack_fit}
use Rattle.plan.specs.Steps.{step_for, run_for, verdict_for, step_answer, step_left}

pub went : (t : Turn) (s u : State) (more : List ℕ) → Ok more ≡ step_answer t → u ≡ step_left s t → t ≡ Goes u more
went (Goes v r) s u more e f = cc
went (Stops c p) s u more e f = cc

halted : (t : Turn) (f : PlanFault) → Err f ≡ step_answer t → t ≡ Stops f.cause f.place
halted (Goes v r) f e = cc
halted (Stops c p) f e = let same : f ≡ record { cause = c; place = p } = cc in ap (λ (x : PlanFault). Stops x.cause x.place) (sym same)

module _ (side : Side) (sheet : Sheet) (room n total : ℕ) (s : State) (rest : List ℕ) (o : Outcome) (is : run_for side sheet room (suc n) total s rest ≡ o) where
  pub goes_on : (u : State) (more : List ℕ) → length rest ≤ n → finished s rest ≡ false → Ok more ≡ step_answer (step_for side sheet room total s rest) → u ≡ step_left s (step_for side sheet room total s rest) → run_for side sheet room (suc n) total u more ≡ o
  goes_on u more l open' e f =
      sym (run_goes side sheet.rack.homes sheet.rack.frames sheet.rack.fetch sheet.requests room total n s rest u more l open' (went (step_for side sheet room total s rest) s u more e f)) ∙ is

  pub stops_here : (f : PlanFault) → finished s rest ≡ false → Err f ≡ step_answer (step_for side sheet room total s rest) → (refused s f.cause f.place ≡ o) × (step_left s (step_for side sheet room total s rest) ≡ s)
  stops_here f open' e =
      let stop = halted (step_for side sheet room total s rest) f e in
      (sym (run_stops side sheet.rack.homes sheet.rack.frames sheet.rack.fetch sheet.requests room total n s rest f.cause f.place open' stop) ∙ is, ap (step_left s) stop)

  pub ends_here : finished s rest ≡ true → accepted s ≡ o
  ends_here e = sym (run_finishes side sheet.rack.homes sheet.rack.frames sheet.rack.fetch sheet.requests room total n s rest e) ∙ is

pub begins : (side : Side) (sheet : Sheet) (room : ℕ) (bytes : List ℕ) → run_for side sheet room (suc (length bytes)) (length bytes) begin bytes ≡ verdict_for side sheet room bytes
unfolding verdict
begins side sheet room bytes = refl

-- Where reading begins, and what is here where it ends.

pub comes_at : (side : Side) (sheet : Sheet) (room : ℕ) (bytes : List ℕ) (s : State) (rest : List ℕ) → s ≡ begin → rest ≡ bytes → Comes side sheet.rack.homes sheet.rack.frames sheet.rack.fetch sheet.requests room bytes s rest
comes_at side sheet room bytes s rest e f =
    subst (λ (t : State). Comes side sheet.rack.homes sheet.rack.frames sheet.rack.fetch sheet.requests room bytes t rest) (sym e)
    (subst (λ (more : List ℕ). Comes side sheet.rack.homes sheet.rack.frames sheet.rack.fetch sheet.requests room bytes begin more) (sym f)
    (comes_first side sheet.rack.homes sheet.rack.frames sheet.rack.fetch sheet.requests room bytes))

pub closes : (side : Side) (sheet : Lent) (room : ℕ) (bytes : List ℕ) → ((i : ℕ) → i < length bytes → get_or bytes i 0 < 256) → (plan : Plan) → WrittenFor side (meant sheet) bytes plan → length plan.exchanges ≤ room →
    (s : State) (rest : List ℕ) → Comes side (meant sheet).rack.homes (meant sheet).rack.frames (meant sheet).rack.fetch (meant sheet).requests room bytes s rest → finished s rest ≡ true →
    picked (λ b. is_here_at (get_or s.marks b (Away 0)) s.boundary) (length (meant sheet).rack.homes) ≡ closing (length (meant sheet).rack.homes) (meant sheet).rack.fetch plan
closes side sheet room bytes small plan w few s rest come done =
    let none : rest ≡ [] = empty rest (eqb-true (length rest) 0 (second (is_over s.phase) (length rest == 0) done)) in
    let m = meant sheet in
    closes_as side m.rack.homes m.rack.frames m.rack.fetch m.requests room (rack_fit sheet.rack.now) bytes small plan w few s
    (subst (λ (more : List ℕ). Comes side m.rack.homes m.rack.frames m.rack.fetch m.requests room bytes s more) none come) (first-of (is_over s.phase) (length rest == 0) done)
  where
    empty : (xs : List ℕ) → length xs ≡ 0 → xs ≡ []
    empty [] e = refl
    empty (x ∷ xs) e = absurd (omega arith)

    first-of : (a b : Bool) → a && b ≡ true → a ≡ true
    first-of a b e = grind arith

    second : (a b : Bool) → a && b ≡ true → b ≡ true
    second a b e = grind arith

-- What the loop answers.

pub answers_ok : (c : Counts) (s : State) (o : Outcome) → c.steps ≡ s.boundary → c.waits ≡ s.waits → c.exchanges ≡ length s.records → accepted s ≡ o → outcome_of (Ok c) s.records ≡ o
answers_ok c s o a b d e = (λ i. record { answer = Accepted (a i) (b i) (d i); records = s.records }) ∙ e

pub answers_err : (r : Result Counts PlanFault) (g f : PlanFault) (s t : State) (o : Outcome) → r ≡ Err g → g ≡ f → t ≡ s → refused s f.cause f.place ≡ o → outcome_of r t.records ≡ o
answers_err r g f s t o e same is h = rw (e, same) (ap (λ (u : State). outcome_of (Err f) u.records) is ∙ h)
