-- Boundary after boundary a course comes to the end of the model's pass. Assumes nothing.
use Rattle.std.proofs.Common.{◌≡◌, ℕ, zero, suc, ◌+◌, ◌-◌, ◌*◌, ◌<◌, ◌≤◌, Bool, List, [], length, sym, refl, ap, ◌∙◌, subst, arith}
use Rattle.std.proofs.Math.Nat.{mul-le-mul_right}
use Rattle.std.proofs.lemmas.Bool.{eq-eqb, ne_eqb}
use Rattle.model.specs.declared.Exchange.{Exchange}
use Rattle.model.specs.Pass as subject
use Rattle.model.specs.Pass.{runs, passed, plan_from}
use Rattle.model.specs.PassLaws.{Playable, FitOpening, plan_over}
use Rattle.model.specs.Rules.{Rule, NeedLaw}
use Rattle.model.specs.Sheet.{Sheet}
use Rattle.model.specs.Timetable.{Side, Act}
use Rattle.model.specs.Verdict.{begin}
use Rattle.model.proofs.Passing.{pass_ended}
use Rattle.plan.specs.Headings.{side_of}
use Rattle.plan.specs.declared.side.Heading.{Heading}
use Rattle.plan.proofs.Exactness.{rack_fit}
use Rattle.sheet.specs.Sheets.{meant}
use Rattle.sheet.specs.declared.view.Sheet.{Sheet as Lent}
use Rattle.sheet.proofs.Known.{known, few}
use Rattle.planner.proofs.Placing.{opens_placed}
use Rattle.planner.specs.Asked.{turn_for, opens_for}
use Rattle.planner.specs.Boards.{Stands}
use Rattle.planner.specs.Courses.{At, Turns}
use Rattle.planner.specs.declared.course.Course.{Course}

abbrev pub runs_for : Side → Sheet → Rule → ℕ → subject.Course → subject.Course
runs_for side sheet rule n c = runs side sheet.rack.homes sheet.rack.frames sheet.rack.fetch sheet.requests rule n c

-- the end of the pass
abbrev pub passed_for : Side → Sheet → Rule → List ℕ → subject.Course
passed_for side sheet rule o = passed side sheet.rack.homes sheet.rack.frames sheet.rack.fetch sheet.requests rule o

-- its steps, at most
abbrev pub fuel_for : Sheet → ℕ
fuel_for sheet = 2 * sheet.rack.fetch * length sheet.requests

run_on : (side : Side) (sheet : Sheet) (rule : Rule) (n : ℕ) (c : subject.Course) → (c.state.position ≡ length sheet.requests → ⊥) → runs_for side sheet rule (suc n) c ≡ runs_for side sheet rule n (turn_for side sheet rule c)
unfolding runs
run_on side sheet rule n c l = ap (λ (x : Bool). runs_for side sheet rule n (subject.next_by side sheet.rack.homes sheet.rack.frames sheet.rack.fetch sheet.requests rule x c)) (ne_eqb c.state.position (length sheet.requests) l)

run_over : (side : Side) (sheet : Sheet) (rule : Rule) (n : ℕ) (c : subject.Course) → c.state.position ≡ length sheet.requests → runs_for side sheet rule n c ≡ c
unfolding runs
run_over side sheet rule zero c e = refl
run_over side sheet rule (suc n) c e =
    ap (λ (x : Bool). runs_for side sheet rule n (subject.next_by side sheet.rack.homes sheet.rack.frames sheet.rack.fetch sheet.requests rule x c)) (eq-eqb c.state.position (length sheet.requests) e) ∙ run_over side sheet rule n c e

run_none : (side : Side) (sheet : Sheet) (rule : Rule) (c : subject.Course) → runs_for side sheet rule 0 c ≡ c
unfolding runs
run_none side sheet rule c = refl

-- A course under way: it is at a course of the model, from which as many turns as are left lead to the end of the pass.
pub record UnderWay (heading : Heading) (sheet : Lent) (rule : Rule) (o : List ℕ) (k : Course) (holds : List Exchange → List Act → Type 0) : Type 0 where
  pub heads : k.heading ≡ heading
  pub plans : k.sheet ≡ sheet
  pub course : subject.Course
  pub fuel : ℕ
  pub enough : k.board.boundary + fuel ≡ fuel_for (meant sheet)
  pub at : At k holds course
  pub leads : runs_for (side_of heading) (meant sheet) rule fuel course ≡ passed_for (side_of heading) (meant sheet) rule o

module _ (heading : Heading) (sheet : Lent) (rule : Rule) (law : NeedLaw rule) (o : List ℕ) (fit : FitOpening (meant sheet).rack.homes (meant sheet).rack.frames o) where
  plays : Playable (meant sheet).rack.homes (meant sheet).rack.frames (meant sheet).rack.fetch (meant sheet).requests
  plays = record { rack = rack_fit sheet.rack.now; some = sheet.rack.now.fits.frames.0; enough = sheet.rack.now.fits.blocks.0; known = known sheet }

  all_served : (passed_for (side_of heading) (meant sheet) rule o).state.position ≡ length (meant sheet).requests
  all_served = (pass_ended (side_of heading) (meant sheet).rack.homes (meant sheet).rack.frames (meant sheet).rack.fetch (meant sheet).requests rule o plays law fit).all

  pub fuel_few : fuel_for (meant sheet) < 1_048_576
  fuel_few =
      let n = length (meant sheet).requests in
      let a : 2 * (meant sheet).rack.fetch * n ≤ 128 * n = mul-le-mul_right n (omega (arith, sheet.rack.now.fits.fetch.1)) in
      omega (arith, few sheet)

  pub sets_out : (k : Course) (holds : List Exchange → List Act → Type 0) → k.heading ≡ heading → k.sheet ≡ sheet → k.board.boundary ≡ 0 → Stands k.board (opens_for (side_of heading) (meant sheet) o) → holds [] [] → UnderWay heading sheet rule o k holds
  unfolding passed
  sets_out k holds e f t s h = record {
    heads = e;
    plans = f;
    course = record { state = opens_for (side_of heading) (meant sheet) o; acts = [] };
    fuel = fuel_for (meant sheet);
    enough = omega arith;
    at = record { stands = s; steps = sym t; held = subst (λ (xs : List Exchange). holds xs []) (sym (opens_placed (side_of heading) (meant sheet) o begin).records) h };
    leads = refl;
  }

  -- where requests are left, so are turns
  pub goes_on : (k : Course) (holds : List Exchange → List Act → Type 0) (w : UnderWay heading sheet rule o k holds) → k.board.position < length (meant sheet).requests → 0 < w.fuel
  goes_on k holds w l = go w.fuel w.leads
    where
      go : (n : ℕ) → runs_for (side_of heading) (meant sheet) rule n w.course ≡ passed_for (side_of heading) (meant sheet) rule o → 0 < n
      go zero e = absurd (omega (arith, all_served, ap (λ (c : subject.Course). c.state.position) (sym (run_none (side_of heading) (meant sheet) rule w.course) ∙ e), w.at.stands.position))
      go (suc n) e = omega arith

  pub turns_on : (k m : Course) (held holds : List Exchange → List Act → Type 0) → UnderWay heading sheet rule o k held → k.board.position < length (meant sheet).requests → Turns k m (λ side s c. turn_for side s rule c) held holds → UnderWay heading sheet rule o m holds
  turns_on k m held holds w l t = go w.fuel w.enough w.leads (goes_on k held w l)
    where
      next : At m holds (turn_for (side_of heading) (meant sheet) rule w.course)
      next =
          subst (λ (x : Heading). At m holds (turn_for (side_of x) (meant sheet) rule w.course)) w.heads
          (subst (λ (x : Lent). At m holds (turn_for (side_of k.heading) (meant x) rule w.course)) w.plans (t.comes w.course w.at))

      go : (n : ℕ) → k.board.boundary + n ≡ fuel_for (meant sheet) → runs_for (side_of heading) (meant sheet) rule n w.course ≡ passed_for (side_of heading) (meant sheet) rule o → 0 < n → UnderWay heading sheet rule o m holds
      go zero e f p = absurd (omega arith)
      go (suc n) e f p = record {
        heads = t.heading ∙ w.heads;
        plans = t.sheet ∙ w.plans;
        course = turn_for (side_of heading) (meant sheet) rule w.course;
        fuel = n;
        enough = omega (arith, t.boundary);
        at = next;
        leads = sym (run_on (side_of heading) (meant sheet) rule n w.course (λ i. omega (arith, w.at.stands.position))) ∙ f;
      }

  pub arrives : (k : Course) (holds : List Exchange → List Act → Type 0) → UnderWay heading sheet rule o k holds → k.board.position ≡ length (meant sheet).requests →
      holds (plan_over (side_of heading) (meant sheet) rule o).exchanges (plan_over (side_of heading) (meant sheet) rule o).acts
  unfolding plan_from
  arrives k holds w e =
      let c : w.course ≡ passed_for (side_of heading) (meant sheet) rule o = sym (run_over (side_of heading) (meant sheet) rule w.fuel w.course (w.at.stands.position ∙ e)) ∙ w.leads in
      subst (λ (x : subject.Course). holds x.state.records x.acts) c w.at.held

  -- a turn is within the limit of steps, and leaves fewer
  pub in_time : (k : Course) (holds : List Exchange → List Act → Type 0) → UnderWay heading sheet rule o k holds → k.board.position < length (meant sheet).requests → k.board.boundary < fuel_for (meant sheet)
  in_time k holds w l = omega (arith, goes_on k holds w l, w.enough)

pub fewer : (n a b : ℕ) → b ≡ a + 1 → a < n → n - b < n - a
fewer n a b e l = omega arith
