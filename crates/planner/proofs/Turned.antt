-- A boundary and its step, from what starts and what the step does. Assumes nothing.
use Rattle.std.proofs.Common.{◌≡◌, ℕ, ◌+◌, Bool, true, false, List, [], ◌∷◌, ◌++◌, length, sym, ap, ◌∙◌, subst, arith}
use Rattle.std.proofs.lemmas.List.{length_push}
use Rattle.model.specs.declared.Exchange.{Exchange}
use Rattle.model.specs.Pass as subject
use Rattle.model.specs.Pass.{turn}
use Rattle.model.specs.Rules.{Rule}
use Rattle.model.specs.Sheet.{Sheet}
use Rattle.model.specs.Timetable.{Side, Act}
use Rattle.model.specs.Verdict.{State, after}
use Rattle.plan.specs.Headings.{side_of}
use Rattle.plan.specs.declared.side.Heading.{Heading}
use Rattle.sheet.specs.Sheets.{meant}
use Rattle.sheet.specs.declared.view.Sheet.{Sheet as Lent}
use Rattle.planner.specs.Asked.{act_of, all_for, can_serve_for, turn_for}
use Rattle.planner.specs.Boards.{Stands}
use Rattle.planner.specs.Courses.{Asks, Steps, At, Turns}
use Rattle.planner.specs.declared.course.Course.{Course}

abbrev steps_for : Side → Sheet → Bool → State → List Act → subject.Course
steps_for side sheet t s acts = subject.steps side sheet.rack.homes sheet.rack.frames sheet.rack.fetch sheet.requests t s acts

stepped : (side : Side) (sheet : Sheet) (m n : Course) (holds : List Exchange → List Act → Type 0) (s : State) (acts : List Act) (t : Bool) → Stands m.board s → length acts ≡ m.board.boundary → Steps m n t → holds s.records (acts ++ (act_of t ∷ [])) →
    At n holds (steps_for side sheet t s acts)
unfolding after
stepped side sheet m n holds s acts true h l k e = record {
  stands = record {
    position = omega (arith, h.position, k.position);
    boundary = omega (arith, h.boundary, k.boundary);
    marks = h.marks ∙ ap (λ p. p.marks) (sym k.places);
    idle = h.idle ∙ ap (λ p. p.idle) (sym k.places);
  };
  steps = omega (arith, length_push acts (act_of true), l, k.boundary);
  held = e;
}
stepped side sheet m n holds s acts false h l k e = record {
  stands = record {
    position = omega (arith, h.position, k.position);
    boundary = omega (arith, h.boundary, k.boundary);
    marks = h.marks ∙ ap (λ p. p.marks) (sym k.places);
    idle = h.idle ∙ ap (λ p. p.idle) (sym k.places);
  };
  steps = omega (arith, length_push acts (act_of false), l, k.boundary);
  held = e;
}

pub turned : (o m n : Course) (rule : Rule) (held some holds : List Exchange → List Act → Type 0) (t : Bool) → Asks o m (λ side sheet s. all_for side sheet rule s) held some →
    ((s : State) → Stands m.board s → t ≡ can_serve_for (side_of m.heading) (meant m.sheet) s) → Steps m n t → ((xs : List Exchange) (acts : List Act) → some xs acts → holds xs (acts ++ (act_of t ∷ []))) →
    Turns o n (λ side sheet c. turn_for side sheet rule c) held holds
unfolding turn
turned o m n rule held some holds t a f k g = record {
  heading = k.heading ∙ a.heading;
  sheet = k.sheet ∙ a.sheet;
  boundary = k.boundary ∙ ap (λ (x : ℕ). x + 1) a.boundary;
  comes = comes;
}
  where
    serves : (s : State) → Stands m.board s → t ≡ can_serve_for (side_of o.heading) (meant o.sheet) s
    serves s h =
        subst (λ (x : Heading). t ≡ can_serve_for (side_of x) (meant o.sheet) s) a.heading
        (subst (λ (x : Lent). t ≡ can_serve_for (side_of m.heading) (meant x) s) a.sheet (f s h))

    comes : (c : subject.Course) → At o held c → At n holds (turn_for (side_of o.heading) (meant o.sheet) rule c)
    comes c h =
        let side = side_of o.heading in
        let sheet = meant o.sheet in
        let s = all_for side sheet rule c.state in
        let stands = a.stands c.state h.stands in
        let taken = a.taken c.state c.acts h.stands h.steps h.held in
        subst (λ (x : Bool). At n holds (steps_for side sheet x s c.acts)) (serves s stands)
        (stepped side sheet m n holds s c.acts t stands (h.steps ∙ sym a.boundary) k (g s.records c.acts taken))
