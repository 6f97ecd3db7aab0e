-- One command of a plan, as the track takes it: what it answers and what it leaves. Assumes nothing.
use Rattle.std.proofs.Common.{◌≡◌, ℕ, ◌+◌, ◌-◌, ◌<◌, ◌≤◌, List, length, drop, Ok, Err, Result, IsErrAnd, sym, ap, ◌∙◌, arith, length-drop}
use Rattle.std.proofs.lemmas.Result.{err_from_is_err_and}
use Rattle.model.specs.PlanBytes.{plan_limit}
use Rattle.model.specs.Sheet.{Sheet}
use Rattle.model.specs.Timetable.{Side}
use Rattle.model.specs.declared.Cause.{Cause}
use Rattle.model.specs.declared.Command.{Command}
use Rattle.model.specs.declared.Command.TheVariants.{Opens, Trades, Serves, Waits, Ends}
use Rattle.model.specs.Verdict.{State, size}
use Rattle.plan.specs.Numbers.{PlanFault}
use Rattle.plan.specs.Admitted.{admitted_of, told_of}
use Rattle.plan.specs.Steps.{step_for, step_answer, step_left, stepped}
use Rattle.plan.specs.Tracks.{finding, answered, left_for}
use Rattle.plan.specs.declared.reader.PlanReader.{PlanReader}
use Rattle.plan.proofs.Stepped.{refused, lets, goes, faults, small, one_step}

some_bytes : (c : Command) → 1 ≤ size c
some_bytes (Opens b) = omega arith
some_bytes (Trades b o) = omega arith
some_bytes Serves = omega arith
some_bytes Waits = omega arith
some_bytes Ends = omega arith

told_so : (a : Result PlanReader PlanFault) (f : PlanFault) → IsErrAnd a (λ y. y ≡ f) → stepped a ≡ Err f
told_so a f is = let told = err_from_is_err_and a is in ap stepped told.1 ∙ ap Err told.2

module _ (side : Side) (sheet : Sheet) (room total : ℕ) (s : State) (rest : List ℕ) (r : Result Command Cause) (admitted : r ≡ admitted_of s.phase total rest) where
  -- a command that is not admitted
  module _ (f : PlanFault) (told : Err f ≡ told_of total (total - length rest) r) where
    pub strange_answer : (a : Result PlanReader PlanFault) → IsErrAnd a (λ y. y ≡ f) → stepped a ≡ step_answer (step_for side sheet room total s rest)
    strange_answer a is = told_so a f is ∙ sym (ap step_answer (refused side sheet room total s rest r f admitted told))

    pub strange_after : s ≡ step_left s (step_for side sheet room total s rest)
    strange_after = sym (ap (step_left s) (refused side sheet room total s rest r f admitted told))

  module _ (c : Command) (told : Ok c ≡ told_of total (total - length rest) r) where
    pub in_limit : s.boundary + length rest ≤ total → s.boundary < plan_limit
    in_limit few =
        let known = lets side sheet room total s rest r c admitted told in
        small total (total - length rest) (size c) s.boundary known.within (some_bytes c) (omega (arith, few)) (omega (arith, few, known.there))

    module _ (u : Result (Unit {0}) Cause) (judged : u ≡ answered (finding side sheet room s c)) (t : State) (left : t ≡ left_for side sheet room s c) where
      -- one that its own tests refuse
      module _ (f : PlanFault) (fault : Err f ≡ told_of total (total - length rest) u) where
        pub faulty_answer : (a : Result PlanReader PlanFault) → IsErrAnd a (λ y. y ≡ f) → stepped a ≡ step_answer (step_for side sheet room total s rest)
        faulty_answer a is = told_so a f is ∙ sym (ap step_answer (faults side sheet room total s rest c (lets side sheet room total s rest r c admitted told) u judged t left f fault).0)

        pub faulty_after : t ≡ step_left s (step_for side sheet room total s rest)
        faulty_after = let stop = faults side sheet room total s rest c (lets side sheet room total s rest r c admitted told) u judged t left f fault in stop.1 ∙ sym (ap (step_left s) stop.0)

      -- one that passes
      module _ (passed : Ok tt ≡ told_of total (total - length rest) u) where
        pub clean_answer : (more : List ℕ) → more ≡ drop (size c) rest → Ok more ≡ step_answer (step_for side sheet room total s rest)
        clean_answer more past = ap Ok past ∙ sym (ap step_answer (goes side sheet room total s rest c (lets side sheet room total s rest r c admitted told) u judged t left passed).0)

        pub clean_after : t ≡ step_left s (step_for side sheet room total s rest)
        clean_after = let on = goes side sheet room total s rest c (lets side sheet room total s rest r c admitted told) u judged t left passed in on.1 ∙ sym (ap (step_left s) on.0)

        pub shorter : s.boundary + length rest ≤ total → (more : List ℕ) → more ≡ drop (size c) rest → (length more < length rest) × (t.boundary + length more ≤ total)
        shorter few more past =
            let known = lets side sheet room total s rest r c admitted told in
            let on = goes side sheet room total s rest c known u judged t left passed in
            let count = ap length past ∙ length-drop (size c) rest in
            let step = ap (λ (v : State). v.boundary) on.1 in
            (omega (arith, count, known.there, some_bytes c), omega (arith, step, one_step side sheet room s c, count, known.there, some_bytes c, few))
