-- Where blocks are when a plan has been read to its end: those marked as here are its closing content.
use Rattle.std.proofs.Common.{◌≡◌, ℕ, ◌≤◌, true, ◌⊎◌, List, [], ◌++◌, length, drop, get_or, sym, refl, ap, ◌∙◌, subst, inl, inr, arith}
use Rattle.std.proofs.lemmas.List.{append-nil}
use Rattle.model.specs.Timetable.{Side, Plan, left}
use Rattle.model.specs.PlanBytes.{Ends, plan_bytes}
use Rattle.model.specs.Mirror.{picked, closing}
use Rattle.model.specs.Verdict.{Outcome, Away, is_here_at, is_over, State, after, verdict}
use Rattle.model.specs.Statements.{Fit, WrittenBy, plan_outcome}
use Rattle.model.proofs.Reading.{Bytes}
use Rattle.model.proofs.Comes.{Comes, comes_once}
use Rattle.model.proofs.Turns.{over_accepts}
use Rattle.model.proofs.Progress.{Tells, tells_ends}
use Rattle.model.proofs.Accepts.{StoppedAt, EndedAt, reads_bytes, ended_plan, ended_keeps, ended_read}
use Rattle.model.proofs.Marks.{MarkIs, goings, early_before, out_of}
use Rattle.model.proofs.MirrorWriting.{closing_marks}
use Rattle.model.proofs.Once.{one_plan, keeps_form}
use Rattle.model.proofs.Written.{written_accepted}

module _ (side : Side) (homes : List ℕ) (frames fetch : ℕ) (requests : List ℕ) (room : ℕ) (fit : Fit homes fetch) (bytes : List ℕ) (small : Bytes bytes)
    (plan : Plan) (w : WrittenBy side homes frames fetch requests bytes plan) (few : length plan.exchanges ≤ room) where
  abbrev out : Outcome
  out = verdict side homes frames fetch requests room bytes

  accepts : out ≡ plan_outcome plan
  accepts = written_accepted side homes frames fetch requests room bytes plan fit w few

  ended_over : (u : State) → is_over (after side homes frames fetch requests room u Ends).phase ≡ true
  unfolding after
  ended_over u = refl

  -- the state in which reading ends tells the plan
  ends_as : (s : State) → Comes side homes frames fetch requests room bytes s [] → is_over s.phase ≡ true → Tells side homes fetch plan.opening plan.acts plan.exchanges s
  ends_as s come over = go (reads_bytes side homes frames fetch requests room fit bytes small out refl)
    where
      go : StoppedAt side homes frames fetch requests room bytes out ⊎ EndedAt side homes frames fetch requests room bytes out → Tells side homes fetch plan.opening plan.acts plan.exchanges s
      go (inl e) = let f = ap (λ (u : Outcome). u.answer) e.said in let g = ap (λ (u : Outcome). u.answer) accepts in absurd (cc)
      go (inr e) =
          let v = over_accepts side homes frames fetch requests room (length bytes) e.n (after side homes frames fetch requests room e.s Ends) (drop 1 e.rest) _ _ _ (ended_over e.s) (ap (λ (u : Outcome). u.answer) (e.said ∙ accepts)) in
          let keeps = ended_keeps side homes frames fetch requests room bytes out e in
          let p : Plan = ended_plan side homes frames fetch requests room bytes out e in
          let written : bytes ≡ plan_bytes p = ended_read side homes frames fetch requests room bytes out e ∙ (ap (λ (ys : List ℕ). plan_bytes p ++ ys) v.0 ∙ append-nil (plan_bytes p)) in
          let same : p ≡ plan = one_plan p plan (keeps_form side homes frames fetch requests p fit.lasts keeps) (keeps_form side homes frames fetch requests plan fit.lasts w.keeps) (sym written ∙ w.written) in
          let t = tells_ends side homes frames fetch requests room fit e.o e.a e.xs e.s e.tells_it in
          let one : after side homes frames fetch requests room e.s Ends ≡ s = comes_once side homes frames fetch requests room bytes (after side homes frames fetch requests room e.s Ends) s _ [] e.come come (ended_over e.s) over in
          subst (λ (q : Plan). Tells side homes fetch q.opening q.acts q.exchanges s) same (subst (λ (u : State). Tells side homes fetch e.o e.a e.xs u) one t)

  -- the blocks that are here in it are the closing content, and it stands at the last boundary
  pub closes_as : (s : State) → Comes side homes frames fetch requests room bytes s [] → is_over s.phase ≡ true →
      picked (λ b. is_here_at (get_or s.marks b (Away 0)) s.boundary) (length homes) ≡ closing (length homes) fetch plan
  closes_as s come over =
      let t = ends_as s come over in
      let T : ℕ = length plan.acts in
      let gone : (b : ℕ) → left plan.exchanges b T ≡ goings plan.exchanges b = λ b. early_before out_of plan.exchanges b T (λ j l. omega (arith, w.keeps.all_land j l)) (λ j l e f. omega (arith, w.keeps.all_land j l, fit.lasts)) in
      ap (λ (u : ℕ). picked (λ b. is_here_at (get_or s.marks b (Away 0)) u) (length homes)) t.boundary
      ∙ closing_marks (length homes) fetch plan s.marks gone (λ b l. subst (λ (u : ℕ). MarkIs fetch plan.opening plan.exchanges u b (get_or s.marks b (Away 0))) t.boundary (t.marks b))
