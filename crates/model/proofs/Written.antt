-- The bytes of a plan that keeps the model are accepted.
use Rattle.std.proofs.Common.{◌≡◌, ℕ, zero, suc, ◌<◌, ◌≤◌, true, List, [], length, sym, ◌∙◌, arith}
use Rattle.std.proofs.lemmas.List.{append-nil}
use Rattle.model.specs.Timetable.{Side, Plan}
use Rattle.model.specs.PlanBytes.{plan_bytes}
use Rattle.model.specs.Verdict.{State, is_over, run, verdict, accepted}
use Rattle.model.specs.Statements.{Fit, WrittenBy, plan_outcome}
use Rattle.model.proofs.Turns.{over_ends}
use Rattle.model.proofs.Accepts.{accepts_as}
use Rattle.model.proofs.Arrives.{verdict_ends}

pub written_accepted : (side : Side) (homes : List ℕ) (frames fetch : ℕ) (requests : List ℕ) (room : ℕ) (bytes : List ℕ) (plan : Plan) → Fit homes fetch → WrittenBy side homes frames fetch requests bytes plan →
    length plan.exchanges ≤ room → verdict side homes frames fetch requests room bytes ≡ plan_outcome plan
written_accepted side homes frames fetch requests room bytes plan fit w r =
    let p = verdict_ends side homes frames fetch requests room fit bytes plan [] w.keeps r (w.written ∙ sym (append-nil (plan_bytes plan))) (λ l. absurd (omega (arith, w.within))) in
    p.comes ∙ (ended p.n p.s p.over p.enough ∙ accepts_as p.s plan.opening plan.acts plan.exchanges p.tells_it.boundary p.tells_it.waits p.tells_it.records)
  where
    ended : (n : ℕ) (s : State) → is_over s.phase ≡ true → 0 < n → run side homes frames fetch requests room n (length bytes) s [] ≡ accepted s
    ended zero s o l = absurd (omega arith)
    ended (suc n) s o l = over_ends side homes frames fetch requests room (length bytes) n s o
