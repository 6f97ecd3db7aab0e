-- Where a rule is the first broken, the bytes are refused with it; and so refusals come in exactly their cases.
use Rattle.std.proofs.Common.{◌≡◌, ℕ, zero, suc, ◌-◌, ◌<◌, ◌≤◌, Bool, true, false, cond, List, [], ◌∷◌, length, sym, ap, ◌∙◌, subst, inl, inr, arith}
use Rattle.std.specs.List.{flat_map}
use Rattle.std.proofs.lemmas.Bool.{false≢true}
use Rattle.model.specs.Timetable.{Exchange, Act, Side, Plan}
use Rattle.model.specs.PlanBytes.{command_bytes, so_far, plan_bytes, plan_limit}
use Rattle.model.specs.Verdict
use Rattle.model.specs.Verdict.{Cause, OutOfPlace, OverLimit, State, is_over, found, within_limit, tests_of, Stops, place_of, step, run, verdict, refused}
use Rattle.model.specs.Refusals.{FirstBroken, rule, WithinLimit, rules_at, RefusedAt, RefusedAfter}
use Rattle.model.specs.Statements.{Fit, refused_with, RefusesExactly}
use Rattle.model.proofs.Turns.{run_stops, stops_step, over_stops}
use Rattle.model.proofs.Refuses.{broken_first, matches_at, refusals_tell, limit_passes, limit_holds, front_length}
use Rattle.model.proofs.Arrives.{verdict_arrives, verdict_ends}

-- what a stop says, in the terms of the plan so far
stop_says : (s : State) (cause : Cause) (at place : ℕ) (xs : List Exchange) → at ≡ place → s.records ≡ xs → refused s cause at ≡ refused_with cause place xs
stop_says s cause at place xs e f = λ i. record { answer = Verdict.Refused cause (e i); records = f i }

module _ (side : Side) (homes : List ℕ) (frames fetch : ℕ) (requests : List ℕ) (room : ℕ) (fit : Fit homes fetch) (bytes : List ℕ) (cause : Cause) (place : ℕ) where
  at_says : (o : List ℕ) (a : List Act) (xs : List Exchange) (rest : List ℕ) → RefusedAt side homes frames fetch requests room bytes cause place o a xs rest → verdict side homes frames fetch requests room bytes ≡ refused_with cause place xs
  at_says o a xs rest r =
      let pre : List ℕ = flat_map command_bytes (so_far o a xs) in
      let front : length bytes - length rest ≡ length pre = front_length bytes pre rest r.read in
      let short : plan_limit < length bytes → length bytes - length rest ≤ plan_limit = λ l. subst (λ (n : ℕ). n ≤ plan_limit) (sym front) (r.within l) in
      let v = verdict_arrives side homes frames fetch requests room fit bytes o a xs rest r.keeps r.read short in
      let m = matches_at side homes frames fetch requests room fit o a xs v.s v.tells_it (length bytes) (length pre) rest v.before_end front (found rest) in
      let f = broken_first (tests_of side homes frames fetch requests room v.s (length bytes) rest (found rest)) (rules_at side homes frames fetch requests room o a xs (length bytes) (length pre) rest (found rest)) cause m r.broken in
      let e : step side homes frames fetch requests room (length bytes) v.s rest ≡ Stops cause (place_of cause (length bytes) (length bytes - length rest)) = stops_step side homes frames fetch requests room (length bytes) v.s rest cause v.before_end f in
      let there : place_of cause (length bytes) (length bytes - length rest) ≡ place = ap (λ (n : ℕ). place_of cause (length bytes) n) front ∙ sym r.told_at in
      v.comes ∙ (go v.n v.s v.before_end v.enough e ∙ stop_says v.s cause (place_of cause (length bytes) (length bytes - length rest)) place xs there v.tells_it.records)
    where
      go : (n : ℕ) (s : State) → is_over s.phase ≡ false → length rest < n → step side homes frames fetch requests room (length bytes) s rest ≡ Stops cause (place_of cause (length bytes) (length bytes - length rest)) →
          run side homes frames fetch requests room n (length bytes) s rest ≡ refused s cause (place_of cause (length bytes) (length bytes - length rest))
      go zero s over l e = absurd (omega arith)
      go (suc n) s over l e = run_stops side homes frames fetch requests room (length bytes) n s rest cause (place_of cause (length bytes) (length bytes - length rest)) (rw over) e

  after_cause : (total at : ℕ) (b : Bool) → within_limit total at 1 ≡ b → FirstBroken (rule (WithinLimit total at 1) OverLimit ∷ rule ⊥ OutOfPlace ∷ []) cause → cond b OutOfPlace OverLimit ≡ cause
  after_cause total at true e (inl k) = absurd (k.0 (limit_holds total at 1 e))
  after_cause total at true e (inr (k, inl m)) = sym m.1
  after_cause total at true e (inr (k, inr m)) = absurd m.0
  after_cause total at false e (inl k) = sym k.1
  after_cause total at false e (inr k) = absurd (false≢true (sym e ∙ limit_passes total at 1 k.0))

  after_says : (plan : Plan) (rest : List ℕ) → RefusedAfter side homes frames fetch requests room bytes cause place plan rest → verdict side homes frames fetch requests room bytes ≡ refused_with cause place plan.exchanges
  after_says plan rest r =
      let pre : List ℕ = plan_bytes plan in
      let front : length bytes - length rest ≡ length pre = front_length bytes pre rest r.read in
      let short : plan_limit < length bytes → length bytes - length rest ≤ plan_limit = λ l. subst (λ (n : ℕ). n ≤ plan_limit) (sym front) (r.within l) in
      let v = verdict_ends side homes frames fetch requests room fit bytes plan rest r.keeps r.listed r.read short in
      let t : Bool = within_limit (length bytes) (length bytes - length rest) 1 in
      let c : cond t OutOfPlace OverLimit ≡ cause = after_cause (length bytes) (length pre) t (ap (λ (n : ℕ). within_limit (length bytes) n 1) (sym front)) r.broken in
      v.comes
      ∙ (over_stops side homes frames fetch requests room (length bytes) v.n v.s rest v.over v.enough r.more
      ∙ (ap (λ (d : Cause). refused v.s d (length bytes - length rest)) c ∙ stop_says v.s cause (length bytes - length rest) place plan.exchanges (front ∙ sym r.told_at) v.tells_it.records))

pub refuses_exactly : RefusesExactly
refuses_exactly side homes frames fetch requests room bytes fit small cause place = (
  refusals_tell side homes frames fetch requests room bytes fit small cause place,
  at_says side homes frames fetch requests room fit bytes cause place,
  after_says side homes frames fetch requests room fit bytes cause place,
)
