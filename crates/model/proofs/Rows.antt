-- The worked rows, computed; and what follows for the model.
use Rattle.std.proofs.Common.{◌≡◌, ℕ, ◌<◌, true, ltb, List, length, get_or, sym, refl, ap, arith}
use Rattle.std.specs.List.{list_all}
use Rattle.std.proofs.lemmas.Bool.{ltb-true}
use Rattle.std.proofs.lemmas.List.Sums.{AllPass-from_list_all}
use Rattle.model.specs.Timetable.{Forward}
use Rattle.model.specs.PlanBytes.{plan_bytes}
use Rattle.model.specs.Verdict.{Accepted, Refused, NotLanded, Outcome, verdict, run, step, after, found, blank_marks, blank_idle, most_disks}
use Rattle.model.specs.Statements.{Fit}
use Rattle.model.specs.Worked.{WorkedRows, WorkedEdges, ModelTells, homes6, requests6, early6, late6}
use Rattle.model.proofs.Exact.{accepts_exactly}
use Rattle.model.proofs.Once.{keeps_form}
use Rattle.model.proofs.Letters.{plan_size}

pub worked_rows : WorkedRows
unfolding verdict run step after found blank_marks blank_idle
worked_rows = refl

pub worked_edges : WorkedEdges
unfolding step after found blank_marks blank_idle
worked_edges = refl

-- a list whose every number is below a bound
each_below : (n : ℕ) (xs : List ℕ) → list_all (λ x. ltb x n) xs ≡ true → (i : ℕ) → i < length xs → get_or xs i 0 < n
each_below n xs e i l = ltb-true (get_or xs i 0) n (AllPass-from_list_all (λ x. ltb x n) xs e i 0 l)

fit6 : Fit homes6 2
fit6 = record { few = omega arith; on_disks = each_below most_disks homes6 refl; lasts = omega arith }

early : (verdict Forward homes6 4 2 requests6 4 early6).answer ≡ Accepted 7 1 3
unfolding verdict run step after found blank_marks blank_idle
early = refl

late : (verdict Forward homes6 4 2 requests6 8 late6).answer ≡ Refused NotLanded 38
unfolding verdict run step after found blank_marks blank_idle
late = refl

pub model_tells : ModelTells
model_tells =
    record {
      some = let r = (accepts_exactly Forward homes6 4 2 requests6 4 early6 fit6 (each_below 256 early6 refl)).0 7 1 3 early in (r.0, r.1);
      none_late = λ plan w.
          let n = plan_size plan (keeps_form Forward homes6 4 2 requests6 plan fit6.lasts w.keeps) in
          let l : length (plan_bytes plan) ≡ 39 = sym (ap (λ (v : List ℕ). length v) w.written) in
          let r = (accepts_exactly Forward homes6 4 2 requests6 8 late6 fit6 (each_below 256 late6 refl)).1 plan w (omega arith) in
          let f = ap (λ (v : Outcome). v.answer) r in let g = late in absurd (cc);
    }
