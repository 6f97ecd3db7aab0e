-- Each block is in exactly one place at each boundary of a plan that keeps the model.
use Rattle.std.proofs.Common.{◌≡◌, ℕ, ◌+◌, ◌≤◌, ◌⊎◌, List, inl, inr, arith}
use Rattle.std.proofs.lemmas.Bool.{cases_eq}
use Rattle.model.specs.Timetable.{Exchange, Side, Plan, Keeps, Resident, InFlight, Absent, home, landed, brought, left}
use Rattle.model.specs.Statements.{OnePlace}
use Rattle.model.proofs.Marks.{in_of, out_of, landed_brought, early_grows}
use Rattle.model.proofs.Steady.{steady}

-- left, landed and brought stay within one of each other
pub record Chained (fetch : ℕ) (o : List ℕ) (xs : List Exchange) (b t : ℕ) : Type 0 where
  pub low : left xs b t ≤ home o b + landed fetch xs b t
  pub high : home o b + brought xs b t ≤ left xs b t + 1

pub chained : (side : Side) (homes : List ℕ) (frames fetch : ℕ) (requests : List ℕ) (plan : Plan) → Keeps side homes frames fetch requests plan → (b t : ℕ) → Chained fetch plan.opening plan.exchanges b t
chained side homes frames fetch requests plan k b t =
    let s = steady side homes frames fetch requests plan k b t in
    record { low = omega (arith, s.goes_after, early_grows out_of plan.exchanges b t (t + 1) (omega arith)); high = omega (arith, s.comes_after, early_grows in_of plan.exchanges b t (t + 1) (omega arith)) }

pub one_place : OnePlace
one_place side homes frames fetch requests plan f k b t =
    record { somewhere = go (cases_eq (h + l) (g + 1)) (cases_eq (h + n) g); here_or_flying = λ r u. omega (arith, u.not_landed); here_or_away = λ r u. omega (arith, below); flying_or_away = λ r u. omega (arith, r.under_way) }
  where
    h : ℕ
    h = home plan.opening b

    l : ℕ
    l = landed fetch plan.exchanges b t

    n : ℕ
    n = brought plan.exchanges b t

    g : ℕ
    g = left plan.exchanges b t

    c : Chained fetch plan.opening plan.exchanges b t
    c = chained side homes frames fetch requests plan k b t

    below : landed fetch plan.exchanges b t ≤ brought plan.exchanges b t
    below = landed_brought fetch f plan.exchanges b t

    go : (h + l ≡ g + 1) ⊎ (h + l ≡ g + 1 → ⊥) → (h + n ≡ g) ⊎ (h + n ≡ g → ⊥) →
        Resident fetch plan.opening plan.exchanges b t ⊎ (InFlight fetch plan.opening plan.exchanges b t ⊎ Absent plan.opening plan.exchanges b t)
    go (inl e) d = inl e
    go (inr e) (inl d) = inr (inr d)
    go (inr e) (inr d) = inr (inl (record { under_way = omega (arith, c.low, c.high, below); not_landed = omega (arith, c.low, c.high, below) }))
