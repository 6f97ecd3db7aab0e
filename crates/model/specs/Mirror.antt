-- The mirror of a plan: the plan run backwards, from its closing content to its opening content.
use Rattle.std.specs.Prelude.{ℕ, zero, suc, ◌+◌, ◌-◌, Bool, cond, List, [], ◌∷◌, ◌++◌, map, reverse, length, ◌==◌}
use Rattle.model.specs.Timetable.{Exchange, Plan, home, landed, left}

-- the numbers below n that pass a test, rising
unfoldable pub picked : (ℕ → Bool) → ℕ → List ℕ
picked p zero = []
picked p (suc n) = picked p n ++ cond (p n) (n ∷ []) []

-- whether block b is resident at the last boundary of a plan
abbrev pub remains : ℕ → Plan → ℕ → Bool
remains fetch plan b =
    (home plan.opening b + landed fetch plan.exchanges b (length plan.acts) == left plan.exchanges b (length plan.acts) + 1)

-- the closing content: of so many blocks, those resident at the last boundary, rising
abbrev pub closing : ℕ → ℕ → Plan → List ℕ
closing blocks fetch plan = picked (remains fetch plan) blocks

-- The mirror of an exchange in a plan of so many steps: its two blocks change over, and it starts as many steps
-- after the first boundary as the exchange lands before the last.
abbrev pub reflected : ℕ → ℕ → Exchange → Exchange
reflected steps fetch x = record { brings = x.sends; sends = x.brings; start = steps - (x.start + fetch) }

-- The mirror of a plan opens with its closing content; the steps are reversed, and so is the list of exchanges.
abbrev pub mirrored : ℕ → ℕ → Plan → Plan
mirrored blocks fetch plan =
    record {
      opening = closing blocks fetch plan;
      acts = reverse plan.acts;
      exchanges = reverse (map (reflected (length plan.acts) fetch) plan.exchanges);
    }
