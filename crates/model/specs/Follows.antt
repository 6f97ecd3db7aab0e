-- When a plan follows a choosing rule: at each boundary it starts exactly what the rule answers there, it serves exactly
-- when it can, and it ends when all is served. What the rule sees is told from the plan alone, by counting.
use Rattle.std.specs.Prelude.{◌≡◌, ℕ, zero, suc, ◌+◌, ◌<◌, Bool, true, false, cond, not, ◌&&◌, List, [], ◌∷◌, ◌++◌, length, take, ◌==◌, nat_lt, slice_index_or}
use Rattle.model.specs.Timetable.{Side, Exchange, Serve, Wait, Plan, occupies, count, home, landed, brought, left, served, wanted, ResidentDuring}
use Rattle.model.specs.Verdict.{most_disks}
use Rattle.model.specs.Statements.{Formed}
use Rattle.model.specs.View.{Option, None, Some, View, Place, Absent, InFlight, Resident, missing, is_free, wanted_block}
use Rattle.model.specs.Rules.{Rule, NeedLaw}
use Rattle.model.specs.Pass.{each, screened, plan_from}
use Rattle.model.specs.PassLaws.{Playable, FitOpening}

-- a list with one exchange more at its front, or without it
abbrev pub front_if : Bool → Exchange → List Exchange → List Exchange
front_if true x xs = x ∷ xs
front_if false x xs = xs

-- the exchanges of a list that start before boundary t
unfoldable pub before : ℕ → List Exchange → List Exchange
before t [] = []
before t (x ∷ xs) = front_if (nat_lt x.start t) x (before t xs)

-- where block b is between landings and starts of boundary t
abbrev pub place_at : ℕ → List ℕ → List Exchange → ℕ → ℕ → Place
place_at fetch o xs t b =
    cond (home o b + landed fetch xs b t == left xs b t + 1) Resident (cond (home o b + brought xs b t == left xs b t) Absent InFlight)

-- an exchange of boundary t has brought block b in, or sent it out
abbrev pub named_at : List Exchange → ℕ → ℕ → Bool
named_at xs t b = not (brought xs b t == brought xs b (t + 1) && left xs b t == left xs b (t + 1))

module _ (side : Side) (homes : List ℕ) (frames fetch : ℕ) (requests : List ℕ) (o : List ℕ) where
  -- all exchanges that occupy disk d have landed at boundary t
  abbrev pub free_at : List Exchange → ℕ → ℕ → Bool
  free_at xs t d = count (λ x. (occupies side homes x == d) && nat_lt t (x.start + fetch)) xs == 0

  -- what a rule sees at boundary t and a position, after the exchanges started so far
  abbrev pub view_at : List Exchange → ℕ → ℕ → View
  view_at xs t p = record {
    side = side;
    homes = homes;
    frames = frames;
    requests = requests;
    position = p;
    places = each (place_at fetch o xs t) (length homes);
    named = each (named_at xs t) (length homes);
    free = each (free_at xs t) most_disks;
  }

  -- what starts at boundary t on an answer: nothing, or one exchange
  abbrev pub on_need : ℕ → ℕ → Option ℕ → List Exchange
  on_need t c None = []
  on_need t c (Some b) = record { brings = c; sends = b; start = t } ∷ []

  abbrev pub on_ahead : View → ℕ → ℕ → Option (ℕ × ℕ) → List Exchange
  on_ahead v t d None = []
  on_ahead v t d (Some x) = cond (screened side homes frames fetch requests v d x.0 x.1) (record { brings = x.0; sends = x.1; start = t } ∷ []) []

  module _ (rule : Rule) where
    -- need's answer, if the block at the position is missing; ahead's for disk d, if it is free
    abbrev pub need_starts : View → ℕ → List Exchange
    need_starts v t = cond (missing v (wanted_block v)) (on_need t (wanted_block v) (rule.need v)) []

    abbrev pub ahead_starts : View → ℕ → ℕ → List Exchange
    ahead_starts v t d = cond (is_free v d) (on_ahead v t d (rule.ahead v d)) []

    -- the exchanges so far with those of so many disks from d on, each asked after what started before
    unfoldable pub with_disks : ℕ → ℕ → List Exchange → ℕ → ℕ → List Exchange
    with_disks zero d xs t p = xs
    with_disks (suc n) d xs t p = with_disks n (d + 1) (xs ++ ahead_starts (view_at xs t p) t d) t p

    -- the exchanges so far with those that the rule answers at boundary t: need's first, then ahead's by rising disk
    unfoldable pub with_answers : List Exchange → ℕ → ℕ → List Exchange
    with_answers xs t p = with_disks most_disks 0 (xs ++ need_starts (view_at xs t p) t) t p

    pub record Follows (plan : Plan) : Type 0 where
      pub opens_so : plan.opening ≡ o
      -- exchanges are listed as they start, each before a step
      pub formed : Formed plan
      -- at each boundary the plan starts exactly what the rule answers there
      pub starts_so : (t : ℕ) → t < length plan.acts → before (t + 1) plan.exchanges ≡ with_answers (before t plan.exchanges) t (served (take t plan.acts))
      -- a step serves exactly if it can
      pub serves_if : (t : ℕ) → t < length plan.acts → ResidentDuring fetch o plan.exchanges (wanted requests plan.acts t) t → slice_index_or plan.acts t Wait ≡ Serve
      pub serves_only : (t : ℕ) → t < length plan.acts → slice_index_or plan.acts t Wait ≡ Serve → ResidentDuring fetch o plan.exchanges (wanted requests plan.acts t) t
      -- it ends when all requests are served, and not before
      pub goes_on : (t : ℕ) → t < length plan.acts → served (take t plan.acts) < length requests
      pub ends_so : served plan.acts ≡ length requests

-- The plan of the pass follows the rule, and it is the only one that does.
pub record OnlyPlan (side : Side) (homes : List ℕ) (frames fetch : ℕ) (requests o : List ℕ) (rule : Rule) : Type 0 where
  pub follows : Follows side homes frames fetch requests o rule (plan_from side homes frames fetch requests rule o)
  pub only : (plan : Plan) → Follows side homes frames fetch requests o rule plan → plan ≡ plan_from side homes frames fetch requests rule o

abbrev pub PassFollows : Type 0
PassFollows =
    (side : Side) (homes : List ℕ) (frames fetch : ℕ) (requests o : List ℕ) (rule : Rule) →
    Playable homes frames fetch requests → NeedLaw rule → FitOpening homes frames o → OnlyPlan side homes frames fetch requests o rule
