-- A plan read from its end, and how far its mirror is written. Assumes nothing.
use Rattle.std.specs.Prelude.{◌≡◌, ℕ, ◌+◌, ◌-◌, ◌<◌, ◌≤◌, List, map, reverse, length, take, get_or}
use Rattle.model.specs.declared.Exchange.{Exchange}
use Rattle.model.specs.Timetable.{none, Plan}
use Rattle.model.specs.declared.Command.{Command}
use Rattle.model.specs.PlanBytes.{so_far, plan_bytes}
use Rattle.model.specs.Mirror.{reflected}
use Rattle.plan.specs.declared.rewind.Rewind.{Rewind}

-- a list that another begins with
pub record Front {X : Type 0} (xs ys : List X) : Type 0 where
  pub long : length xs ≤ length ys
  pub same : xs ≡ take (length xs) ys

-- the last exchange of a list, if it has one
abbrev pub last_of : List Exchange → Exchange
last_of xs = get_or xs (length xs - 1) none

-- The commands of a mirror that opens with these blocks, up to a boundary of its own, with so many exchanges of the plan still to come.
abbrev pub mirror_to : List ℕ → ℕ → Plan → ℕ → ℕ → List Command
mirror_to o fetch plan t left =
    so_far o (take t (reverse plan.acts)) (take (length plan.exchanges - left) (reverse (map (reflected (length plan.acts) fetch) plan.exchanges)))

-- the exchanges of a list that have started by a step, where starts never fall along it
pub record StartedBy (step : ℕ) (xs ys : List Exchange) : Type 0 where
  pub front : Front ys xs
  pub earlier : 0 < length ys → (last_of ys).start ≤ step
  pub later : (k : ℕ) → length ys ≤ k → k < length xs → step < (get_or xs k none).start

-- A plan in order, read from its end so many steps back: still to be written are the exchanges that land at the boundary reached or before
-- it, and those that start before it are all among the started.
pub record Rewound (plan : Plan) (t : ℕ) (r : Rewind) : Type 0 where
  pub bytes : r.plan.now ≡ plan_bytes plan
  pub fills : length plan.opening ≡ r.frames
  pub lasts : 0 < r.fetch
  pub in_order : (i j : ℕ) → i < j → j < length plan.exchanges → (get_or plan.exchanges i none).start ≤ (get_or plan.exchanges j none).start
  pub left : Front r.left.now plan.exchanges
  pub lands : (j : ℕ) → j < length r.left.now → t + ((get_or plan.exchanges j none).start + r.fetch) ≤ length plan.acts
  pub landed : (j : ℕ) → length r.left.now ≤ j → j < length plan.exchanges → length plan.acts < t + ((get_or plan.exchanges j none).start + r.fetch)
  pub started : Front r.started.now plan.exchanges
  pub later : (j : ℕ) → length r.started.now ≤ j → j < length plan.exchanges → length plan.acts ≤ t + (get_or plan.exchanges j none).start
