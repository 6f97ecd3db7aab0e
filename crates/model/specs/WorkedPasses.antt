-- Worked passes: six blocks on two disks, four frames, a fetch of two steps; rules, and the commands of each plan.
use Rattle.std.specs.Prelude.{◌≡◌, ℕ, ◌-◌, List, [], ◌∷◌, map, length, replicate}
use Rattle.model.specs.Timetable.{Side, Forward, Backward, Serve, Plan, waited}
use Rattle.model.specs.PlanBytes.{Command, Opens, Trades, Serves, Waits, Ends, plan_commands}
use Rattle.model.specs.View.{Option, None, Some, View, wanted_block, first_missing_on, latest}
use Rattle.model.specs.Rules.{Rule, aggressive, demand}
use Rattle.model.specs.Pass.{each, plan_from, plan_of, usual_opening}
use Rattle.model.specs.Worked.{homes6, requests6, turned6}

-- A row: a side, the requests, a rule, an opening, and the commands of the plan.
pub record PassRow : Type 0 where
  pub side : Side
  pub requests : List ℕ
  pub rule : Rule
  pub opening : List ℕ
  pub commands : List Command

abbrev pub pass_rows : List PassRow
pass_rows =
    record {
      side = Forward;
      requests = requests6;
      rule = aggressive;
      opening = 0 ∷ 1 ∷ 3 ∷ 5 ∷ [];
      commands = Opens 0 ∷ Opens 1 ∷ Opens 3 ∷ Opens 5 ∷ Trades 2 5 ∷ Serves ∷ Serves ∷ Trades 4 0 ∷ Serves ∷ Serves ∷ Trades 5 1 ∷ Serves ∷ Waits ∷ Serves ∷ Ends ∷ [];
    }
    ∷ record {
      side = Backward;
      requests = turned6;
      rule = aggressive;
      opening = usual_opening 6 4 turned6;
      commands = Opens 2 ∷ Opens 3 ∷ Opens 4 ∷ Opens 5 ∷ Serves ∷ Trades 1 5 ∷ Serves ∷ Serves ∷ Trades 0 4 ∷ Serves ∷ Serves ∷ Serves ∷ Ends ∷ [];
    }
    -- two exchanges of one boundary: each disk's own first missing block, the lowest of two blocks never used
    ∷ record {
      side = Forward;
      requests = 0 ∷ 1 ∷ 3 ∷ 2 ∷ [];
      rule = aggressive;
      opening = 0 ∷ 1 ∷ 4 ∷ 5 ∷ [];
      commands = Opens 0 ∷ Opens 1 ∷ Opens 4 ∷ Opens 5 ∷ Trades 2 4 ∷ Trades 3 5 ∷ Serves ∷ Serves ∷ Serves ∷ Serves ∷ Ends ∷ [];
    }
    -- need on the backward side: of the lowest free disk, though a block of the other is used later
    ∷ record {
      side = Backward;
      requests = 2 ∷ 0 ∷ 5 ∷ [];
      rule = aggressive;
      opening = 0 ∷ 1 ∷ 3 ∷ 5 ∷ [];
      commands = Opens 0 ∷ Opens 1 ∷ Opens 3 ∷ Opens 5 ∷ Trades 2 5 ∷ Waits ∷ Trades 5 1 ∷ Waits ∷ Serves ∷ Serves ∷ Serves ∷ Ends ∷ [];
    }
    -- no requests
    ∷ record {
      side = Backward;
      requests = [];
      rule = aggressive;
      opening = usual_opening 6 4 [];
      commands = Opens 0 ∷ Opens 1 ∷ Opens 2 ∷ Opens 3 ∷ Ends ∷ [];
    }
    ∷ []

abbrev pub plan_of_row : PassRow → Plan
plan_of_row r = plan_from r.side homes6 4 2 r.requests r.rule r.opening

-- demand on the forward side from 0 1 3 5
abbrev pub demanded : Plan
demanded = plan_from Forward homes6 4 2 requests6 demand (0 ∷ 1 ∷ 3 ∷ 5 ∷ [])

abbrev pub demanded_commands : List Command
demanded_commands =
    Opens 0 ∷ Opens 1 ∷ Opens 3 ∷ Opens 5 ∷ Serves ∷ Serves ∷ Trades 2 0 ∷ Waits ∷ Waits ∷ Serves ∷ Serves ∷ Trades 4 1 ∷ Waits ∷ Waits ∷ Serves ∷ Serves ∷ Ends ∷ []

-- Rules with demand's need whose ahead answers are never to be taken: an exchange of the other disk, one that sends out the
-- block at the position, one that brings in a block no longer requested, and one that is not lawful.
abbrev pub with_ahead : (View → ℕ → Option (ℕ × ℕ)) → Rule
with_ahead f = record { need = demand.need; ahead = f }

abbrev pub pair_of : Option ℕ → Option ℕ → Option (ℕ × ℕ)
pair_of None out = None
pair_of (Some a) None = None
pair_of (Some a) (Some b) = Some (a, b)

abbrev pub contrary : List Rule
contrary =
    with_ahead (λ v d. pair_of (first_missing_on v (1 - d)) (latest v))
    ∷ with_ahead (λ v d. pair_of (first_missing_on v d) (Some (wanted_block v)))
    ∷ with_ahead (λ v d. pair_of (Some 0) (latest v))
    ∷ with_ahead (λ v d. pair_of (latest v) (latest v))
    ∷ []

-- sixty-four blocks on one disk, all of them in frames
abbrev pub homes64 : List ℕ
homes64 = replicate 64 0

abbrev pub full64 : Plan
full64 = plan_of Forward homes64 64 1 (63 ∷ 0 ∷ []) aggressive

pub record WorkedPasses : Type 0 where
  pub rows : map (λ (r : PassRow). plan_commands (plan_of_row r)) pass_rows ≡ map (λ (r : PassRow). r.commands) pass_rows
  pub demand_commands : plan_commands demanded ≡ demanded_commands
  pub demand_steps : length demanded.acts ≡ 10
  pub demand_waits : waited demanded.acts ≡ 4
  pub demand_trades : length demanded.exchanges ≡ 2
  pub contrary_starts : map (λ (r : Rule). plan_commands (plan_from Forward homes6 4 2 requests6 r (0 ∷ 1 ∷ 3 ∷ 5 ∷ []))) contrary ≡ map (λ (r : Rule). demanded_commands) contrary
  pub full_opening : full64.opening ≡ each (λ b. b) 64
  pub full_acts : full64.acts ≡ Serve ∷ Serve ∷ []
  pub full_exchanges : full64.exchanges ≡ []
