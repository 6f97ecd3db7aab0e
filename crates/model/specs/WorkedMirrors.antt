-- Worked mirrors: six blocks on two disks, four frames, a fetch of two steps; plans, the commands of each mirror, and
-- what the verdict says of both.
use Rattle.std.specs.Prelude.{◌≡◌, ℕ, List, [], ◌∷◌, map, reverse, length}
use Rattle.model.specs.Timetable.{Side, Forward, Backward, opposite, Serve, Wait, Exchange, Plan}
use Rattle.model.specs.PlanBytes.{Command, Opens, Trades, Serves, Waits, Ends, plan_commands, plan_bytes}
use Rattle.model.specs.Verdict.{Answer, Accepted, verdict}
use Rattle.model.specs.Mirror.{mirrored}
use Rattle.model.specs.Worked.{homes6}

-- the exchange that brings in a, sends out b and starts at boundary t
abbrev pub trade : ℕ → ℕ → ℕ → Exchange
trade a b t = record { brings = a; sends = b; start = t }

-- A row: a side and requests, a plan for them, its own commands, those of its mirror, and the verdict's answer to both.
pub record Image : Type 0 where
  pub side : Side
  pub requests : List ℕ
  pub plan : Plan
  pub commands : List Command
  pub image : List Command
  pub answer : Answer

abbrev pub images : List Image
images =
    record {
      side = Backward;
      requests = 5 ∷ 4 ∷ 3 ∷ 2 ∷ 1 ∷ 0 ∷ [];
      plan = record { opening = 2 ∷ 3 ∷ 4 ∷ 5 ∷ []; acts = Serve ∷ Serve ∷ Serve ∷ Serve ∷ Serve ∷ Serve ∷ []; exchanges = trade 1 5 1 ∷ trade 0 4 3 ∷ [] };
      commands = Opens 2 ∷ Opens 3 ∷ Opens 4 ∷ Opens 5 ∷ Serves ∷ Trades 1 5 ∷ Serves ∷ Serves ∷ Trades 0 4 ∷ Serves ∷ Serves ∷ Serves ∷ Ends ∷ [];
      image = Opens 0 ∷ Opens 1 ∷ Opens 2 ∷ Opens 3 ∷ Serves ∷ Trades 4 0 ∷ Serves ∷ Serves ∷ Trades 5 1 ∷ Serves ∷ Serves ∷ Serves ∷ Ends ∷ [];
      answer = Accepted 6 0 2;
    }
    -- two exchanges of one boundary, and waits
    ∷ record {
      side = Forward;
      requests = 0 ∷ 1 ∷ 2 ∷ [];
      plan = record { opening = 0 ∷ 1 ∷ 4 ∷ 5 ∷ []; acts = Serve ∷ Serve ∷ Wait ∷ Wait ∷ Serve ∷ []; exchanges = trade 2 0 2 ∷ trade 3 1 2 ∷ [] };
      commands = Opens 0 ∷ Opens 1 ∷ Opens 4 ∷ Opens 5 ∷ Serves ∷ Serves ∷ Trades 2 0 ∷ Trades 3 1 ∷ Waits ∷ Waits ∷ Serves ∷ Ends ∷ [];
      image = Opens 2 ∷ Opens 3 ∷ Opens 4 ∷ Opens 5 ∷ Serves ∷ Trades 1 3 ∷ Trades 0 2 ∷ Waits ∷ Waits ∷ Serves ∷ Serves ∷ Ends ∷ [];
      answer = Accepted 5 2 2;
    }
    -- no steps
    ∷ record {
      side = Forward;
      requests = [];
      plan = record { opening = 0 ∷ 2 ∷ 3 ∷ 5 ∷ []; acts = []; exchanges = [] };
      commands = Opens 0 ∷ Opens 2 ∷ Opens 3 ∷ Opens 5 ∷ Ends ∷ [];
      image = Opens 0 ∷ Opens 2 ∷ Opens 3 ∷ Opens 5 ∷ Ends ∷ [];
      answer = Accepted 0 0 0;
    }
    ∷ []

-- the mirror of a row's plan
abbrev pub image_of : Image → Plan
image_of r = mirrored (length homes6) 2 r.plan

-- The commands of each plan and of its mirror are the row's, the mirror of the mirror is the plan, and the verdict
-- accepts both with the row's answer, the mirror on the opposite side for the requests reversed.
pub record WorkedMirrors : Type 0 where
  pub plans : map (λ (r : Image). plan_commands r.plan) images ≡ map (λ (r : Image). r.commands) images
  pub mirrors : map (λ (r : Image). plan_commands (image_of r)) images ≡ map (λ (r : Image). r.image) images
  pub again : map (λ (r : Image). mirrored (length homes6) 2 (image_of r)) images ≡ map (λ (r : Image). r.plan) images
  pub accepted : map (λ (r : Image). (verdict r.side homes6 4 2 r.requests 2 (plan_bytes r.plan)).answer) images ≡ map (λ (r : Image). r.answer) images
  pub accepted_too : map (λ (r : Image). (verdict (opposite r.side) homes6 4 2 (reverse r.requests) 2 (plan_bytes (image_of r))).answer) images ≡ map (λ (r : Image). r.answer) images
