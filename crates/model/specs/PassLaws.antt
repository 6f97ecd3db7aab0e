-- What is proved of rules and of the pass.
use Rattle.std.specs.Prelude.{◌≡◌, ℕ, ◌*◌, ◌<◌, ◌≤◌, true, List, reverse, length, slice_index}
use Rattle.model.specs.Timetable.{Side, Forward, Backward, Plan, Keeps}
use Rattle.model.specs.PlanBytes.{plan_bytes}
use Rattle.model.specs.Verdict.{verdict}
use Rattle.model.specs.Sheet.{Sheet, Fits}
use Rattle.model.specs.Statements.{Fit, plan_outcome}
use Rattle.model.specs.Mirror.{mirrored}
use Rattle.model.specs.Rules.{Rule, NeedLaw, aggressive, demand}
use Rattle.model.specs.Pass.{opening_fits, plan_from, plan_of, usual_opening}

-- Need's law holds of both rules, on both sides.
pub record RulesMeetTheLaw : Type 0 where
  pub aggressive_meets : NeedLaw aggressive
  pub demand_meets : NeedLaw demand

-- What a pass asks of a rack and requests: a rack within the limits, at least one frame and no more than there are
-- blocks, and requests of existing blocks.
pub record Playable (homes : List ℕ) (frames fetch : ℕ) (requests : List ℕ) : Type 0 where
  pub rack : Fit homes fetch
  pub some : 0 < frames
  pub enough : frames ≤ length homes
  pub known : (i : ℕ) → i < length requests → slice_index requests i < length homes

-- an opening fills the frames with existing blocks, rising
pub record FitOpening (homes : List ℕ) (frames : ℕ) (o : List ℕ) : Type 0 where
  pub fills : length o ≡ frames
  pub exist : (i : ℕ) → i < length o → slice_index o i < length homes
  pub rise : (i j : ℕ) → i < j → j < length o → slice_index o i < slice_index o j

-- The plan of a pass, of any rule that meets need's law and from any fit opening, keeps the model: each start is lawful,
-- each step that serves finds its block resident, all requests are served and all exchanges have landed.
abbrev pub PassKeeps : Type 0
PassKeeps =
    (side : Side) (homes : List ℕ) (frames fetch : ℕ) (requests : List ℕ) (rule : Rule) (o : List ℕ) →
    Playable homes frames fetch requests → NeedLaw rule → FitOpening homes frames o → Keeps side homes frames fetch requests (plan_from side homes frames fetch requests rule o)

-- Its steps number at most twice the fetch time for each request.
abbrev pub PassEnds : Type 0
PassEnds =
    (side : Side) (homes : List ℕ) (frames fetch : ℕ) (requests : List ℕ) (rule : Rule) (o : List ℕ) →
    Playable homes frames fetch requests → NeedLaw rule → FitOpening homes frames o →
    length (plan_from side homes frames fetch requests rule o).acts ≤ 2 * fetch * length requests

-- The test of an opening tells exactly that.
pub record OpeningTold (homes : List ℕ) (frames : ℕ) (o : List ℕ) : Type 0 where
  pub said : opening_fits (length homes) frames o ≡ true → FitOpening homes frames o
  pub meant : FitOpening homes frames o → opening_fits (length homes) frames o ≡ true

abbrev pub OpeningsTold : Type 0
OpeningsTold = (homes : List ℕ) (frames : ℕ) (o : List ℕ) → OpeningTold homes frames o

-- The usual opening is fit.
abbrev pub UsualFits : Type 0
UsualFits = (homes : List ℕ) (frames fetch : ℕ) (requests : List ℕ) → Playable homes frames fetch requests → FitOpening homes frames (usual_opening (length homes) frames requests)

-- The exchanges of any plan that keeps the model: each occupies one of eight disks for the fetch time, so in steps that
-- number at most twice the fetch time for each request there are at most sixteen for each request.
abbrev pub FewExchanges : Type 0
FewExchanges =
    (side : Side) (homes : List ℕ) (frames fetch : ℕ) (requests : List ℕ) (plan : Plan) →
    Fit homes fetch → Keeps side homes frames fetch requests plan → length plan.acts ≤ 2 * fetch * length requests → length plan.exchanges ≤ 16 * length requests

-- A sheet within the limits can be played.
abbrev pub SheetPlays : Type 0
SheetPlays = (s : Sheet) → Fits s → Playable s.rack.homes s.rack.frames s.rack.fetch s.requests

-- The plan of a pass over a sheet, from an opening.
abbrev pub plan_over : Side → Sheet → Rule → List ℕ → Plan
plan_over side s rule o = plan_from side s.rack.homes s.rack.frames s.rack.fetch s.requests rule o

-- How large it is, at most.
pub record Sized (plan : Plan) : Type 0 where
  pub few_steps : length plan.acts ≤ 524_288
  pub few_exchanges : length plan.exchanges ≤ 65_536
  pub few_bytes : length (plan_bytes plan) ≤ 852_161

-- The plan of a pass over a sheet within the limits is no larger, and the check accepts it on that side, given list
-- enough.
pub record Passes (side : Side) (s : Sheet) (rule : Rule) (o : List ℕ) : Type 0 where
  pub keeps : Keeps side s.rack.homes s.rack.frames s.rack.fetch s.requests (plan_over side s rule o)
  pub in_time : length (plan_over side s rule o).acts ≤ 2 * s.rack.fetch * length s.requests
  pub sized : Sized (plan_over side s rule o)
  pub accepted : (room : ℕ) → 65_536 ≤ room →
      verdict side s.rack.homes s.rack.frames s.rack.fetch s.requests room (plan_bytes (plan_over side s rule o)) ≡ plan_outcome (plan_over side s rule o)

abbrev pub PassAccepted : Type 0
PassAccepted = (side : Side) (s : Sheet) (rule : Rule) (o : List ℕ) → Fits s → NeedLaw rule → FitOpening s.rack.homes s.rack.frames o → Passes side s rule o

-- The backward pass over the turned sheet, from its usual opening, and its mirror.
abbrev pub turned_plan : Sheet → Rule → Plan
turned_plan s rule = plan_of Backward s.rack.homes s.rack.frames s.rack.fetch (reverse s.requests) rule

abbrev pub replay_plan : Sheet → Rule → Plan
replay_plan s rule = mirrored (length s.rack.homes) s.rack.fetch (turned_plan s rule)

-- The mirror keeps the model on the forward side for the requests in their own order, in as many steps, and is no
-- larger; the check accepts it, given list enough.
pub record Replays (s : Sheet) (rule : Rule) : Type 0 where
  pub keeps : Keeps Forward s.rack.homes s.rack.frames s.rack.fetch s.requests (replay_plan s rule)
  pub as_long : length (replay_plan s rule).acts ≡ length (turned_plan s rule).acts
  pub in_time : length (replay_plan s rule).acts ≤ 2 * s.rack.fetch * length s.requests
  pub sized : Sized (replay_plan s rule)
  pub accepted : (room : ℕ) → 65_536 ≤ room →
      verdict Forward s.rack.homes s.rack.frames s.rack.fetch s.requests room (plan_bytes (replay_plan s rule)) ≡ plan_outcome (replay_plan s rule)

abbrev pub PassReplays : Type 0
PassReplays = (s : Sheet) (rule : Rule) → Fits s → NeedLaw rule → Replays s rule
