-- Passes over sheets within the limits: their sizes, their acceptance, and the mirror of the backward pass.
use Rattle.std.proofs.Common.{◌≡◌, ℕ, ◌-◌, ◌*◌, ◌<◌, ◌≤◌, List, reverse, length, get_or, refl, ap, subst, mul-le-mul, arith}
use Rattle.std.proofs.lemmas.List.{reverse-reverse, length-reverse, get_or-reverse}
use Rattle.model.specs.Timetable.{Side, Forward, Backward, Plan, Keeps}
use Rattle.model.specs.PlanBytes.{plan_bytes}
use Rattle.model.specs.Verdict.{verdict}
use Rattle.model.specs.Statements.{Fit, WrittenBy, plan_outcome}
use Rattle.model.specs.MirrorLaws.{Alike}
use Rattle.model.specs.Pass.{usual_opening}
use Rattle.model.specs.PassLaws.{Playable, FitOpening, SheetPlays, plan_over, Sized, PassAccepted, turned_plan, replay_plan, PassReplays}
use Rattle.model.proofs.Once.{keeps_form}
use Rattle.model.proofs.Letters.{plan_size}
use Rattle.model.proofs.Written.{written_accepted}
use Rattle.model.proofs.Mirroring.{mirror_keeps, mirror_alike}
use Rattle.model.proofs.Passing.{pass_keeps, pass_ends}
use Rattle.model.proofs.Usual.{usual_fits}
use Rattle.model.proofs.Bounded.{few_exchanges}

pub sheet_plays : SheetPlays
sheet_plays s f = record {
  rack = record { few = f.rack.blocks.1; on_disks = λ b l. omega (arith, f.rack.homes b l, f.rack.disks.1); lasts = f.rack.fetch.0 };
  some = f.rack.frames.0;
  enough = f.rack.blocks.0;
  known = f.known;
}

module _ (side : Side) (homes : List ℕ) (frames fetch : ℕ) (requests : List ℕ) (plan : Plan) (fit : Fit homes fetch) (keeps : Keeps side homes frames fetch requests plan)
    (short : length plan.acts ≤ 2 * fetch * length requests) (small : frames ≤ 64) (fast : fetch ≤ 64) (few : length requests ≤ 4096) where
  sized_by : Sized plan
  sized_by =
      let two : 2 * fetch ≤ 128 = omega arith in
      let most : 2 * fetch * length requests ≤ 128 * 4096 = mul-le-mul two few in
      let xs = few_exchanges side homes frames fetch requests plan fit keeps short in
      let bytes = plan_size plan (keeps_form side homes frames fetch requests plan fit.lasts keeps) in
      record { few_steps = omega arith; few_exchanges = omega arith; few_bytes = omega (arith, keeps.fills) }

  accepted_by : (room : ℕ) → 65_536 ≤ room → verdict side homes frames fetch requests room (plan_bytes plan) ≡ plan_outcome plan
  accepted_by room enough =
      let s = sized_by in
      let w : WrittenBy side homes frames fetch requests (plan_bytes plan) plan = record { keeps = keeps; written = refl; within = omega (arith, s.few_bytes) } in
      written_accepted side homes frames fetch requests room (plan_bytes plan) plan fit w (omega (arith, s.few_exchanges))

pub pass_accepted : PassAccepted
pass_accepted side s rule o f law opening =
    let p = sheet_plays s f in
    let k = pass_keeps side s.rack.homes s.rack.frames s.rack.fetch s.requests rule o p law opening in
    let e = pass_ends side s.rack.homes s.rack.frames s.rack.fetch s.requests rule o p law opening in
    record {
      keeps = k;
      in_time = e;
      sized = sized_by side s.rack.homes s.rack.frames s.rack.fetch s.requests (plan_over side s rule o) p.rack k e f.rack.frames.1 f.rack.fetch.1 f.few;
      accepted = accepted_by side s.rack.homes s.rack.frames s.rack.fetch s.requests (plan_over side s rule o) p.rack k e f.rack.frames.1 f.rack.fetch.1 f.few;
    }

reverse_plays : (homes : List ℕ) (frames fetch : ℕ) (requests : List ℕ) → Playable homes frames fetch requests → Playable homes frames fetch (reverse requests)
reverse_plays homes frames fetch requests p = record {
  rack = p.rack;
  some = p.some;
  enough = p.enough;
  known = λ i l. known i (subst (λ (n : ℕ). i < n) (length-reverse requests) l);
}
  where
    known : (i : ℕ) → i < length requests → get_or (reverse requests) i 0 < length homes
    known i l = omega (arith, get_or-reverse requests i 0 l, p.known (length requests - 1 - i) (omega arith))

pub pass_replays : PassReplays
pass_replays s rule f law = record {
  keeps = kept;
  as_long = alike.steps;
  in_time = short;
  sized = sized_by Forward homes frames fetch s.requests (replay_plan s rule) p.rack kept short f.rack.frames.1 f.rack.fetch.1 f.few;
  accepted = accepted_by Forward homes frames fetch s.requests (replay_plan s rule) p.rack kept short f.rack.frames.1 f.rack.fetch.1 f.few;
}
  where
    homes : List ℕ
    homes = s.rack.homes

    frames : ℕ
    frames = s.rack.frames

    fetch : ℕ
    fetch = s.rack.fetch

    p : Playable homes frames fetch s.requests
    p = sheet_plays s f

    q : Playable homes frames fetch (reverse s.requests)
    q = reverse_plays homes frames fetch s.requests p

    o : List ℕ
    o = usual_opening (length homes) frames (reverse s.requests)

    u : FitOpening homes frames o
    u = usual_fits homes frames fetch (reverse s.requests) q

    alike : Alike (replay_plan s rule) (turned_plan s rule)
    alike = mirror_alike (length homes) fetch (turned_plan s rule)

    kept : Keeps Forward homes frames fetch s.requests (replay_plan s rule)
    kept = subst (λ (rs : List ℕ). Keeps Forward homes frames fetch rs (replay_plan s rule)) (reverse-reverse s.requests)
        (mirror_keeps Backward homes frames fetch (reverse s.requests) (turned_plan s rule) p.rack.lasts (pass_keeps Backward homes frames fetch (reverse s.requests) rule o q law u))

    short : length (replay_plan s rule).acts ≤ 2 * fetch * length s.requests
    short = omega (arith, alike.steps, pass_ends Backward homes frames fetch (reverse s.requests) rule o q law u, ap (λ (n : ℕ). 2 * fetch * n) (length-reverse s.requests))
