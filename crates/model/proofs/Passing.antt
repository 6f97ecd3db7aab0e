-- The plan of a pass keeps the model and ends in time.
use Rattle.std.proofs.Common.{◌≡◌, ℕ, zero, suc, ◌+◌, ◌-◌, ◌*◌, ◌<◌, ◌≤◌, ◌⊎◌, List, [], length, sym, refl, ap, ◌∙◌, inl, inr, mul-suc, arith}
use Rattle.std.proofs.lemmas.Bool.{cases_lt}
use Rattle.model.specs.Timetable.{Side, Keeps}
use Rattle.model.specs.Verdict.{begin}
use Rattle.model.specs.Rules.{Rule, NeedLaw}
use Rattle.model.specs.Pass.{Course, opens, runs, passed, plan_from}
use Rattle.model.specs.PassLaws.{RulesMeetTheLaw, Playable, FitOpening}
use Rattle.model.proofs.Choosing.{aggressive_law, demand_law}
use Rattle.model.proofs.Sound.{Sound}
use Rattle.model.proofs.Ending.{Runs, Ended, ends, over_ends, ready_fresh}
use Rattle.model.proofs.Opened.{sound_opened}

pub rules_meet : RulesMeetTheLaw
rules_meet = record { aggressive_meets = aggressive_law; demand_meets = demand_law }

module _ (side : Side) (homes : List ℕ) (frames fetch : ℕ) (requests : List ℕ) (rule : Rule) (o : List ℕ) (play : Playable homes frames fetch requests) (law : NeedLaw rule) (fit : FitOpening homes frames o) where
  abbrev pub first : Course
  first = record { state = opens side homes frames fetch requests o begin; acts = [] }

  pub opened : Sound side homes fetch requests o [] first.state.boundary first.state × (first.state.boundary ≡ 0) × (first.state.position ≡ 0)
  opened = sound_opened side homes frames fetch requests play.rack o (omega (arith, fit.fills, play.some)) fit.exist fit.rise

  pub pass_ended : Ended side homes frames fetch requests rule law play.rack o play.known first (passed side homes frames fetch requests rule o) (2 * fetch * length requests)
  unfolding passed
  pass_ended = go (length requests) refl
    where
      start : Runs side homes frames fetch requests rule law play.rack o play.known first
      start = record { sound = opened.0 }

      go : (n : ℕ) → length requests ≡ n → Ended side homes frames fetch requests rule law play.rack o play.known first (runs side homes frames fetch requests rule (2 * fetch * length requests) first) (2 * fetch * length requests)
      go zero e = over_ends side homes frames fetch requests rule law play.rack o play.known (2 * fetch * length requests) first start (opened.2 ∙ sym e)
      go (suc k) e =
          let f : ℕ = first.state.boundary + fetch - 1 in
          let m : f + 1 ≡ first.state.boundary + fetch = omega (arith, play.rack.lasts) in
          let double : 2 * fetch * length requests ≡ 2 * fetch * suc k = ap (λ (n : ℕ). 2 * fetch * n) e in
          ends side homes frames fetch requests rule law play.rack o play.known (2 * fetch * length requests) k f first start (omega (arith, opened.2))
          (ready_fresh side homes frames fetch requests rule law play.rack o play.known f first start m) (omega (arith, mul-suc (2 * fetch) k, opened.1))

  abbrev final : Course
  final = passed side homes frames fetch requests rule o

  ended_sound : Sound side homes fetch requests o final.acts final.state.boundary final.state
  ended_sound = pass_ended.runs_out.sound

  -- nothing is in flight: a block in flight is requested at or after the position
  landed : final.state.landing ≤ final.state.boundary
  landed = go (cases_lt final.state.boundary final.state.landing)
    where
      go : (final.state.boundary < final.state.landing) ⊎ (final.state.landing ≤ final.state.boundary) → final.state.landing ≤ final.state.boundary
      go (inr l) = l
      go (inl l) =
          let b = ended_sound.last l in
          let r = ended_sound.requested b.0 final.state.landing b.1 l in
          absurd (omega (arith, r.from, r.within, pass_ended.all))

  pub pass_keeps : Keeps side homes frames fetch requests (plan_from side homes frames fetch requests rule o)
  unfolding plan_from
  pass_keeps =
      let t = ended_sound.tells_it in
      let k = ended_sound.keeps_it in
      record {
        fills = fit.fills;
        exist = k.exist;
        rise = k.rise;
        in_order = k.in_order;
        lawful = k.lawful;
        serves = k.serves;
        all_served = sym t.position ∙ pass_ended.all;
        all_land = λ i l. omega (arith, t.landing_over i l, landed, t.boundary);
      }

  pub pass_ends : length (plan_from side homes frames fetch requests rule o).acts ≤ 2 * fetch * length requests
  unfolding plan_from
  pass_ends = omega (arith, pass_ended.in_time, ended_sound.tells_it.boundary, opened.1)
