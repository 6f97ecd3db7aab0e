-- The plan of a pass is the one plan that follows its rule.
use Rattle.std.proofs.Common.{ℕ, ◌*◌, List, [], length, sym, refl, subst, arith}
use Rattle.model.specs.Timetable.{Exchange, Side, Plan, wanted}
use Rattle.model.specs.Rules.{Rule, NeedLaw}
use Rattle.model.specs.Pass.{passed, plan_from}
use Rattle.model.specs.PassLaws.{Playable, FitOpening}
use Rattle.model.specs.Follows.{Follows, PassFollows}
use Rattle.model.proofs.Once.{keeps_form}
use Rattle.model.proofs.Opened.{opened_records}
use Rattle.model.proofs.Passing.{first, opened, pass_keeps}
use Rattle.model.proofs.Only.{only_one, during_down}
use Rattle.model.proofs.Following.{Track, OnTrack, runs_track}

module _ (side : Side) (homes : List ℕ) (frames fetch : ℕ) (requests o : List ℕ) (rule : Rule) (play : Playable homes frames fetch requests) (law : NeedLaw rule) (fit : FitOpening homes frames o) where
  begins : OnTrack side homes frames fetch requests o rule law play.rack play.known (first side homes frames fetch requests rule o play law fit)
  begins = (
    record { sound = (opened side homes frames fetch requests rule o play law fit).0 },
    subst (λ (xs : List Exchange). Track side homes frames fetch requests o rule [] xs) (sym (opened_records side homes frames fetch requests play.rack o))
        (record { strict = λ j l. absurd (omega arith); starts_so = λ t l. absurd (omega arith); serves_if = λ t l. absurd (omega arith); goes_on = λ t l. absurd (omega arith) }),
  )

  ends : OnTrack side homes frames fetch requests o rule law play.rack play.known (passed side homes frames fetch requests rule o)
  unfolding passed
  ends = runs_track side homes frames fetch requests o rule law play.rack play.known (2 * fetch * length requests) (first side homes frames fetch requests rule o play law fit) begins

  follows_it : Follows side homes frames fetch requests o rule (plan_from side homes frames fetch requests rule o)
  unfolding plan_from
  follows_it =
      let k = pass_keeps side homes frames fetch requests rule o play law fit in
      let h = ends.1 in
      let plan : Plan = plan_from side homes frames fetch requests rule o in
      record {
        opens_so = refl;
        formed = keeps_form side homes frames fetch requests plan play.rack.lasts k;
        starts_so = h.starts_so;
        serves_if = λ t l r. h.serves_if t l (during_down fetch o plan.exchanges (wanted requests plan.acts t) t r);
        serves_only = k.serves;
        goes_on = h.goes_on;
        ends_so = k.all_served;
      }

pub pass_follows : PassFollows
pass_follows side homes frames fetch requests o rule play law fit =
    let h = follows_it side homes frames fetch requests o rule play law fit in
    record { follows = h; only = λ plan f. only_one side homes frames fetch requests o rule plan (plan_from side homes frames fetch requests rule o) f h }
