-- The worked passes, computed.
use Rattle.std.proofs.Common.{◌≡◌, [], ◌∷◌, map, refl}
use Rattle.model.specs.Timetable.{Forward, Serve, count, home, waited}
use Rattle.model.specs.PlanBytes.{plan_commands, step_commands, starting_at}
use Rattle.model.specs.Verdict.{after, blank_marks, blank_idle}
use Rattle.model.specs.Mirror.{picked}
use Rattle.model.specs.View.{first_at, greatest}
use Rattle.model.specs.Rules.{Rule, lowest_free}
use Rattle.model.specs.Pass.{each, different, usual_opening, opens, asks_need, asks_ahead, asks_disks, asks_all, turn, runs, passed, plan_from}
use Rattle.model.specs.WorkedPasses.{WorkedPasses, contrary, demanded_commands, full64}
use Rattle.model.specs.Worked.{homes6, requests6}

contrary_rules : map (λ (r : Rule). plan_commands (plan_from Forward homes6 4 2 requests6 r (0 ∷ 1 ∷ 3 ∷ 5 ∷ []))) contrary ≡ map (λ (r : Rule). demanded_commands) contrary
unfolding count home waited plan_commands step_commands starting_at after blank_marks blank_idle picked first_at greatest lowest_free each different usual_opening opens asks_need asks_ahead asks_disks asks_all turn runs passed plan_from
contrary_rules = refl

opening64 : full64.opening ≡ each (λ b. b) 64
unfolding count home waited plan_commands step_commands starting_at after blank_marks blank_idle picked first_at greatest lowest_free each different usual_opening opens asks_need asks_ahead asks_disks asks_all turn runs passed plan_from
opening64 = refl

acts64 : full64.acts ≡ Serve ∷ Serve ∷ []
unfolding count home waited plan_commands step_commands starting_at after blank_marks blank_idle picked first_at greatest lowest_free each different usual_opening opens asks_need asks_ahead asks_disks asks_all turn runs passed plan_from
acts64 = refl

exchanges64 : full64.exchanges ≡ []
unfolding count home waited plan_commands step_commands starting_at after blank_marks blank_idle picked first_at greatest lowest_free each different usual_opening opens asks_need asks_ahead asks_disks asks_all turn runs passed plan_from
exchanges64 = refl

pub worked_passes : WorkedPasses
unfolding count home waited plan_commands step_commands starting_at after blank_marks blank_idle picked first_at greatest lowest_free each different usual_opening opens asks_need asks_ahead asks_disks asks_all turn runs passed plan_from
worked_passes =
    record {
      rows = refl;
      demand_commands = refl;
      demand_steps = refl;
      demand_waits = refl;
      demand_trades = refl;
      contrary_starts = contrary_rules;
      full_opening = opening64;
      full_acts = acts64;
      full_exchanges = exchanges64;
    }
