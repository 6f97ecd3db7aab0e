-- A plan is determined by its bytes: reading commands off the bytes gives them back.
use Rattle.std.proofs.Common.{◌≡◌, ℕ, zero, suc, ◌<◌, List, [], ◌∷◌, length, drop, sym, ap, ◌∙◌, subst, arith}
use Rattle.std.specs.List.{flat_map}
use Rattle.model.specs.PlanBytes.{Command, command_bytes, plan_commands, plan_bytes}
use Rattle.model.specs.Verdict.{Found, Missing, Strange, Known, found, size}
use Rattle.model.specs.Statements.{OnePlan, KeepsForm}
use Rattle.model.proofs.Reading.{found_front, found_none, drop_front, length_front, size_some}
use Rattle.model.proofs.Gather.{gather, gather_plan}

-- what is read off the front, as often as the number says
abbrev pub off_front : (List ℕ → List Command) → List ℕ → Found → List Command
off_front go rest Missing = []
off_front go rest Strange = []
off_front go rest (Known c) = c ∷ go (drop (size c) rest)

unfoldable pub commands_in : ℕ → List ℕ → List Command
commands_in zero rest = []
commands_in (suc n) rest = off_front (λ more. commands_in n more) rest (found rest)

commands_back : (cs : List Command) (n : ℕ) → length (flat_map command_bytes cs) < n → commands_in n (flat_map command_bytes cs) ≡ cs
unfolding commands_in
commands_back cs zero h = absurd (omega arith)
commands_back [] (suc n) h = rw found_none
commands_back (c ∷ cs) (suc n) h =
    let rest : List ℕ = flat_map command_bytes cs in
    rw (found_front c rest, drop_front c rest) (ap (λ (ds : List Command). c ∷ ds) (commands_back cs n (omega (arith, length_front c rest, size_some c))))

pub one_plan : OnePlan
unfolding plan_bytes
one_plan p q fp fq e =
    let n : ℕ = suc (length (plan_bytes p)) in
    let i : commands_in n (plan_bytes p) ≡ plan_commands p = commands_back (plan_commands p) n (omega arith) in
    let j : commands_in n (plan_bytes q) ≡ plan_commands q = commands_back (plan_commands q) n (subst (λ (b : List ℕ). length b < n) e (omega arith)) in
    let k : plan_commands p ≡ plan_commands q = sym i ∙ (ap (λ (b : List ℕ). commands_in n b) e ∙ j) in
    sym (gather_plan p fp.in_order fp.before_step) ∙ (ap (λ (cs : List Command). gather [] [] [] cs) k ∙ gather_plan q fq.in_order fq.before_step)

pub keeps_form : KeepsForm
keeps_form side homes frames fetch requests plan f k =
    record { in_order = k.in_order; before_step = λ i l. omega (arith, k.all_land i l) }
