-- The plan that bytes are, and how a plan that was followed ends. Assumes nothing.
use Rattle.std.proofs.Common.{◌≡◌, ℕ, zero, suc, ◌<◌, ◌≤◌, List, [], ◌∷◌, ◌++◌, length, get_or, take, drop, Ok, Err, Result, sym, refl, ap, ◌∙◌, subst, arith}
use Rattle.std.specs.Prelude.{IfOk}
use Rattle.std.specs.List.{flat_map}
use Rattle.std.proofs.lemmas.List.{length-drop, length-append, take_at}
use Rattle.records.specs.Records.{written_over}
use Rattle.model.specs.Sheet.{Sheet}
use Rattle.model.specs.Timetable.{Side, Plan}
use Rattle.model.specs.PlanBytes.{command_bytes, plan_bytes, plan_commands}
use Rattle.model.specs.Mirror.{closing}
use Rattle.model.specs.Statements.{plan_outcome}
use Rattle.model.specs.declared.Command.{Command}
use Rattle.model.specs.declared.Command.TheVariants.{Opens, Trades, Serves, Waits, Ends}
use Rattle.model.specs.declared.Exchange.{Exchange}
use Rattle.model.specs.Verdict.{Accepted, Outcome, size}
use Rattle.model.proofs.Gather.{gather, gather_plan}
use Rattle.model.proofs.Letters.{plan_size}
use Rattle.model.proofs.Once.{keeps_form}
use Rattle.model.proofs.Reading.{found_front, drop_front, found_none, length_front, size_some}
use Rattle.sheet.specs.Sheets.{meant}
use Rattle.sheet.specs.declared.view.Sheet.{Sheet as Lent}
use Rattle.plan.specs.declared.ending.Ending.{Ending}
use Rattle.plan.specs.Checks.{WrittenFor, outcome_of}
use Rattle.plan.specs.Endings.{counted, ClosesAs, Ended}
use Rattle.plan.specs.Numbers.{PlanFault}
use Rattle.plan.specs.Plans.{followed_by, commands_in, with_commands, plan_in}
use Rattle.plan.specs.Steps.{verdict_for}
use Rattle.plan.proofs.Exactness.{rack_fit, exact_on, answer_is, slots_are}

-- commands that are written are read again
commands_back : (cs : List Command) (n : ℕ) → length (flat_map command_bytes cs) ≤ n → commands_in n (flat_map command_bytes cs) ≡ cs
commands_back [] zero l = refl
commands_back [] (suc n) l = ap (followed_by (λ c. commands_in n (drop (size c) []))) found_none
commands_back (c ∷ cs) zero l = absurd (omega (arith, length_front c (flat_map command_bytes cs), size_some c))
commands_back (c ∷ cs) (suc n) l =
    let rest = flat_map command_bytes cs in
    let more = λ (d : Command). commands_in n (drop (size d) (command_bytes c ++ rest)) in
    ap (followed_by more) (found_front c rest)
    ∙ ap (λ (ds : List Command). c ∷ ds) (ap (commands_in n) (drop_front c rest) ∙ commands_back cs n (omega (arith, length_front c rest, size_some c)))

-- what commands make, as the model gathers it
gathered : (cs : List Command) (p : Plan) → with_commands p cs ≡ gather p.opening p.acts p.exchanges cs
gathered [] p = refl
gathered (Opens b ∷ cs) p = gathered cs _
gathered (Trades a b ∷ cs) p = gathered cs _
gathered (Serves ∷ cs) p = gathered cs _
gathered (Waits ∷ cs) p = gathered cs _
gathered (Ends ∷ cs) p = gathered cs p

pub plan_back : (side : Side) (sheet : Sheet) (bytes : List ℕ) (plan : Plan) → 0 < sheet.rack.fetch → WrittenFor side sheet bytes plan → plan_in bytes ≡ plan
unfolding plan_bytes
plan_back side sheet bytes plan f w =
    ap plan_in w.written
    ∙ gathered (commands_in (length (plan_bytes plan)) (plan_bytes plan)) _
    ∙ ap (gather [] [] []) (commands_back (plan_commands plan) (length (plan_bytes plan)) (omega arith))
    ∙ gather_plan plan w.keeps.in_order (λ i l. omega (arith, w.keeps.all_land i l, f))

-- the first slots, where they were written over by records
first_slots : (xs slots : List Exchange) (n : ℕ) → length xs ≡ n → take n (written_over xs slots) ≡ xs
first_slots xs slots n e = take_at xs (drop (length xs) slots) n e

ended_as : (side : Side) (sheet : Lent) (bytes : List ℕ) (slots new : List Exchange) (e : Ending) → ((i : ℕ) → i < length bytes → get_or bytes i 0 < 256) →
    Accepted e.counts.steps e.counts.waits e.counts.exchanges ≡ (verdict_for side (meant sheet) (length slots) bytes).answer → new ≡ written_over (verdict_for side (meant sheet) (length slots) bytes).records slots → length new ≡ length slots →
    ClosesAs side (meant sheet) (length slots) bytes e → Ended side (meant sheet) bytes new e
ended_as side sheet bytes slots new e small said over same closes =
    let m = meant sheet in
    let f : 0 < m.rack.fetch = (rack_fit sheet.rack.now).lasts in
    let w = (exact_on side sheet (length slots) bytes small).only e.counts.steps e.counts.waits e.counts.exchanges (sym said) in
    let plan : Plan = w.0 in
    let back : plan ≡ plan_in bytes = sym (plan_back side m bytes plan f w.1) in
    let counts : Accepted e.counts.steps e.counts.waits e.counts.exchanges ≡ (plan_outcome plan).answer = said ∙ ap (λ (o : Outcome). o.answer) w.2 in
    let steps : e.counts.steps ≡ length plan.acts = cc in
    let exchanges : e.counts.exchanges ≡ length plan.exchanges = cc in
    let made : new ≡ written_over plan.exchanges slots = over ∙ ap (λ (o : Outcome). written_over o.records slots) w.2 in
    let room : length plan.exchanges ≤ length slots = omega (arith, ap length made, length-append plan.exchanges (drop (length plan.exchanges) slots), length-drop (length plan.exchanges) slots, same) in
    let size = plan_size plan (keeps_form side m.rack.homes m.rack.frames m.rack.fetch m.requests plan f w.1.keeps) in
    record {
      written = subst (WrittenFor side m bytes) back w.1;
      fits = omega (arith, exchanges, room, same);
      listed = ap (take e.counts.exchanges) made ∙ first_slots plan.exchanges slots e.counts.exchanges (sym exchanges) ∙ ap (λ (p : Plan). p.exchanges) back;
      few = omega (arith, exchanges, size, ap length w.1.written);
      steps = steps ∙ ap (λ (p : Plan). length p.acts) back;
      closes = closes plan w.1 room ∙ ap (λ (p : Plan). closing (length m.rack.homes) m.rack.fetch p) back;
    }

pub ends_as : (side : Side) (sheet : Lent) (bytes : List ℕ) (slots new : List Exchange) (len : ℕ) (r : Result Ending PlanFault) → ((i : ℕ) → i < length bytes → get_or bytes i 0 < 256) →
    outcome_of (counted r) (take len new) ≡ verdict_for side (meant sheet) (length slots) bytes → len ≤ length new → drop len new ≡ drop len slots → length new ≡ length slots →
    IfOk r (ClosesAs side (meant sheet) (length slots) bytes) → IfOk r (Ended side (meant sheet) bytes new)
ends_as side sheet bytes slots new len (Ok e) small out l later same closes =
    ended_as side sheet bytes slots new e small (answer_is (Ok e.counts) _ _ out) (slots_are (Ok e.counts) len new slots _ l out later) same closes
ends_as side sheet bytes slots new len (Err f) small out l later same closes = tt
