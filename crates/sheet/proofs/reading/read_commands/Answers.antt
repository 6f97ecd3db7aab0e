use Rattle.std.proofs.Common.{◌≡◌, ℕ, suc, List, length, Ok, sym, refl, ap, ◌∙◌, subst, arith}
use Rattle.std.proofs.lemmas.List.{length-take-le}
use Rattle.std.proofs.lemmas.Result.{err_from_is_err_and}
use Rattle.sheet.specs.Drafts.{so_far}
use Rattle.sheet.specs.Headers.{outcome_of}
use Rattle.sheet.specs.Reading.{Outcome, SoFar, sheet_said, turn, turn_left, reading}
use Rattle.sheet.proofs.Kept.{known_read}
use Rattle.sheet.proofs.Only.{Told, told}
use Rattle.records.proofs.Pushed.{pushed_on}
use Rattle.sheet.proofs.Runs.{went_on, was_stopped, leads_on, leads_to_end, leads_to_stop, answer_ok, answer_err}
use Rattle.sheet.proofs.reading.read_commands.Goals as goal

pub loop-reader-init : goal.loop-reader-init
unfolding reading
loop-reader-init c =
    let bytes = c.args.bytes.now in
    let slots = c.args.list.now.slots.now in
    let start = ap (λ n. so_far c.new-draft.result n slots) c.requires ∙ c.new-draft.ensures slots in
    record {
      pushed = record { room = refl; grows = omega arith; later = refl; lent = refl };
      leads = (suc (length bytes), rw c.new-reader.ensures.rest (omega arith), rw (c.new-reader.ensures.total, c.new-reader.ensures.rest, start) refl);
    }

pub loop-reader-preserved : goal.loop-reader-preserved
loop-reader-preserved c =
    let total = c.loop-reader.reader.total in
    let rest = c.loop-reader.reader.rest.now in
    let l = c.loop-reader.list in
    let s = so_far c.loop-reader.draft l.len l.slots.now in
    let told = c.in_ok-reader.ensures in
    let incomplete = sym c.loop-reader-test.ensures in
    let on = went_on (turn total rest s) s _ _ told.answer told.after in
    record {
      pushed = pushed_on _ _ _ c.loop-reader.invariant.pushed told.pushed;
      leads = rw told.total (leads_on total rest s _ _ _ incomplete on told.shorter c.loop-reader.invariant.leads);
    }

-- the whole reading, where the loop has ended
pub header-requires : goal.header-requires
header-requires c =
    let l = c.loop-reader.list in
    let s = so_far c.loop-reader.draft l.len l.slots.now in
    let slots = c.args.list.now.slots.now in
    let bytes = c.args.bytes.now in
    let done = leads_to_end c.loop-reader.reader.total c.loop-reader.reader.rest.now s _ (sym c.loop-reader-test.ensures) c.loop-reader.invariant.leads in
    let all = told bytes slots (λ i. omega (arith, c.type_inv.bytes i)) in
    let fits = (subst (λ (o : Outcome). Told bytes slots o.verdict o.slots) done all).0 in
    let long = length-take-le l.len l.slots.now l.fits in
    record { rack = fits.rack; few = omega (arith, fits.few, c.len.ensures) }

-- what the header says with the list's slots
read_to_end : (c : goal.After-header) → outcome_of (Ok c.header.result) c.loop-reader.list.slots.now ≡ reading c.args.bytes.now c.args.list.now.slots.now
read_to_end c =
    let l = c.loop-reader.list in
    let s = so_far c.loop-reader.draft l.len l.slots.now in
    let done = leads_to_end c.loop-reader.reader.total c.loop-reader.reader.rest.now s _ (sym c.loop-reader-test.ensures) c.loop-reader.invariant.leads in
    let said = λ (xs : List ℕ). c.header.ensures.sheet xs ∙ ap (λ n. sheet_said (so_far c.loop-reader.draft n xs)) c.len.ensures in
    answer_ok c.header.result c.loop-reader.draft l.len l.slots.now _ said done

pub returns-clause-outcome : goal.returns-clause-outcome
returns-clause-outcome c = read_to_end c

pub returns-clause-known : goal.returns-clause-known
returns-clause-known c =
    known_read (Ok c.header.result) c.args.bytes.now _ c.loop-reader.list.slots.now (λ i. omega (arith, c.type_inv.bytes i)) (read_to_end c) (omega (arith, c.header.ensures.requests, c.len.ensures, c.loop-reader.list.fits))

pub returns-in_err-reader-clause-pushed : goal.returns-in_err-reader-clause-pushed
returns-in_err-reader-clause-pushed c = pushed_on _ _ _ c.loop-reader.invariant.pushed c.step.ensures.pushed

pub returns-in_err-reader-clause-outcome : goal.returns-in_err-reader-clause-outcome
returns-in_err-reader-clause-outcome c =
    let total = c.loop-reader.reader.total in
    let rest = c.loop-reader.reader.rest.now in
    let l = c.loop-reader.list in
    let s = so_far c.loop-reader.draft l.len l.slots.now in
    let f = c.in_err-reader.field-0.0 in
    let incomplete = sym c.loop-reader-test.ensures in
    let stop = was_stopped (turn total rest s) f c.in_err-reader.ensures.answer in
    let residual = err_from_is_err_and c.from_residual.result c.from_residual.ensures.1 in
    let kept = ap (λ (t : SoFar). t.slots) (c.step.ensures.after ∙ ap (turn_left s) stop) in
    answer_err _ f _ l.slots.now _ _ residual.1 residual.2 kept (leads_to_stop total rest s _ f incomplete stop c.loop-reader.invariant.leads)
