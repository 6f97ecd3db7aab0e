use Rattle.std.proofs.Common.{ℕ, suc, ◌≤◌, length, take, sym, refl, ap, ◌∙◌, arith}
use Rattle.std.proofs.lemmas.List.{length-take-le}
use Rattle.std.proofs.lemmas.Result.{err_from_is_err_and}
use Rattle.model.specs.Verdict.{State}
use Rattle.sheet.specs.Sheets.{meant}
use Rattle.plan.specs.Endings.{counted}
use Rattle.plan.specs.Steps.{run_for, step_for, step_left, step_answer}
use Rattle.plan.specs.Tracks.{whole, reached}
use Rattle.model.proofs.Comes.{comes_on}
use Rattle.plan.proofs.Looped.{went, comes_at, closes, goes_on, stops_here, ends_here, begins, answers_ok, answers_err}
use Rattle.records.proofs.Pushed.{pushed_on}
use Rattle.plan.proofs.verdict.judge.Goals as goal

pub loop-reader-init : goal.loop-reader-init
loop-reader-init g c =
    let side = g.S.Lane.side in
    let sheet = meant c.args.sheet in
    let bytes = c.args.bytes.now in
    let l = c.args.list.now in
    let room = length l.slots.now in
    let start = ap (λ (n : ℕ). whole c.new-track.result (take n l.slots.now)) c.requires ∙ c.new-track.ensures in
    let low = ap (λ (s : State). s.boundary) c.new-track.ensures in
    let all = c.new-reader.ensures.rest in
    let total = c.new-reader.ensures.total in
    record {
      steps = omega (arith, low, total, ap length all);
      total = total;
      pushed = record { room = refl; grows = omega arith; later = refl; lent = refl };
      come = comes_at side sheet room bytes _ _ start all;
      runs = (λ i. run_for side sheet room (suc (length bytes)) (total i) (start i) (all i)) ∙ begins side sheet room bytes;
    }

pub returns-in_err-reader-clause-pushed : goal.returns-in_err-reader-clause-pushed
returns-in_err-reader-clause-pushed g c = pushed_on _ _ _ c.loop-reader.invariant.pushed c.step.ensures.pushed

pub returns-in_err-reader-clause-outcome : goal.returns-in_err-reader-clause-outcome
returns-in_err-reader-clause-outcome g c =
    let side = g.S.Lane.side in
    let sheet = meant c.args.sheet in
    let bytes = c.args.bytes.now in
    let l = c.loop-reader.list in
    let total = c.loop-reader.reader.bytes.total in
    let rest = c.loop-reader.reader.bytes.rest.now in
    let s = reached c.loop-reader.track l in
    let f = c.in_err-reader.field-0.0 in
    let inv = c.loop-reader.invariant in
    let incomplete = sym (c.loop-reader-test.ensures (take l.len l.slots.now)) in
    let told = c.in_err-reader.ensures.answer ∙ ap (λ (n : ℕ). step_answer (step_for side sheet n total s rest)) inv.pushed.room in
    let kept = c.step.ensures.after ∙ ap (λ (n : ℕ). step_left s (step_for side sheet n total s rest)) inv.pushed.room in
    let residual = err_from_is_err_and c.from_residual.result c.from_residual.ensures.1 in
    let stop = stops_here side sheet _ (length bytes) total s rest _ inv.runs f incomplete told in
    answers_err (counted c.from_residual.result) _ f s (reached c.step.new.self c.step.new.list) _ (ap counted residual.1) residual.2 (kept ∙ stop.1) stop.0

pub loop-reader-preserved : goal.loop-reader-preserved
loop-reader-preserved g c =
    let side = g.S.Lane.side in
    let sheet = meant c.args.sheet in
    let bytes = c.args.bytes.now in
    let l = c.loop-reader.list in
    let total = c.loop-reader.reader.bytes.total in
    let rest = c.loop-reader.reader.bytes.rest.now in
    let more = c.in_ok-reader.reader.bytes.rest.now in
    let s = reached c.loop-reader.track l in
    let t = reached c.step.new.self c.step.new.list in
    let inv = c.loop-reader.invariant in
    let incomplete = sym (c.loop-reader-test.ensures (take l.len l.slots.now)) in
    let told = c.in_ok-reader.ensures.answer ∙ ap (λ (n : ℕ). step_answer (step_for side sheet n total s rest)) inv.pushed.room in
    let made = c.in_ok-reader.ensures.after ∙ ap (λ (n : ℕ). step_left s (step_for side sheet n total s rest)) inv.pushed.room in
    let shorter = c.in_ok-reader.ensures.shorter in
    let long : length rest ≤ length bytes = omega (arith, inv.steps, inv.total) in
    let on = goes_on side sheet _ (length bytes) total s rest _ inv.runs t more long incomplete told made in
    let turn = ap (λ (n : ℕ). step_for side sheet (length c.args.list.now.slots.now) n s rest) (sym inv.total) ∙ went (step_for side sheet (length c.args.list.now.slots.now) total s rest) s t more told made in
    record {
      steps = omega (arith, shorter.1, shorter.2);
      total = shorter.2 ∙ inv.total;
      pushed = pushed_on _ _ _ inv.pushed c.in_ok-reader.ensures.pushed;
      come = comes_on side sheet.rack.homes sheet.rack.frames sheet.rack.fetch sheet.requests _ bytes s rest t more inv.come turn;
      runs = ap (λ (n : ℕ). run_for side sheet (length c.args.list.now.slots.now) (suc (length bytes)) n t more) shorter.2 ∙ on;
    }

pub returns-clause-outcome : goal.returns-clause-outcome
returns-clause-outcome g c =
    let l = c.loop-reader.list in
    let xs = take l.len l.slots.now in
    let s = reached c.loop-reader.track l in
    let over = ends_here g.S.Lane.side (meant c.args.sheet) _ (length c.args.bytes.now) c.loop-reader.reader.bytes.total s c.loop-reader.reader.bytes.rest.now _ c.loop-reader.invariant.runs (sym (c.loop-reader-test.ensures xs)) in
    answers_ok _ s _ refl refl (c.len.ensures ∙ sym (length-take-le l.len l.slots.now l.fits)) over

pub returns-clause-closing : goal.returns-clause-closing
returns-clause-closing g c =
    let l = c.loop-reader.list in
    let s = reached c.loop-reader.track l in
    let done = sym (c.loop-reader-test.ensures (take l.len l.slots.now)) in
    λ plan w few. closes g.S.Lane.side c.args.sheet _ c.args.bytes.now (λ i l. (c.type_inv.bytes i).fits) plan w few s c.loop-reader.reader.bytes.rest.now c.loop-reader.invariant.come done
