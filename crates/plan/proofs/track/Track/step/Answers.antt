use Rattle.sheet.specs.Sheets.{meant}
use Rattle.plan.specs.Tracks.{reached}
use Rattle.plan.proofs.Turned.{strange_answer, strange_after, in_limit, faulty_answer, faulty_after, clean_answer, clean_after, shorter}
use Rattle.plan.proofs.track.Track.step.Goals as goal

pub returns-in_err-command-clause-answer : goal.returns-in_err-command-clause-answer
returns-in_err-command-clause-answer g c = strange_answer _ (meant c.args.sheet) _ _ _ _ _ c.admit.ensures _ c.in_err-command.ensures _ c.from_residual.ensures.1

pub returns-in_err-command-clause-after : goal.returns-in_err-command-clause-after
returns-in_err-command-clause-after g c = strange_after _ (meant c.args.sheet) _ _ _ _ _ c.admit.ensures _ c.in_err-command.ensures

pub take-requires : goal.take-requires
take-requires g c = in_limit g.S.Lane.side (meant c.args.sheet) 0 _ (reached c.args.self.now c.args.list.now) _ _ c.admit.ensures _ c.in_ok-command.ensures c.requires

pub returns-in_err-told-clause-answer : goal.returns-in_err-told-clause-answer
returns-in_err-told-clause-answer g c = faulty_answer _ (meant c.args.sheet) _ _ _ _ _ c.admit.ensures _ c.in_ok-command.ensures _ c.take.ensures.answer _ c.take.ensures.after _ c.in_err-told.ensures _ c.from_residual-in_err-told.ensures.1

pub returns-in_err-told-clause-after : goal.returns-in_err-told-clause-after
returns-in_err-told-clause-after g c = faulty_after _ (meant c.args.sheet) _ _ _ _ _ c.admit.ensures _ c.in_ok-command.ensures _ c.take.ensures.answer _ c.take.ensures.after _ c.in_err-told.ensures

pub returns-clause-answer : goal.returns-clause-answer
returns-clause-answer g c = clean_answer _ (meant c.args.sheet) _ _ _ _ _ c.admit.ensures _ c.in_ok-command.ensures _ c.take.ensures.answer _ c.take.ensures.after c.in_ok-told.ensures _ c.past.ensures.rest

pub returns-clause-after : goal.returns-clause-after
returns-clause-after g c = clean_after _ (meant c.args.sheet) _ _ _ _ _ c.admit.ensures _ c.in_ok-command.ensures _ c.take.ensures.answer _ c.take.ensures.after c.in_ok-told.ensures

pub returns-clause-shorter : goal.returns-clause-shorter
returns-clause-shorter g c =
    let less = shorter _ (meant c.args.sheet) _ _ _ _ _ c.admit.ensures _ c.in_ok-command.ensures _ c.take.ensures.answer _ c.take.ensures.after c.in_ok-told.ensures c.requires _ c.past.ensures.rest in
    (less.0, less.1, c.past.ensures.total)
