use Rattle.std.proofs.Common.{◌≡◌, true, ltb, [], ◌∷◌, ◌++◌, length, take, Ok, Err, sym, refl, ap, ◌∙◌, subst}
use Rattle.std.proofs.lemmas.List.{length-take-le}
use Rattle.std.proofs.lemmas.Bool.{cond-true, ltb-true}
use Rattle.model.specs.Sheet.{Rack}
use Rattle.model.specs.Timetable.{occupies}
use Rattle.model.specs.declared.Exchange.{Exchange}
use Rattle.model.specs.declared.Command.TheVariants.{Trades}
use Rattle.sheet.specs.Sheets.{meant}
use Rattle.plan.specs.Noted.{started}
use Rattle.plan.specs.Tracks.{whole, reached, finding, answered, if_room}
use Rattle.records.proofs.Pushes.{room_by}
use Rattle.plan.proofs.Traded.{kept_by, made_by, one_more, with_room, started_is}
use Rattle.plan.proofs.track.Track.trade.Goals as goal

pub returns-in_err-disk-clause-after : goal.returns-in_err-disk-clause-after
returns-in_err-disk-clause-after g c =
    let l = c.args.list.now in
    let s = reached c.args.self.now l in
    let e = c.in_err-disk.field-0.0 in
    let judged = subst (λ (x : Exchange). Err e ≡ answered (finding g.S.Lane.side (meant c.args.sheet) (length l.slots.now) s (Trades x.brings x.sends))) c.exchange-exchange.ensures (c.in_err-disk.ensures.answer (length l.slots.now) (take l.len l.slots.now)) in
    kept_by _ e s _ judged

pub returns-clause-after : goal.returns-clause-after
returns-clause-after g c =
    let l = c.args.list.now in
    let side = g.S.Lane.side in
    let sheet = meant c.args.sheet in
    let slots = l.slots.now in
    let room = length slots in
    let t = c.args.self.now in
    let xs = take l.len slots in
    let s = reached t l in
    let k = c.push.new.self in
    let x = c.exchange-exchange.ensures in
    let roomy : ltb l.len room ≡ true = room_by _ _ _ _ (sym c.push.ensures.answer ∙ c.in_ok-push.was) in
    let judged = subst (λ (y : Exchange). if_room (ltb (length xs) room) (Ok tt) ≡ answered (finding side sheet room s (Trades y.brings y.sends))) x (c.in_ok-disk.ensures.answer room xs) in
    let answer = with_room true xs l.len room (Ok tt) _ (length-take-le l.len slots l.fits) roomy refl judged in
    let more = c.push.ensures.len ∙ cond-true _ _ _ roomy in
    let fetch = c.fetch.ensures.fetch ∙ ap (λ (r : Rack). r.fetch) c.rack.ensures in
    let disk = c.in_ok-disk.ensures.disk ∙ ap (λ (y : Exchange). occupies side sheet.rack.homes y) x in
    let ys = one_more l.len k.len slots k.slots.now _ more c.push.ensures.slots (ltb-true l.len room roomy) ∙ ap (λ (y : Exchange). xs ++ y ∷ []) x in
    let noted = c.note_trade.ensures (take k.len k.slots.now) ∙ (λ i. started (whole t (ys i)) (x i).brings (x i).sends c.in_ok-disk.disk c.fetch.result) in
    made_by _ s _ _ answer (started_is side sheet room s c.args.brings c.args.sends _ _ _ fetch disk noted)
