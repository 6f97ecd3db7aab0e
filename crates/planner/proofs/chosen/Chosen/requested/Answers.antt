use Rattle.std.proofs.Common.{◌≡◌, take, ap, ◌∙◌, arith}
use Rattle.model.specs.Sheet.{Rack}
use Rattle.sheet.specs.Sheets.{meant}
use Rattle.planner.specs.Openings.{first_of}
use Rattle.planner.proofs.Marking.{first_nothing, marks_request}
use Rattle.planner.proofs.chosen.Chosen.requested.Goals as goal

pub loop-position-init : goal.loop-position-init
loop-position-init c = rw (first_nothing (meant c.args.sheet).rack.frames) c.none-chosen.ensures

pub loop-position-preserved : goal.loop-position-preserved
loop-position-preserved c =
    let s = meant c.args.sheet in
    let i = c.loop-position.position in
    let enough : c.frames.result ≡ s.rack.frames = c.frames.ensures.frames ∙ ap (λ (r : Rack). r.frames) c.rack.ensures in
    marks_request _ _ s.rack.frames c.frames.result s.requests i c.block_at.result (omega arith) c.block_at.ensures.is enough (c.add.ensures (first_of s (take i s.requests)) c.loop-position.invariant)
