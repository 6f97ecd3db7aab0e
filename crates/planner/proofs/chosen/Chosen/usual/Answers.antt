use Rattle.std.proofs.Common.{◌≡◌, ◌++◌, ap, ◌∙◌}
use Rattle.std.proofs.lemmas.List.{append-nil}
use Rattle.model.specs.Pass.{each}
use Rattle.model.specs.Sheet.{Rack}
use Rattle.sheet.specs.Sheets.{meant}
use Rattle.planner.specs.Openings.{first_of}
use Rattle.planner.proofs.Marking.{marks_block}
use Rattle.planner.proofs.chosen.Chosen.usual.Goals as goal

pub loop-block-init : goal.loop-block-init
unfolding each
loop-block-init c = rw (append-nil (meant c.args.sheet).requests) c.requested-chosen.ensures

pub loop-block-preserved : goal.loop-block-preserved
loop-block-preserved c =
    let s = meant c.args.sheet in
    let b = c.loop-block.block in
    let enough : c.frames.result ≡ s.rack.frames = c.frames.ensures.frames ∙ ap (λ (r : Rack). r.frames) c.rack-in-loop-block.ensures in
    marks_block _ _ s.rack.frames c.frames.result s.requests b enough (c.add.ensures (first_of s (s.requests ++ each (λ x. x) b)) c.loop-block.invariant)
