use Rattle.std.proofs.Common.{◌≡◌, ℕ, ◌-◌, length, take, ap, ◌∙◌, arith}
use Rattle.model.specs.Sheet.{Rack}
use Rattle.sheet.specs.Sheets.{meant}
use Rattle.plan.specs.Endings.{staying}
use Rattle.plan.specs.Plans.{plan_in}
use Rattle.plan.proofs.Exactness.{rack_fit}
use Rattle.plan.proofs.Mirrored.{rewound_first, said_first, said_last}
use Rattle.plan.proofs.writer.Writer.write_mirror.Goals as goal

pub returns-clause-whole : goal.returns-clause-whole
returns-clause-whole g c =
    let a = c.args in
    let side = g.S.Lane.side in
    let m = meant a.sheet in
    let e = a.ending.now in
    let plan = plan_in a.plan.now in
    let start = c.new-rewind.ensures in
    let part : take (e.counts.exchanges - 0) a.slots.now ≡ take e.counts.exchanges a.slots.now = ap (λ (n : ℕ). take n a.slots.now) (omega arith) in
    let frames = start.frames ∙ ap (λ (r : Rack). r.frames) c.rack-rack.ensures in
    let fetch = start.fetch ∙ ap (λ (r : Rack). r.fetch) c.rack-rack.ensures in
    let blocks = c.blocks-2.ensures.blocks ∙ ap (λ (r : Rack). length r.homes) c.rack-rack.ensures in
    let some = (rack_fit a.sheet.rack.now).lasts in
    let o = staying e c.blocks-2.result in
    let first = rewound_first side m a.plan.now a.slots.now e some c.requires c.new-rewind.result start.plan frames fetch (start.left ∙ part) (start.started ∙ part) in
    λ area w.
    let opened = said_first side m a.plan.now a.slots.now e some c.requires o area c.new-rewind.result.fetch _ _ (ap length (start.left ∙ part ∙ c.requires.listed)) (c.open.ensures.more area w) in
    let steps = c.write_steps.ensures.more plan o area first c.requires.steps opened in
    said_last side m a.plan.now a.slots.now e some c.requires o area c.new-rewind.result.fetch _ fetch (ap (staying e) blocks) (c.write.ensures.more _ area steps)
