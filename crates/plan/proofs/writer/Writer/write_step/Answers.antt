use Rattle.std.proofs.Common.{refl}
use Rattle.plan.proofs.StepBack.{rewound_on, step_on}
use Rattle.plan.proofs.writer.Writer.write_step.Goals as goal

pub returns-clause-rewound : goal.returns-clause-rewound
returns-clause-rewound c =
    let w = c.write_landed-left.ensures in
    λ plan t h at. rewound_on plan t c.args.boundary c.args.rewind h at c.requires c.write_landed-left.result.now c.started_by-started.result.now w.front w.last w.landed c.started_by-started.ensures _ refl refl refl refl refl

pub returns-clause-more : goal.returns-clause-more
returns-clause-more c =
    let w = c.write_landed-left.ensures in
    λ plan o area t h at told.
    step_on plan t c.args.boundary c.args.rewind h at c.requires c.write_landed-left.result.now c.started_by-started.result.now w.front w.last w.landed c.started_by-started.ensures
    o area c.letter-letter.result c.step_by.result _ c.letter-letter.ensures c.step_by.ensures (c.write.ensures.more _ area (w.more plan o area t h.left at told))
