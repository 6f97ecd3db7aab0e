use Rattle.std.proofs.Common.{◌≡◌, ℕ, List, length}
use Rattle.model.specs.Timetable.{Plan}
use Rattle.plan.specs.Rewinds.{Rewound, mirror_to}
use Rattle.plan.specs.Writers.{Said}
use Rattle.plan.proofs.writer.Writer.write_steps.Given as goal

abbrev pub invariant-loop-step : goal.invariant-loop-step
invariant-loop-step l =
    record {
      rewound : (plan : Plan) → Rewound plan 0 l.rewind → l.steps ≡ length plan.acts → Rewound plan l.step l.reached;
      more : (plan : Plan) (o area : List ℕ) → Rewound plan 0 l.rewind → l.steps ≡ length plan.acts → Said (mirror_to o l.rewind.fetch plan 0 (length l.rewind.left.now)) area l.initial.self → Said (mirror_to o l.rewind.fetch plan l.step (length l.reached.left.now)) area l.self;
      fetch : l.reached.fetch ≡ l.rewind.fetch;
      lent : l.self.area.ghost_name ≡ l.initial.self.area.ghost_name;
    }
