use Rattle.std.proofs.Common.{◌≡◌, ℕ, List, []}
use Rattle.model.specs.PlanBytes.{so_far}
use Rattle.plan.specs.Endings.{staying}
use Rattle.plan.specs.Writers.{Said}
use Rattle.plan.proofs.writer.Writer.open.Given as goal

abbrev pub invariant-loop-block : goal.invariant-loop-block
invariant-loop-block l =
    record {
      more : (area : List ℕ) → Said [] area l.initial.self → Said (so_far (staying l.ending l.block) [] []) area l.self;
      lent : l.self.area.ghost_name ≡ l.initial.self.area.ghost_name;
    }
