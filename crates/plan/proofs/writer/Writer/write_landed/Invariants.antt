use Rattle.std.proofs.Common.{◌≡◌, ℕ, ◌+◌, ◌<◌, ◌≤◌, List, length, get_or}
use Rattle.model.specs.Timetable.{Plan, none}
use Rattle.plan.specs.Rewinds.{Front, mirror_to}
use Rattle.plan.specs.Writers.{Said}
use Rattle.plan.proofs.writer.Writer.write_landed.Given as goal

abbrev pub invariant-loop-exchange : goal.invariant-loop-exchange
invariant-loop-exchange l =
    record {
      front : Front l.rest l.left;
      landed : (k : ℕ) → length l.rest ≤ k → k < length l.left → (get_or l.left k none).start + l.fetch ≡ l.boundary;
      more : (plan : Plan) (o area : List ℕ) (t : ℕ) → Front l.left plan.exchanges → t + l.boundary ≡ length plan.acts → Said (mirror_to o l.fetch plan t (length l.left)) area l.initial.self → Said (mirror_to o l.fetch plan t (length l.rest)) area l.self;
      lent : l.self.area.ghost_name ≡ l.initial.self.area.ghost_name;
    }

abbrev pub decreases-loop-exchange : goal.decreases-loop-exchange
decreases-loop-exchange l = length l.rest
