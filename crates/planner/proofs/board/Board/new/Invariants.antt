use Rattle.std.proofs.Common.{◌≡◌, drop}
use Rattle.model.specs.Verdict.{blank_marks, blank_idle}
use Rattle.planner.proofs.Placing.{placed}
use Rattle.planner.proofs.board.Board.new.Given as goal

abbrev pub invariant-loop-block : goal.invariant-loop-block
invariant-loop-block l = record {
  idle : l.places.idle ≡ blank_idle;
  left : placed (drop l.block-index l.opening) l.places.marks ≡ placed l.opening blank_marks;
}
