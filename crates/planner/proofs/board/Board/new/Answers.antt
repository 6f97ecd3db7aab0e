use Rattle.std.proofs.Common.{refl, arith}
use Rattle.planner.proofs.Placing.{all_placed, stands_opened}
use Rattle.planner.proofs.board.Board.new.Goals as goal

pub returns-clause-stands : goal.returns-clause-stands
returns-clause-stands c = λ side sheet.
    stands_opened side sheet c.args.opening.now _ refl refl (all_placed c.args.opening.now c.loop-block.block-index _ _ (omega arith) c.loop-block.invariant.left) c.loop-block.invariant.idle
