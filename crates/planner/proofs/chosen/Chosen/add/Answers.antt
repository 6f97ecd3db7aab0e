use Rattle.std.proofs.Common.{sym, ◌∙◌, arith}
use Rattle.planner.proofs.Marking.{kept_chosen, kept_full, taken_in}
use Rattle.planner.proofs.chosen.Chosen.add.Goals as goal

pub returns-then-has : goal.returns-then-has
returns-then-has c = λ found m. kept_chosen _ _ found _ c.args.block m c.requires.known (sym c.has.ensures ∙ c.if-has.true)

pub returns-then-self-from : goal.returns-then-self-from
returns-then-self-from c = λ found m. kept_full _ _ found _ c.args.block m (omega arith)

pub returns : goal.returns
returns c = λ found m. rw (c.choose.ensures.is, c.choose.ensures.count) (taken_in _ _ found _ c.args.block m c.requires.known (omega arith) (sym c.has.ensures ∙ c.if-has.false) (omega arith))
