use Rattle.std.proofs.Common.{◌≡◌, sym, ◌∙◌, subst, arith}
use Rattle.bank.specs.ArrayLoad.{array_answer, array_loaded}
use Rattle.bank.specs.Rebuilt.{rebuilt_meaning}
use Rattle.bank.specs.Undamaged.{LeftOf}
use Rattle.bank.proofs.ArrayLoads.{array_loads}
use Rattle.bank.proofs.Blind.{same_loaded}
use Rattle.bank.proofs.SameBank.{same_bank}
use Rattle.bank.proofs.Whole.{whole_left}
use Rattle.bank.proofs.rebuilt.load.DiskBank+Array.load.Goals as goal

loaded : (c : goal.After-hold) → rebuilt_meaning c.hold.new.self ≡ array_loaded c.args.image.now c.args.layout c.args.fetch
loaded c = grind (arith, array_loads)

answered : (c : goal.After-hold) → c.hold.result ≡ array_answer c.args.image.now c.args.layout c.args.fetch
answered c = c.hold.ensures.answer ∙ c.new.ensures.answer

pub returns-clause-blind : goal.returns-clause-blind
returns-clause-blind c = λ other alike. loaded c ∙ same_loaded c.args.image.now other c.args.layout alike c.args.fetch

pub returns-clause-recovers : goal.returns-clause-recovers
returns-clause-recovers c = λ recording granted left.
    loaded c ∙ same_bank recording c.args.image.now c.args.layout c.args.fetch (sym (answered c) ∙ granted) left

pub returns-clause-whole : goal.returns-clause-whole
returns-clause-whole c = λ recording granted size same.
    let left = subst (λ bytes. LeftOf recording bytes c.args.layout) (sym same) (whole_left recording c.args.layout size) in
    loaded c ∙ same_bank recording c.args.image.now c.args.layout c.args.fetch (sym (answered c) ∙ granted) left
