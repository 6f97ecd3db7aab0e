use Rattle.std.proofs.Common.{◌≡◌, get_or, ◌∙◌, ap, arith}
use Rattle.std.specs.Option.{unwrap_or}
use Rattle.std.proofs.lemmas.Option.{unwrap_or-slice_get}
use Rattle.sheet.specs.Sheets.{meant}
use Rattle.sheet.proofs.Known.{known, few_blocks}
use Rattle.planner.proofs.asking.block_at.Goals as goal

pub returns : goal.returns
returns c =
    let s = c.args.sheet in
    let is : c.unwrap_or.result ≡ get_or (meant s).requests c.args.position 0 = c.unwrap_or.ensures ∙ (ap (λ o. unwrap_or o 0) c.request.ensures ∙ unwrap_or-slice_get (meant s).requests c.args.position 0) in
    record { is = is; known = omega (arith, is, known s c.args.position c.requires.within); few = omega (arith, is, known s c.args.position c.requires.within, few_blocks s) }
