use Rattle.std.proofs.Common.{◌≡◌, ◌<◌, ◌++◌, [], ◌∷◌, length, ap, sym, ◌∙◌, arith, ℕ, List, subst}
use Rattle.model.specs.Mirror.{picked}
use Rattle.model.specs.Sheet.{Rack}
use Rattle.sheet.specs.Sheets.{meant}
use Rattle.planner.proofs.Rising.{is_first, is_marked, picked_in, picked_not, usual_is, usual_room}
use Rattle.planner.proofs.opening.Opening.usual.Goals as goal

pub loop-block-init : goal.loop-block-init
unfolding picked
loop-block-init c = c.new-opening.ensures

pub loop-block-preserved-then-not-has : goal.loop-block-preserved-then-not-has
loop-block-preserved-then-not-has c =
    let s = c.args.sheet in
    let b = c.loop-block.block in
    let stop : c.blocks-block-end.result ≡ length (meant s).rack.homes = c.blocks-block-end.ensures.blocks ∙ ap (λ (r : Rack). length r.homes) c.rack.ensures in
    let within : b < length (meant s).rack.homes = omega arith in
    c.loop-block.invariant ∙ sym (picked_not (is_first s) b (is_marked s _ _ b c.has.result c.usual-chosen.ensures within c.has.ensures ∙ c.if-not-has.true))

pub push-requires : goal.push-requires
push-requires c =
    let s = c.args.sheet in
    let b = c.loop-block.block in
    let stop : c.blocks-block-end.result ≡ length (meant s).rack.homes = c.blocks-block-end.ensures.blocks ∙ ap (λ (r : Rack). length r.homes) c.rack.ensures in
    let within : b < length (meant s).rack.homes = omega arith in
    subst (λ (xs : List ℕ). length xs < 64) (sym c.loop-block.invariant) (usual_room s b (is_marked s _ _ b c.has.result c.usual-chosen.ensures within c.has.ensures ∙ c.if-not-has.false) within)

pub loop-block-preserved : goal.loop-block-preserved
loop-block-preserved c =
    let s = c.args.sheet in
    let b = c.loop-block.block in
    let stop : c.blocks-block-end.result ≡ length (meant s).rack.homes = c.blocks-block-end.ensures.blocks ∙ ap (λ (r : Rack). length r.homes) c.rack.ensures in
    let within : b < length (meant s).rack.homes = omega arith in
    c.push.ensures ∙ (ap (λ (xs : List ℕ). xs ++ (b ∷ [])) c.loop-block.invariant
    ∙ sym (picked_in (is_first s) b (is_marked s _ _ b c.has.result c.usual-chosen.ensures within c.has.ensures ∙ c.if-not-has.false)))

pub returns : goal.returns
returns c =
    let s = c.args.sheet in
    let stop : c.blocks-block-end.result ≡ length (meant s).rack.homes = c.blocks-block-end.ensures.blocks ∙ ap (λ (r : Rack). length r.homes) c.rack.ensures in
    let all : c.loop-block.block ≡ length (meant s).rack.homes = omega arith in
    c.loop-block.invariant ∙ (ap (picked (is_first s)) all ∙ usual_is s)
