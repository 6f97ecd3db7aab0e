use Rattle.std.proofs.Common.{◌≡◌, ◌+◌, length, get_or, sym, ap, ◌∙◌, arith}
use Rattle.bank.specs.Parity.{byte_of, place_folded, restored_byte}
use Rattle.bank.specs.RecordingSound.{length_block_at}
use Rattle.bank.proofs.Places.{restored_more, restored_is, get_or_block_at}
use Rattle.bank.proofs.rebuilt.Array.restore.Goals as goal

pub loop-place-init : goal.loop-place-init
unfolding restored_byte
loop-place-init c =
    let image = c.args.self.now.image.now in
    let at = c.from.result + c.from-2.result in
    let where_is : at ≡ c.args.self.now.layout.blocks + c.args.row = λ i. c.from.ensures i + c.from-2.ensures i in (
      ap length c.block_of.ensures ∙ length_block_at image at (omega arith),
      λ k h.
          ap (λ b. get_or b k 0) c.block_of.ensures
          ∙ (get_or_block_at image at k h ∙ ap (λ b. byte_of image b k) where_is),
    )

pub loop-place-preserved : goal.loop-place-preserved
loop-place-preserved c =
    let image = c.args.self.now.image.now in
    let layout = c.args.self.now.layout in
    let place = c.loop-place.place in (
      c.fold_place.array_long,
      λ k h.
          c.fold_place.ensures k h
          ∙ (ap (place_folded image layout c.args.row place k) (c.loop-place.invariant.1 k h) ∙ sym (restored_more image layout c.args.row k place)),
    )

pub returns : goal.returns
returns c =
    restored_is c.args.self.now.image.now c.args.self.now.layout c.args.row c.loop-place.place c.loop-place.block c.loop-place.invariant.0 (omega arith) c.loop-place.invariant.1
