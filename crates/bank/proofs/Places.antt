-- The places of a row, and what is folded together over them.
use Rattle.std.proofs.Common.{◌≡◌, ℕ, ◌+◌, ◌-◌, ◌*◌, ◌/◌, ◌%◌, ◌<◌, ◌≤◌, Bool, true, false, cond, eqb, ltb, ◌⊎◌, List, [], length, slice_get, get_or, drop, Some, sym, refl, ap, ◌∙◌, inl, inr, add-mul, one-mul, add-one, arith}
use lib.Bits.{bit_xor, xor_zero_r}
use Rattle.std.proofs.lemmas.Nat.{div-add-mod', le-div, mod-mul-add}
use Rattle.std.proofs.lemmas.List.FromFn.{get_or-map-range_with_len}
use Rattle.std.proofs.lemmas.List.{get_or-take, get_or-drop, ext_get_or}
use Rattle.std.proofs.lemmas.Option.{slice_get-get_or}
use Rattle.std.proofs.lemmas.Bool.{cond-true, cond-false, lt-ltb, le-ltb, cases_lt, ne_eqb}
use Rattle.bank.specs.declared.layout.Layout.{Layout}
use Rattle.bank.specs.Array.{spread, rebuilt_blocks}
use Rattle.bank.specs.ArraySound.{length_spread, get_or_spread, get_or_rebuilt_blocks, length_restored_block}
use Rattle.bank.specs.Parity.{rows_of, byte_of, place_byte, place_folded, restored_byte, restored_block, rebuilt_block}
use Rattle.bank.specs.Recording.{block_at}

module _ (bytes : List ℕ) (l : Layout) (r i j : ℕ) where
  pub place_there : r * l.disks + j < l.blocks → place_byte bytes l r i j ≡ byte_of bytes (r * l.disks + j) i
  unfolding place_byte
  place_there h = cond-true _ _ _ (lt-ltb _ _ h)

  pub place_past : l.blocks ≤ r * l.disks + j → place_byte bytes l r i j ≡ 0
  unfolding place_byte
  place_past h = cond-false _ _ _ (le-ltb _ _ h)

  -- with zeros past the last block or none, folded in it comes to the same
  folded_past : (x : ℕ) (t : Bool) → bit_xor x (cond t (byte_of bytes (r * l.disks + j) i) 0) ≡ cond t (bit_xor x (byte_of bytes (r * l.disks + j) i)) x
  folded_past x true = refl
  folded_past x false = xor_zero_r x

  pub restored_more : restored_byte bytes l r i (j + 1) ≡ place_folded bytes l r j i (restored_byte bytes l r i j)
  unfolding restored_byte place_byte
  restored_more =
      let x = restored_byte bytes l r i j in
      rw add-one (ap (cond (eqb j l.lost) x) (folded_past x (ltb (r * l.disks + j) l.blocks)))

-- where two lists agree on the blocks of the other disks, so do the places of a row
pub place_agrees :
    (one other : List ℕ) (l : Layout) (r i : ℕ) → ((b : ℕ) → b < l.blocks → (b % l.disks ≡ l.lost → ⊥) → byte_of one b i ≡ byte_of other b i) → (j : ℕ) → j < l.disks → (j ≡ l.lost → ⊥) → place_byte one l r i j ≡ place_byte other l r i j
place_agrees one other l r i agree j h off = by_end (cases_lt (r * l.disks + j) l.blocks)
  where
    by_end : (r * l.disks + j < l.blocks) ⊎ (l.blocks ≤ r * l.disks + j) → place_byte one l r i j ≡ place_byte other l r i j
    by_end (inl k) =
        place_there one l r i j k
        ∙ (agree (r * l.disks + j) k (λ e. off (sym (mod-mul-add r l.disks j h) ∙ e)) ∙ sym (place_there other l r i j k))
    by_end (inr k) = place_past one l r i j k ∙ sym (place_past other l r i j k)

-- a byte of a block
pub get_or_block_at : (bytes : List ℕ) (b i : ℕ) → i < 512 → get_or (block_at bytes b) i 0 ≡ byte_of bytes b i
get_or_block_at bytes b i h = get_or-take 512 (drop (512 * b) bytes) i 0 h ∙ get_or-drop (512 * b) bytes i 0

pub get_or_restored : (bytes : List ℕ) (l : Layout) (r i : ℕ) → i < 512 → get_or (restored_block bytes l r) i 0 ≡ restored_byte bytes l r i l.disks
unfolding restored_block
get_or_restored bytes l r i h = get_or-map-range_with_len (λ k. restored_byte bytes l r k l.disks) 0 512 i i 0 h (omega arith)

-- what is folded in over all places is the restored block
pub restored_is :
    (bytes : List ℕ) (l : Layout) (r j : ℕ) (block : List ℕ) → length block ≡ 512 → j ≡ l.disks → ((k : ℕ) → k < 512 → get_or block k 0 ≡ restored_byte bytes l r k j) → block ≡ restored_block bytes l r
restored_is bytes l r j block size last each =
    ext_get_or 0 block (restored_block bytes l r) (size ∙ sym (length_restored_block bytes l r)) (λ k h.
    let byte : k < 512 = omega arith in
    each k byte ∙ (ap (restored_byte bytes l r k) last ∙ sym (get_or_restored bytes l r k byte)))

-- a block's row is one of the rows
pub row_below : (l : Layout) (b : ℕ) → 0 < l.disks → b < l.blocks → b / l.disks < rows_of l
row_below l b some h =
    let q = div-add-mod' b l.disks in
    let e : (b / l.disks + 1) * l.disks ≡ b / l.disks * l.disks + l.disks = simp (add-mul, one-mul) in
    let k : b / l.disks + 1 ≤ (l.blocks + (l.disks - 1)) / l.disks = le-div (b / l.disks + 1) (l.blocks + (l.disks - 1)) l.disks some (omega arith) in
    omega arith

pub slice_get_spread : (l : Layout) (b : ℕ) → b < l.blocks → slice_get (spread l) b ≡ Some (b % l.disks)
slice_get_spread l b h =
    let count = length_spread l in
    slice_get-get_or (spread l) b 0 (omega arith) ∙ ap Some (get_or_spread l b h)

-- a block that did not lie on the lost disk is as it stands in the image
pub rebuilt_kept :
    (bytes : List ℕ) (l : Layout) (b : ℕ) → b < l.blocks → (b % l.disks ≡ l.lost → ⊥) → get_or (rebuilt_blocks bytes l) b [] ≡ block_at bytes b
unfolding rebuilt_block
rebuilt_kept bytes l b h off = get_or_rebuilt_blocks bytes l b h ∙ cond-false _ _ _ (ne_eqb (b % l.disks) l.lost off)
