-- Where parity is right, what is rebuilt is what was recorded.
use Rattle.std.proofs.Common.{◌≡◌, ℕ, zero, suc, ◌+◌, ◌*◌, ◌/◌, ◌%◌, ◌<◌, ◌≤◌, cond, ltb, ◌⊎◌, List, [], length, get_or, sym, ap, ◌∙◌, inl, inr, arith}
use lib.Bits.{bit_xor, xor_zero_l, xor_zero_r, xor_self, xor_comm, xor_assoc}
use Rattle.std.proofs.lemmas.Nat.{div-add-mod', mod_below}
use Rattle.std.proofs.lemmas.List.{ext_get_or}
use Rattle.std.proofs.lemmas.Bool.{cond-true, cond-false, lt-ltb, le-ltb, eq-eqb, ne_eqb, cases_eq}
use Rattle.std.proofs.lemmas.Bool.Decides.{nat_tests}
use Rattle.bank.specs.declared.layout.Layout.{Layout}
use Rattle.bank.specs.Array.{rebuilt_blocks}
use Rattle.bank.specs.ArraySound.{length_rebuilt_blocks, get_or_rebuilt_blocks, length_rebuilt_block}
use Rattle.bank.specs.Parity.{rows_of, byte_of, place_byte, row_byte, restored_byte, rebuilt_block}
use Rattle.bank.specs.Recording.{block_at, blocks_of}
use Rattle.bank.specs.RecordingSound.{length_blocks_of, get_or_blocks_of, length_block_at}
use Rattle.bank.specs.Undamaged.{LeftOf}
use Rattle.bank.proofs.Places.{place_there, place_agrees, get_or_block_at, get_or_restored, row_below}

-- folded into both, a byte makes no difference
xor_both : (f g x : ℕ) → bit_xor (bit_xor f x) (bit_xor g x) ≡ bit_xor f g
xor_both f g x =
    xor_assoc f x (bit_xor g x)
    ∙ ap (bit_xor f) (ap (bit_xor x) (xor_comm g x) ∙ (sym (xor_assoc x x g) ∙ (ap (λ z. bit_xor z g) (xor_self x) ∙ xor_zero_l g)))

xor_undo : (a p : ℕ) → bit_xor (bit_xor a p) p ≡ a
xor_undo a p = xor_assoc a p p ∙ (ap (bit_xor a) (xor_self p) ∙ xor_zero_r a)

xor_cancel : (a p x : ℕ) → bit_xor a p ≡ bit_xor p x → a ≡ x
xor_cancel a p x e = sym (xor_undo a p) ∙ (ap (λ z. bit_xor z p) (e ∙ xor_comm p x) ∙ xor_undo x p)

module _ (recording image : List ℕ) (l : Layout) (left : LeftOf recording image l) (r i : ℕ) (byte : i < 512) where
  -- of the other disks, a row has the recorded bytes
  other_place : (j : ℕ) → j < l.disks → (j ≡ l.lost → ⊥) → place_byte image l r i j ≡ place_byte recording l r i j
  other_place = place_agrees image recording l r i (λ b k off. left.kept b i k off byte)

  abbrev parity_byte : ℕ
  parity_byte = byte_of image (l.blocks + r) i

  -- what is restored so far and the row so far differ by the parity byte, and from the lost place on by its byte too
  abbrev Told : ℕ → Type 0
  Told j = bit_xor (restored_byte image l r i j) (row_byte recording l r i j) ≡ cond (ltb l.lost j) (bit_xor parity_byte (place_byte recording l r i l.lost)) parity_byte

  told_lost : (j : ℕ) → j ≡ l.lost → Told j → Told (suc j)
  unfolding restored_byte row_byte
  told_lost j e before =
      let f = restored_byte image l r i j in
      let g = row_byte recording l r i j in
      let p = parity_byte in
      let x = place_byte recording l r i in
      ap (λ z. bit_xor z (bit_xor g (x j))) (cond-true _ _ _ (eq-eqb j l.lost e))
      ∙ (sym (xor_assoc f g (x j))
      ∙ (ap (λ z. bit_xor z (x j)) (before ∙ cond-false _ _ _ (le-ltb l.lost j (omega arith)))
      ∙ (ap (λ k. bit_xor p (x k)) e ∙ sym (cond-true _ _ _ (lt-ltb l.lost (suc j) (omega arith))))))

  -- past the lost place one more place changes nothing
  same_side : (j : ℕ) → (j ≡ l.lost → ⊥) → ltb l.lost j ≡ ltb l.lost (suc j)
  same_side j off = grind (arith, nat_tests)

  told_other : (j : ℕ) → j < l.disks → (j ≡ l.lost → ⊥) → Told j → Told (suc j)
  unfolding restored_byte row_byte
  told_other j h off before =
      let f = restored_byte image l r i j in
      let g = row_byte recording l r i j in
      let x = place_byte recording l r i j in
      ap (λ z. bit_xor z (bit_xor g x)) (cond-false _ _ _ (ne_eqb j l.lost off))
      ∙ (ap (λ y. bit_xor (bit_xor f y) (bit_xor g x)) (other_place j h off)
      ∙ (xor_both f g x
      ∙ (before ∙ ap (λ t. cond t (bit_xor parity_byte (place_byte recording l r i l.lost)) parity_byte) (same_side j off))))

  told : (j : ℕ) → j ≤ l.disks → Told j
  unfolding restored_byte row_byte
  told zero h = xor_zero_r parity_byte ∙ sym (cond-false _ _ _ (le-ltb l.lost 0 (omega arith)))
  told (suc j) h = one_more j (told j (omega arith)) (omega arith) (cases_eq j l.lost)
    where
      one_more : (k : ℕ) → Told k → k < l.disks → (k ≡ l.lost) ⊎ (k ≡ l.lost → ⊥) → Told (suc k)
      one_more k before low (inl e) = told_lost k e before
      one_more k before low (inr off) = told_other k low off before

  -- the restored byte is the recorded one at the lost place
  restored_is : r < rows_of l → l.lost < l.disks → restored_byte image l r i l.disks ≡ place_byte recording l r i l.lost
  restored_is row low =
      let all = told l.disks (omega arith) in
      xor_cancel (restored_byte image l r i l.disks) parity_byte (place_byte recording l r i l.lost)
      (ap (bit_xor (restored_byte image l r i l.disks)) (left.parity r i row byte) ∙ (all ∙ cond-true _ _ _ (lt-ltb _ _ low)))

module _ (recording image : List ℕ) (l : Layout) (some : 0 < l.disks) (matched : length image ≡ 512 * (l.blocks + rows_of l)) (left : LeftOf recording image l) where
  -- a lost block's byte
  lost_byte : (b i : ℕ) → b < l.blocks → i < 512 → b % l.disks ≡ l.lost → restored_byte image l (b / l.disks) i l.disks ≡ byte_of recording b i
  lost_byte b i h k on =
      let r = b / l.disks in
      let low : l.lost < l.disks = rw on at (mod_below b l.disks some) in
      let here : r * l.disks + l.lost ≡ b = ap (λ z. r * l.disks + z) (sym on) ∙ div-add-mod' b l.disks in
      restored_is recording image l left r i k (row_below l b some h) low
      ∙ (place_there recording l r i l.lost (omega arith) ∙ ap (λ z. byte_of recording z i) here)

  rebuilt_byte : (b i : ℕ) → b < l.blocks → i < 512 → get_or (rebuilt_block image l b) i 0 ≡ byte_of recording b i
  unfolding rebuilt_block
  rebuilt_byte b i h k = by_disk (cases_eq (b % l.disks) l.lost)
    where
      by_disk : (b % l.disks ≡ l.lost) ⊎ (b % l.disks ≡ l.lost → ⊥) → get_or (rebuilt_block image l b) i 0 ≡ byte_of recording b i
      by_disk (inl on) =
          ap (λ z. get_or z i 0) (cond-true _ _ _ (eq-eqb _ _ on))
          ∙ (get_or_restored image l (b / l.disks) i k ∙ lost_byte b i h k on)
      by_disk (inr off) =
          ap (λ z. get_or z i 0) (cond-false _ _ _ (ne_eqb _ _ off))
          ∙ (get_or_block_at image b i k ∙ left.kept b i h off k)

  rebuilt_block_lem : (b : ℕ) → b < l.blocks → rebuilt_block image l b ≡ block_at recording b
  rebuilt_block_lem b h =
      let whole = left.whole in
      let size = length_rebuilt_block image l b (omega arith) in
      let size-too = length_block_at recording b (omega arith) in
      ext_get_or 0 (rebuilt_block image l b) (block_at recording b) (size ∙ sym size-too) (λ i k. rebuilt_byte b i h (omega arith) ∙ sym (get_or_block_at recording b i (omega arith)))

  pub same_blocks : rebuilt_blocks image l ≡ blocks_of recording l.blocks
  same_blocks =
      let count = length_rebuilt_blocks image l in
      ext_get_or [] (rebuilt_blocks image l) (blocks_of recording l.blocks) (count ∙ sym (length_blocks_of recording l.blocks))
      (λ b h. let k : b < l.blocks = omega arith in get_or_rebuilt_blocks image l b k ∙ (rebuilt_block_lem b k ∙ sym (get_or_blocks_of recording l.blocks b k)))
