-- What an image has in the place of the lost disk's blocks makes no difference.
use Rattle.std.proofs.Common.{◌≡◌, ℕ, zero, suc, ◌+◌, ◌*◌, ◌/◌, ◌%◌, ◌<◌, ◌≤◌, cond, eqb, ◌⊎◌, List, [], length, Ok, Err, Result, sym, refl, ap, ◌∙◌, inl, inr, arith}
use lib.Bits.{bit_xor}
use Rattle.std.proofs.lemmas.List.{ext_get_or}
use Rattle.std.proofs.lemmas.Bool.{cond-true, cond-false, eq-eqb, ne_eqb, cases_eq}
use Rattle.bank.specs.declared.fault.BankFault.{BankFault}
use Rattle.bank.specs.declared.fault.BankFault.TheVariants.{LengthsDiffer, OutsideLimits}
use Rattle.bank.specs.declared.layout.Layout.{Layout}
use Rattle.bank.specs.Array.{spread, rebuilt_blocks}
use Rattle.bank.specs.ArrayLoad.{array_limits, array_answer, array_loaded}
use Rattle.bank.specs.ArraySound.{length_rebuilt_blocks, get_or_rebuilt_blocks, length_restored_block}
use Rattle.bank.specs.Meaning.{all_idle}
use Rattle.bank.specs.Parity.{rows_of, place_byte, restored_byte, restored_block, rebuilt_block}
use Rattle.bank.specs.Recording.{block_at}
use Rattle.bank.specs.RecordingSound.{length_block_at}
use Rattle.bank.specs.Undamaged.{SameButLost}
use Rattle.bank.proofs.ArrayLoads.{granted_matched, granted_loaded, refused_empty}
use Rattle.bank.proofs.Places.{place_agrees, get_or_block_at, get_or_restored}

module _ (one other : List ℕ) (l : Layout) (alike : SameButLost one other l) where
  -- a place of another disk
  other_place : (r i j : ℕ) → i < 512 → j < l.disks → (j ≡ l.lost → ⊥) → place_byte one l r i j ≡ place_byte other l r i j
  other_place r i j byte = place_agrees one other l r i (λ b k off. alike.same b i (λ _. off) byte) j

  one_more :
      (r i j : ℕ) → i < 512 → j < l.disks → restored_byte one l r i j ≡ restored_byte other l r i j → (j ≡ l.lost) ⊎ (j ≡ l.lost → ⊥) → restored_byte one l r i (suc j) ≡ restored_byte other l r i (suc j)
  unfolding restored_byte
  one_more r i j byte h before (inl e) =
      cond-true _ _ _ (eq-eqb j l.lost e) ∙ (before ∙ sym (cond-true _ _ _ (eq-eqb j l.lost e)))
  one_more r i j byte h before (inr off) =
      cond-false _ _ _ (ne_eqb j l.lost off)
      ∙ ((λ t. bit_xor (before t) (other_place r i j byte h off t)) ∙ sym (cond-false _ _ _ (ne_eqb j l.lost off)))

  restored_same : (r i j : ℕ) → i < 512 → j ≤ l.disks → restored_byte one l r i j ≡ restored_byte other l r i j
  unfolding restored_byte
  restored_same r i zero byte h = alike.same (l.blocks + r) i (λ k _. absurd (let z : ⊥ = omega arith in z)) byte
  restored_same r i (suc j) byte h =
      one_more r i j byte (omega arith) (restored_same r i j byte (omega arith)) (cases_eq j l.lost)

  restored_block_lem : (r : ℕ) → restored_block one l r ≡ restored_block other l r
  restored_block_lem r =
      let size = length_restored_block one l r in
      ext_get_or 0 (restored_block one l r) (restored_block other l r) (size ∙ sym (length_restored_block other l r)) (λ i h.
      let byte : i < 512 = omega arith in
      get_or_restored one l r i byte ∙ (restored_same r i l.disks byte (omega arith) ∙ sym (get_or_restored other l r i byte)))

  kept_block : (b : ℕ) → 512 * b + 512 ≤ length one → (b % l.disks ≡ l.lost → ⊥) → block_at one b ≡ block_at other b
  kept_block b h off =
      let size = length_block_at one b h in
      let sizes = alike.size in
      let size-too = length_block_at other b (omega arith) in
      ext_get_or 0 (block_at one b) (block_at other b) (size ∙ sym size-too) (λ i k.
      let byte : i < 512 = omega arith in
      get_or_block_at one b i byte ∙ (alike.same b i (λ _. off) byte ∙ sym (get_or_block_at other b i byte)))

  same_block : (b : ℕ) → 512 * b + 512 ≤ length one → (b % l.disks ≡ l.lost) ⊎ (b % l.disks ≡ l.lost → ⊥) → rebuilt_block one l b ≡ rebuilt_block other l b
  unfolding rebuilt_block
  same_block b h (inl on) =
      cond-true _ _ _ (eq-eqb _ _ on) ∙ (restored_block_lem (b / l.disks) ∙ sym (cond-true _ _ _ (eq-eqb _ _ on)))
  same_block b h (inr off) =
      cond-false _ _ _ (ne_eqb _ _ off) ∙ (kept_block b h off ∙ sym (cond-false _ _ _ (ne_eqb _ _ off)))

  same_blocks : length one ≡ 512 * (l.blocks + rows_of l) → rebuilt_blocks one l ≡ rebuilt_blocks other l
  same_blocks matched =
      let count = length_rebuilt_blocks one l in
      ext_get_or [] (rebuilt_blocks one l) (rebuilt_blocks other l) (count ∙ sym (length_rebuilt_blocks other l)) (λ b h.
      let k : b < l.blocks = omega arith in
      get_or_rebuilt_blocks one l b k
      ∙ (same_block b (omega arith) (cases_eq (b % l.disks) l.lost) ∙ sym (get_or_rebuilt_blocks other l b k)))

  same_answer : (steps : ℕ) → array_answer one l steps ≡ array_answer other l steps
  unfolding array_answer
  same_answer steps =
      ap (λ n. cond (array_limits l steps) (cond (eqb n (512 * (l.blocks + rows_of l))) (Ok tt) (Err LengthsDiffer)) (Err OutsideLimits)) alike.size

  -- both make the same bank
  pub same_loaded : (steps : ℕ) → array_loaded one l steps ≡ array_loaded other l steps
  same_loaded steps = by_answer (array_answer one l steps) refl
    where
      by_answer : (r : Result (Unit {0}) BankFault) → array_answer one l steps ≡ r → array_loaded one l steps ≡ array_loaded other l steps
      by_answer (Ok x) e =
          sym (granted_loaded one l steps e)
          ∙ (ap (λ bs. record { blocks = bs; disks = spread l; fetch = steps; states = all_idle }) (same_blocks (granted_matched one l steps e))
          ∙ granted_loaded other l steps (sym (same_answer steps) ∙ e))
      by_answer (Err f) e = sym (refused_empty one l steps f e) ∙ refused_empty other l steps f (sym (same_answer steps) ∙ e)
