-- A recording with its parity blocks has lost nothing.
use Rattle.std.proofs.Common.{◌≡◌, ℕ, ◌+◌, ◌-◌, ◌*◌, ◌/◌, ◌%◌, ◌<◌, List, length, get_or, ap, ◌∙◌, arith}
use Rattle.std.proofs.lemmas.List.FromFn.{get_or-map-range_with_len}
use Rattle.std.proofs.lemmas.List.{get_or_append_left, get_or-append_right}
use Rattle.bank.specs.declared.layout.Layout.{Layout}
use Rattle.bank.specs.Parity.{rows_of, row_byte}
use Rattle.bank.specs.Undamaged.{LeftOf, parity_of, with_parity}

parity_byte :
    (recording : List ℕ) (l : Layout) (r i : ℕ) → r < rows_of l → i < 512 → get_or (parity_of recording l) (512 * r + i) 0 ≡ row_byte recording l r i l.disks
unfolding parity_of
parity_byte recording l r i h k =
    let row : (512 * r + i) / 512 ≡ r = omega arith in
    let byte : (512 * r + i) % 512 ≡ i = omega arith in
    get_or-map-range_with_len (λ n. row_byte recording l (n / 512) (n % 512) l.disks) 0 (512 * rows_of l) (512 * r + i) (512 * r + i) 0 (omega arith) (omega arith)
    ∙ (λ t. row_byte recording l (row t) (byte t) l.disks)

pub whole_left : (recording : List ℕ) (l : Layout) → length recording ≡ 512 * l.blocks → LeftOf recording (with_parity recording l) l
whole_left recording l size = record {
  whole = size;
  kept = λ b i h off k. get_or_append_left recording (parity_of recording l) 0 (512 * b + i) (omega arith);
  parity = λ r i h k.
      let back : 512 * (l.blocks + r) + i - 512 * l.blocks ≡ 512 * r + i = omega arith in
      get_or-append_right recording (parity_of recording l) (512 * l.blocks) (512 * (l.blocks + r) + i) 0 size (omega arith)
      ∙ (ap (λ n. get_or (parity_of recording l) n 0) back ∙ parity_byte recording l r i h k);
}
