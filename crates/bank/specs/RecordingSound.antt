-- The bank that a recording makes is sound.
use Rattle.std.specs.Prelude.{◌≡◌, ℕ, ◌+◌, ◌*◌, ◌<◌, ◌≤◌, List, [], length, slice_index, slice_index_or}
use Rattle.std.proofs.Common.{sym, ap, ◌∙◌, arith, length-take, length-drop}
use Rattle.std.proofs.lemmas.List.FromFn.{length-map-range_with_len, get_or-map-range_with_len}
use Rattle.bank.specs.declared.state.DiskState.{DiskState}
use Rattle.bank.specs.Meaning.{Sound}
use Rattle.bank.specs.Recording.{block_at, blocks_of, recorded}

pub length_blocks_of : (bytes : List ℕ) (n : ℕ) → length (blocks_of bytes n) ≡ n
length_blocks_of bytes n = length-map-range_with_len (block_at bytes) 0 n

pub get_or_blocks_of : (bytes : List ℕ) (n b : ℕ) → b < n → slice_index_or (blocks_of bytes n) b [] ≡ block_at bytes b
get_or_blocks_of bytes n b h = get_or-map-range_with_len (block_at bytes) 0 n b b [] h (omega arith)

pub length_block_at : (bytes : List ℕ) (b : ℕ) → 512 * b + 512 ≤ length bytes → length (block_at bytes b) ≡ 512
length_block_at bytes b h = simp (length-take, length-drop) (omega arith)

module _ (bytes places : List ℕ) (steps : ℕ) (now-states : List DiskState) where
  pub recorded_sound :
      length now-states ≡ 8 → length bytes ≡ 512 * length places → ((b : ℕ) → b < length places → slice_index places b < 8) → Sound (recorded bytes places steps now-states)
  recorded_sound eight matched placed = record {
    eight = eight;
    paired = sym (length_blocks_of bytes (length places));
    placed = λ b h. placed b (rw (length_blocks_of bytes (length places)) at h);
    whole = λ b h.
        let k : b < length places = rw (length_blocks_of bytes (length places)) at h in
        ap length (get_or_blocks_of bytes (length places) b k) ∙ length_block_at bytes b (omega arith);
  }
