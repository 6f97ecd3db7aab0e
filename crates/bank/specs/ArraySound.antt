-- The bank that an array makes is sound.
use Rattle.std.specs.Prelude.{◌≡◌, ℕ, ◌+◌, ◌*◌, ◌/◌, ◌%◌, ◌<◌, ◌≤◌, List, [], length, ◌==◌, slice_index, slice_index_or}
use Rattle.std.proofs.Common.{sym, ap, ◌∙◌, arith}
use Rattle.std.proofs.lemmas.Nat.{mod_below}
use Rattle.std.proofs.lemmas.List.FromFn.{length-map-range_with_len, get_or-map-range_with_len}
use Rattle.std.proofs.lemmas.Bool.{cond_both}
use Rattle.bank.specs.declared.layout.Layout.{Layout}
use Rattle.bank.specs.declared.state.DiskState.{DiskState}
use Rattle.bank.specs.Array.{spread, rebuilt_blocks, rebuilt}
use Rattle.bank.specs.Meaning.{Sound}
use Rattle.bank.specs.Parity.{rows_of, restored_byte, restored_block, rebuilt_block}
use Rattle.bank.specs.Recording.{block_at}
use Rattle.bank.specs.RecordingSound.{length_block_at}

pub length_spread : (l : Layout) → length (spread l) ≡ l.blocks
length_spread l = length-map-range_with_len (λ b. b % l.disks) 0 l.blocks

pub get_or_spread : (l : Layout) (b : ℕ) → b < l.blocks → slice_index (spread l) b ≡ b % l.disks
get_or_spread l b h = get_or-map-range_with_len (λ k. k % l.disks) 0 l.blocks b b 0 h (omega arith)

pub length_rebuilt_blocks : (bytes : List ℕ) (l : Layout) → length (rebuilt_blocks bytes l) ≡ l.blocks
length_rebuilt_blocks bytes l = length-map-range_with_len (rebuilt_block bytes l) 0 l.blocks

pub get_or_rebuilt_blocks : (bytes : List ℕ) (l : Layout) (b : ℕ) → b < l.blocks → slice_index_or (rebuilt_blocks bytes l) b [] ≡ rebuilt_block bytes l b
get_or_rebuilt_blocks bytes l b h = get_or-map-range_with_len (rebuilt_block bytes l) 0 l.blocks b b [] h (omega arith)

pub length_restored_block : (bytes : List ℕ) (l : Layout) (r : ℕ) → length (restored_block bytes l r) ≡ 512
unfolding restored_block
length_restored_block bytes l r = length-map-range_with_len (λ i. restored_byte bytes l r i l.disks) 0 512

pub length_rebuilt_block : (bytes : List ℕ) (l : Layout) (b : ℕ) → 512 * b + 512 ≤ length bytes → length (rebuilt_block bytes l b) ≡ 512
unfolding rebuilt_block
length_rebuilt_block bytes l b h =
    cond_both (b % l.disks == l.lost) (restored_block bytes l (b / l.disks)) (block_at bytes b) (λ block. length block ≡ 512) (λ e. length_restored_block bytes l (b / l.disks)) (λ e. length_block_at bytes b h)

module _ (bytes : List ℕ) (l : Layout) (steps : ℕ) (now-states : List DiskState) where
  pub array_sound :
      length now-states ≡ 8 → 0 < l.disks → l.disks ≤ 8 → length bytes ≡ 512 * (l.blocks + rows_of l) → Sound (rebuilt bytes l steps now-states)
  array_sound eight some few matched = record {
    eight = eight;
    paired = length_spread l ∙ sym (length_rebuilt_blocks bytes l);
    placed = λ b h.
        let k : b < l.blocks = rw (length_rebuilt_blocks bytes l) at h in
        let e = get_or_spread l b k in
        let m = mod_below b l.disks some in
        omega arith;
    whole = λ b h.
        let k : b < l.blocks = rw (length_rebuilt_blocks bytes l) at h in
        ap length (get_or_rebuilt_blocks bytes l b k) ∙ length_rebuilt_block bytes l b (omega arith);
  }
