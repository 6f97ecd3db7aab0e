-- An image with a lost disk beside the recording that it was made of.
use Rattle.std.specs.Prelude.{◌≡◌, ℕ, ◌+◌, ◌*◌, ◌/◌, ◌%◌, ◌<◌, List, ◌++◌, map, length, ◌≢◌}
use Rattle.std.specs.List.{range_with_len}
use Rattle.bank.specs.declared.layout.Layout.{Layout}
use Rattle.bank.specs.Parity.{rows_of, byte_of, row_byte}

-- The image is what is left of the recording: the blocks of the other disks as they were recorded, and for each row
-- a parity block that is the exclusive or of the recorded row. What stands in the place of the lost disk's blocks
-- does not matter.
pub record LeftOf (recording image : List ℕ) (l : Layout) : Type 0 where
  pub whole : length recording ≡ 512 * l.blocks
  pub kept : (b i : ℕ) → b < l.blocks → (b % l.disks ≢ l.lost) → i < 512 → byte_of image b i ≡ byte_of recording b i
  pub parity : (r i : ℕ) → r < rows_of l → i < 512 → byte_of image (l.blocks + r) i ≡ row_byte recording l r i l.disks

-- Two images that differ at most in the lost disk's blocks: the blocks of the other disks and all parity blocks agree.
pub record SameButLost (one other : List ℕ) (l : Layout) : Type 0 where
  pub size : length one ≡ length other
  pub same : (b i : ℕ) → (b < l.blocks → b % l.disks ≢ l.lost) → i < 512 → byte_of one b i ≡ byte_of other b i

-- the parity blocks of a recording, one for each row
unfoldable pub parity_of : List ℕ → Layout → List ℕ
parity_of recording l = map (λ k. row_byte recording l (k / 512) (k % 512) l.disks) (range_with_len 0 (512 * rows_of l))

-- a recording with its parity blocks, as it stands while nothing is lost
abbrev pub with_parity : List ℕ → Layout → List ℕ
with_parity recording l = recording ++ parity_of recording l
