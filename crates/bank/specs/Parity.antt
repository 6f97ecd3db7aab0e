-- Parity: for each row of blocks one more block, the exclusive or of them all, so that a lost one can be rebuilt.
use Rattle.std.specs.Prelude.{ℕ, zero, suc, ◌+◌, ◌-◌, ◌*◌, ◌/◌, ◌%◌, cond, List, map, ◌==◌, bit_xor, nat_lt, slice_index}
use Rattle.std.specs.List.{range_with_len}
use Rattle.bank.specs.declared.layout.Layout.{Layout}
use Rattle.bank.specs.Recording.{block_at}

-- how many rows there are, the last one perhaps short
abbrev pub rows_of : Layout → ℕ
rows_of l = (l.blocks + (l.disks - 1)) / l.disks

-- byte i of block b
abbrev pub byte_of : List ℕ → ℕ → ℕ → ℕ
byte_of bytes b i = slice_index bytes (512 * b + i)

-- byte i at place j of row r: a short row counts as filled up with zeros
unfoldable pub place_byte : List ℕ → Layout → ℕ → ℕ → ℕ → ℕ
place_byte bytes l r i j = cond (nat_lt (r * l.disks + j) l.blocks) (byte_of bytes (r * l.disks + j) i) 0

-- the exclusive or of byte i over the first places of row r
unfoldable pub row_byte : List ℕ → Layout → ℕ → ℕ → ℕ → ℕ
row_byte bytes l r i zero = 0
row_byte bytes l r i (suc j) = bit_xor (row_byte bytes l r i j) (place_byte bytes l r i j)

-- byte i of the parity block of row r, and with it the bytes at the first places but for the lost disk's
unfoldable pub restored_byte : List ℕ → Layout → ℕ → ℕ → ℕ → ℕ
restored_byte bytes l r i zero = byte_of bytes (l.blocks + r) i
restored_byte bytes l r i (suc j) =
    cond (j == l.lost) (restored_byte bytes l r i j) (bit_xor (restored_byte bytes l r i j) (place_byte bytes l r i j))

-- a byte with the byte at place j folded in: the lost disk is passed over, and zeros change nothing
abbrev pub place_folded : List ℕ → Layout → ℕ → ℕ → ℕ → ℕ → ℕ
place_folded bytes l r j i x =
    cond (j == l.lost) x (cond (nat_lt (r * l.disks + j) l.blocks) (bit_xor x (byte_of bytes (r * l.disks + j) i)) x)

-- the lost disk's block of row r
unfoldable pub restored_block : List ℕ → Layout → ℕ → List ℕ
restored_block bytes l r = map (λ i. restored_byte bytes l r i l.disks) (range_with_len 0 512)

-- block b: from the image, or rebuilt where it lay on the lost disk
unfoldable pub rebuilt_block : List ℕ → Layout → ℕ → List ℕ
rebuilt_block bytes l b = cond (b % l.disks == l.lost) (restored_block bytes l (b / l.disks)) (block_at bytes b)
