-- A recording: one block of 512 bytes after the other.
use Rattle.std.specs.Prelude.{ℕ, ◌*◌, List, map, length, take, drop}
use Rattle.std.specs.List.{range_with_len}
use Rattle.bank.specs.declared.state.DiskState.{DiskState}
use Rattle.bank.specs.Meaning.{Meaning}

-- block b begins at byte 512 × b
abbrev pub block_at : List ℕ → ℕ → List ℕ
block_at bytes b = take 512 (drop (512 * b) bytes)

abbrev pub blocks_of : List ℕ → ℕ → List (List ℕ)
blocks_of bytes n = map (block_at bytes) (range_with_len 0 n)

-- the bank that a recording makes, with a list that gives each block's disk
abbrev pub recorded : List ℕ → List ℕ → ℕ → List DiskState → Meaning
recorded bytes places steps now-states = record {
  blocks = blocks_of bytes (length places);
  disks = places;
  fetch = steps;
  states = now-states;
}
