-- The bank that an array of disks makes when one of them is lost.
use Rattle.std.specs.Prelude.{ℕ, ◌%◌, List, map}
use Rattle.std.specs.List.{range_with_len}
use Rattle.bank.specs.declared.layout.Layout.{Layout}
use Rattle.bank.specs.declared.state.DiskState.{DiskState}
use Rattle.bank.specs.Meaning.{Meaning}
use Rattle.bank.specs.Parity.{rebuilt_block}

-- block b lies on disk b mod d
abbrev pub spread : Layout → List ℕ
spread l = map (λ b. b % l.disks) (range_with_len 0 l.blocks)

abbrev pub rebuilt_blocks : List ℕ → Layout → List (List ℕ)
rebuilt_blocks bytes l = map (rebuilt_block bytes l) (range_with_len 0 l.blocks)

abbrev pub rebuilt : List ℕ → Layout → ℕ → List DiskState → Meaning
rebuilt bytes l steps now-states = record {
  blocks = rebuilt_blocks bytes l;
  disks = spread l;
  fetch = steps;
  states = now-states;
}
