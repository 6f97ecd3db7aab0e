-- What a bank is, whatever it is made of.
use Rattle.std.specs.Prelude.{◌≡◌, ℕ, ◌<◌, List, [], length, replicate, slice_index, slice_index_or}
use Rattle.bank.specs.declared.state.DiskState.{DiskState}
use Rattle.bank.specs.declared.state.DiskState.TheVariants.{Idle}

pub record Meaning : Type 0 where
  -- each block's bytes, in number order
  pub blocks : List (List ℕ)
  -- each block's disk, in number order
  pub disks : List ℕ
  -- how many steps a fetch takes
  pub fetch : ℕ
  -- what each of the eight disks is doing
  pub states : List DiskState

-- the same bank, with its disks doing something else: bytes, places and fetch time never change
abbrev pub having : Meaning → List DiskState → Meaning
having m now-states = record { blocks = m.blocks; disks = m.disks; fetch = m.fetch; states = now-states }

unfoldable pub all_idle : List DiskState
all_idle = replicate 8 Idle

-- a bank that holds nothing
abbrev pub empty_bank : Meaning
empty_bank = record { blocks = []; disks = []; fetch = 0; states = all_idle }

-- What is true of every bank: eight disks, a disk among them for each block, 512 bytes to a block.
pub record Sound (m : Meaning) : Type 0 where
  pub eight : length m.states ≡ 8
  pub paired : length m.disks ≡ length m.blocks
  pub placed : (b : ℕ) → b < length m.blocks → slice_index m.disks b < 8
  pub whole : (b : ℕ) → b < length m.blocks → length (slice_index_or m.blocks b []) ≡ 512
