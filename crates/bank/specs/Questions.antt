-- What a bank answers when it is asked about itself.
use Rattle.std.specs.Prelude.{ℕ, cond, length, Some, None, Option, nat_lt, slice_index, slice_index_or}
use Rattle.bank.specs.declared.state.DiskState.{DiskState}
use Rattle.bank.specs.declared.state.DiskState.TheVariants.{Idle}
use Rattle.bank.specs.Meaning.{Meaning}

-- Each is worded with its test, which the proof of a whole fetch reads off.
-- a block's disk, or none where there is no such block: the list has an entry for each
abbrev pub disk_of : Meaning → ℕ → Option ℕ
disk_of m b = cond (nat_lt b (length m.disks)) (Some (slice_index m.disks b)) None

-- what a disk is doing, or none where there is no such disk
abbrev pub state_of : Meaning → ℕ → Option DiskState
state_of m d = cond (nat_lt d (length m.states)) (Some (slice_index_or m.states d Idle)) None
