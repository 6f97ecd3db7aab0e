-- One step of time, for a disk and for all of them.
use Rattle.std.specs.Prelude.{◌-◌, List, map}
use Rattle.bank.specs.declared.state.DiskState.{DiskState}
use Rattle.bank.specs.declared.state.DiskState.TheVariants.{Idle, Busy}

-- a count above zero is one lower, and zero stays: `-` stops at 0
abbrev pub lowered : DiskState → DiskState
lowered Idle = Idle
lowered (Busy block left) = Busy block (left - 1)

unfoldable pub lowered_all : List DiskState → List DiskState
lowered_all states = map lowered states
