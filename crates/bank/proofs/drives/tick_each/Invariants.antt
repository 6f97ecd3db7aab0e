use Rattle.std.proofs.Common.{◌≡◌, ◌++◌, map, take, drop}
use Rattle.bank.specs.Ticking.{lowered}
use Rattle.bank.proofs.drives.tick_each.Given as goal

-- the disks passed are one step on, the others as they were
abbrev pub invariant-loop-state : goal.invariant-loop-state
invariant-loop-state l =
    l.states ≡ map lowered (take l.state-index l.initial.states) ++ drop l.state-index l.initial.states
