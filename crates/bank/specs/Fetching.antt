-- What one disk allows, judged by what it is doing.
use Rattle.std.specs.Prelude.{◌≡◌, ℕ, Bool, true, cond, ◌&&◌, List, [], ◌∷◌, Some, None, Ok, Err, Option, Result, ◌==◌, nat_lt, slice_index_or, slice_set}
use Rattle.bank.specs.declared.fault.BankFault.{BankFault}
use Rattle.bank.specs.declared.fault.BankFault.TheVariants.{NoSuchBlock, DiskBusy, NothingToCollect, NotDue, BufferTooShort}
use Rattle.bank.specs.declared.state.DiskState.{DiskState}
use Rattle.bank.specs.declared.state.DiskState.TheVariants.{Idle, Busy}

-- only an idle disk starts a fetch
abbrev pub startable : DiskState → Result (Unit {0}) BankFault
startable Idle = Ok tt
startable (Busy block left) = Err DiskBusy

-- a block that has no disk is not there
abbrev pub start_on : Option ℕ → List DiskState → Result (Unit {0}) BankFault
start_on None ss = Err NoSuchBlock
start_on (Some d) ss = startable (slice_index_or ss d Idle)

-- the disk is then busy with the block
abbrev pub begun : Option ℕ → ℕ → ℕ → List DiskState → List DiskState
begun None b steps ss = ss
begun (Some d) b steps ss = slice_set ss d (Busy b steps)

-- the block that lies ready on a disk, for a buffer of so many bytes
abbrev pub ready : DiskState → ℕ → Result ℕ BankFault
ready Idle room = Err NothingToCollect
ready (Busy block left) room = cond (left == 0) (cond (nat_lt room 512) (Err BufferTooShort) (Ok block)) (Err NotDue)

-- a disk that fetches a block below n, or nothing
abbrev pub fetches_below : ℕ → DiskState → Bool
fetches_below n Idle = true
fetches_below n (Busy block left) = nat_lt block n

unfoldable pub all_fetch_below : ℕ → List DiskState → Bool
all_fetch_below n [] = true
all_fetch_below n (s ∷ ss) = fetches_below n s && all_fetch_below n ss

-- the number of blocks and the fetch time stay as they are; told of the four numbers, since the file that declares the
-- drives cannot name a relation of whole drives
pub record Same (blocks fetch blocks-then fetch-then : ℕ) : Type 0 where
  pub count : blocks-then ≡ blocks
  pub time : fetch-then ≡ fetch
