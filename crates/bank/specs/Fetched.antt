-- A whole fetch: start a block, let the fetch time pass, collect the block.
use Rattle.std.specs.Prelude.{ℕ, ◌-◌, cond, List, [], ◌++◌, map, length, drop, is_ok, Ok, Err, Result, nat_lt, slice_index, slice_index_or, slice_set}
use Rattle.bank.specs.declared.fault.BankFault.{BankFault}
use Rattle.bank.specs.declared.fault.BankFault.TheVariants.{BufferTooShort}
use Rattle.bank.specs.declared.state.DiskState.{DiskState}
use Rattle.bank.specs.declared.state.DiskState.TheVariants.{Idle, Busy}
use Rattle.bank.specs.Calls.{start_answer}
use Rattle.bank.specs.Meaning.{Meaning, having}

-- a disk n steps later: a count is n lower, and never below zero
abbrev pub lessened : ℕ → DiskState → DiskState
lessened n Idle = Idle
lessened n (Busy block left) = Busy block (left - n)

unfoldable pub later : ℕ → Meaning → Meaning
later n m = having m (map (lessened n) m.states)

-- refused as the start is, or for want of room
unfoldable pub fetch_answer : Meaning → ℕ → ℕ → Result (Unit {0}) BankFault
fetch_answer m b room = cond (is_ok (start_answer m b)) (cond (nat_lt room 512) (Err BufferTooShort) (Ok tt)) (start_answer m b)

-- the fetch time has passed for every disk; the block's own is idle again, or still holds the block for want of room
unfoldable pub fetch_after : Meaning → ℕ → ℕ → Meaning
fetch_after m b room =
    cond (is_ok (start_answer m b)) (having m (slice_set (map (lessened m.fetch) m.states) (slice_index m.disks b) (cond (nat_lt room 512) (Busy b 0) Idle))) m

-- the block's bytes stand first in the buffer, or nothing has changed
unfoldable pub fetch_buffer : Meaning → ℕ → List ℕ → List ℕ
fetch_buffer m b buffer = cond (is_ok (fetch_answer m b (length buffer))) (slice_index_or m.blocks b [] ++ drop 512 buffer) buffer
