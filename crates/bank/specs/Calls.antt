-- What each call on a bank answers and leaves behind.
use Rattle.std.specs.Prelude.{ℕ, cond, List, [], ◌++◌, length, drop, is_ok, Ok, Err, Result, slice_index_or, slice_set}
use Rattle.bank.specs.declared.fault.BankFault.{BankFault}
use Rattle.bank.specs.declared.state.DiskState.TheVariants.{Idle}
use Rattle.bank.specs.Fetching.{start_on, begun, ready}
use Rattle.bank.specs.Meaning.{Meaning, having}
use Rattle.bank.specs.Questions.{disk_of}
use Rattle.bank.specs.Ticking.{lowered_all}

-- Start: the block is there, and its disk is idle.
unfoldable pub start_answer : Meaning → ℕ → Result (Unit {0}) BankFault
start_answer m b = start_on (disk_of m b) m.states

-- Its disk is then busy with the block, the whole fetch time left.
unfoldable pub start_after : Meaning → ℕ → Meaning
start_after m b = having m (cond (is_ok (start_answer m b)) (begun (disk_of m b) b m.fetch m.states) m.states)

-- Tick: every count above zero is one lower.
abbrev pub tick_after : Meaning → Meaning
tick_after m = having m (lowered_all m.states)

-- Collect: the block that lies ready on the disk. A disk that is not there is as good as idle.
unfoldable pub ready_on : Meaning → ℕ → ℕ → Result ℕ BankFault
ready_on m d room = ready (slice_index_or m.states d Idle) room

abbrev pub granted : {X : Type 0} → Result X BankFault → Result (Unit {0}) BankFault
granted (Ok x) = Ok tt
granted (Err f) = Err f

unfoldable pub collect_answer : Meaning → ℕ → ℕ → Result (Unit {0}) BankFault
collect_answer m d room = granted (ready_on m d room)

-- The disk is then idle.
unfoldable pub collect_after : Meaning → ℕ → ℕ → Meaning
collect_after m d room = having m (cond (is_ok (ready_on m d room)) (slice_set m.states d Idle) m.states)

-- The block's bytes stand first in the buffer, and what lies past them is kept; all is kept at a refusal.
abbrev pub delivered : List (List ℕ) → Result ℕ BankFault → List ℕ → List ℕ
delivered blocks (Ok b) buffer = slice_index_or blocks b [] ++ drop 512 buffer
delivered blocks (Err f) buffer = buffer

unfoldable pub collect_buffer : Meaning → ℕ → List ℕ → List ℕ
collect_buffer m d buffer = delivered m.blocks (ready_on m d (length buffer)) buffer
