use Rattle.std.proofs.Common.{◌≡◌, ℕ, ◌<◌, ◌≤◌, length, get_or}
use lib.Bits.{bit_xor}
use Rattle.bank.proofs.rebuilt.parity.fold.Given as goal

-- the bytes passed are folded in, the others as they were
abbrev pub invariant-loop-i : goal.invariant-loop-i
invariant-loop-i l =
    (length l.block ≡ 512)
    × (((k : ℕ) → k < l.i → get_or l.block k 0 ≡ bit_xor (get_or l.initial.block k 0) (get_or l.other k 0))
    × ((k : ℕ) → l.i ≤ k → get_or l.block k 0 ≡ get_or l.initial.block k 0))
