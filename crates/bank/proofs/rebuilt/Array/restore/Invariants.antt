use Rattle.std.proofs.Common.{◌≡◌, ℕ, ◌<◌, length, get_or}
use Rattle.bank.specs.Parity.{restored_byte}
use Rattle.bank.proofs.rebuilt.Array.restore.Given as goal

-- the places passed are folded in
abbrev pub invariant-loop-place : goal.invariant-loop-place
invariant-loop-place l =
    (length l.block ≡ 512)
    × ((k : ℕ) → k < 512 → get_or l.block k 0 ≡ restored_byte l.self.image.now l.self.layout l.row k l.place)
