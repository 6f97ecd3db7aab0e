-- The limits of a bank: 1 to 1,024 blocks, eight disks, a fetch time of 1 to 64 steps.
use Rattle.std.specs.Prelude.{ℕ, Bool, ◌&&◌, List, nat_le, nat_lt}
use Rattle.std.specs.List.{list_all}

abbrev pub count_within : ℕ → Bool
count_within n = nat_le 1 n && nat_le n 1024

abbrev pub fetch_within : ℕ → Bool
fetch_within steps = nat_le 1 steps && nat_le steps 64

abbrev pub all_below : ℕ → List ℕ → Bool
all_below n xs = list_all (λ x. nat_lt x n) xs
