-- Chunks of a list, one after the other.
use Rattle.std.proofs.Common.{◌≡◌, ℕ, zero, suc, ◌+◌, ◌*◌, ◌<◌, List, get_or, take, drop, refl, ap, ◌∙◌, arith}
use Rattle.std.proofs.lemmas.List.{drop-drop}
use Rattle.std.specs.Simd.{first_chunks}

pub first_chunk_at :
    {X : Type 0} (n k i : ℕ) (xs : List X) (d : List X) → i < k → get_or (first_chunks n k xs) i d ≡ take n (drop (n * i) xs)
first_chunk_at n zero i xs d h = absurd (let z : ⊥ = omega arith in z)
first_chunk_at n (suc k) zero xs d h = let e : n * 0 ≡ 0 = omega arith in rw e refl
first_chunk_at n (suc k) (suc i) xs d h =
    let e : n + n * i ≡ n * suc i = omega arith in
    first_chunk_at n k i (drop n xs) d (omega arith)
    ∙ ap (take n) (drop-drop (n * i) n xs ∙ ap (λ m. drop m xs) e)
