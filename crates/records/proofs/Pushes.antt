-- What a push answered, from what it is said to answer. Assumes nothing.
use Rattle.std.proofs.Common.{◌≡◌, ℕ, Bool, true, false, cond, Ok, Err, refl, arith}

pub full_by : {X E : Type 0} (b : Bool) (x : X) (e d : E) → cond b (Ok x) (Err e) ≡ Err d → b ≡ false
full_by true x e d p = let z : ◌≡◌ {A = ℕ} 0 1 = cc in absurd (omega arith)
full_by false x e d p = refl

pub room_by : {X E : Type 0} (b : Bool) (x y : X) (e : E) → cond b (Ok x) (Err e) ≡ Ok y → b ≡ true
room_by true x y e p = refl
room_by false x y e p = let z : ◌≡◌ {A = ℕ} 0 1 = cc in absurd (omega arith)
