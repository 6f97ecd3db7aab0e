-- A test of an entry of a list, by looking it up. Assumes nothing.
use Rattle.std.proofs.Common.{◌≡◌, ℕ, false, leb, List, map, get_or, Some, ap, ◌∙◌}
use Rattle.std.specs.List.{slice_get}
use Rattle.std.proofs.lemmas.List.{get_or-map}
use Rattle.std.proofs.lemmas.Option.{get_or_from_slice_get, slice_get_within}

pub is_freed : (xs : List ℕ) (i t x : ℕ) → slice_get xs i ≡ Some x → get_or (map (λ f. leb f t) xs) i false ≡ leb x t
is_freed xs i t x e = get_or-map (λ f. leb f t) xs i 0 false (slice_get_within xs i x e) ∙ ap (λ (y : ℕ). leb y t) (get_or_from_slice_get xs i x 0 e)
