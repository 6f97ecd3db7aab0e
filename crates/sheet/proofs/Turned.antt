-- Requests in a sheet's own order. Assumes nothing.
use Rattle.std.proofs.Common.{◌≡◌, ℕ, Bool, true, false, cond, List, reverse, length, sym, refl}
use Rattle.std.proofs.lemmas.List.{length-reverse}
use Rattle.sheet.specs.declared.requests.Requests.{Requests}
use Rattle.sheet.specs.Orders.{in_order}

abbrev either : Bool → List ℕ → List ℕ
either t xs = cond t (reverse xs) xs

long_either : (t : Bool) (xs : List ℕ) → length xs ≡ length (either t xs)
long_either true xs = sym (length-reverse xs)
long_either false xs = refl

pub long : (r : Requests) → length r.slots.now ≡ length (in_order r)
long r = long_either r.turned r.slots.now
