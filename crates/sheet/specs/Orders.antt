-- Requests in a sheet's own order. Assumes nothing.
use Rattle.std.specs.Prelude.{ℕ, cond, List, reverse}
use Rattle.sheet.specs.declared.requests.Requests.{Requests}

-- turned requests are in reverse
abbrev pub in_order : Requests → List ℕ
in_order r = cond r.turned (reverse r.slots.now) r.slots.now
