-- Every request of a sheet, in its own order, is of a block that there is, and there are at most 4,096 of them. Assumes nothing.
use Rattle.std.proofs.Common.{ℕ, ◌<◌, ◌≤◌, Bool, true, false, cond, List, reverse, length, get_or, subst, sym, arith}
use Rattle.std.proofs.lemmas.List.{get_or-reverse}
use Rattle.sheet.specs.Sheets.{meant}
use Rattle.sheet.specs.declared.view.Sheet.{Sheet as Lent}
use Rattle.sheet.proofs.Turned.{long}

known_either : (t : Bool) (xs : List ℕ) (n : ℕ) → ((i : ℕ) → i < length xs → get_or xs i 0 < n) → (i : ℕ) → i < length xs → get_or (cond t (reverse xs) xs) i 0 < n
known_either false xs n h i l = h i l
known_either true xs n h i l = subst (λ (x : ℕ). x < n) (sym (get_or-reverse xs i 0 l)) (h _ (omega arith))

pub known : (s : Lent) (i : ℕ) → i < length (meant s).requests → get_or (meant s).requests i 0 < length (meant s).rack.homes
known s i l = known_either s.requests.turned s.requests.slots.now (length (meant s).rack.homes) s.known i (omega (arith, long s.requests))

pub few : (s : Lent) → length (meant s).requests ≤ 4096
few s = omega (arith, long s.requests, s.few_requests)

pub few_blocks : (s : Lent) → length (meant s).rack.homes ≤ 1024
few_blocks s = s.rack.now.fits.blocks.1
