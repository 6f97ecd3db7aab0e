-- The requests of a header that was read. Assumes nothing.
use Rattle.std.proofs.Common.{◌≡◌, ℕ, ◌<◌, ◌≤◌, List, length, get_or, Ok, Err, Result, IfOk, sym, subst, arith}
use Rattle.std.proofs.lemmas.List.{get_or-take, length-take-le}
use Rattle.model.specs.Sheet.{Fits}
use Rattle.sheet.specs.Numbers.{SheetFault}
use Rattle.sheet.specs.declared.header.Header.{Header}
use Rattle.sheet.specs.Headers.{sheet_of, outcome_of}
use Rattle.sheet.specs.Racks.{homes_of}
use Rattle.sheet.specs.Reading.{Outcome, reading}
use Rattle.sheet.proofs.Only.{Bytes, Told, told}

-- every request is of a block of the rack
known_in : (h : Header) (slots : List ℕ) → Fits (sheet_of h slots) → h.requests ≤ length slots → (i : ℕ) → i < h.requests → get_or slots i 0 < length (homes_of h.rack.homes)
known_in h slots fits enough i l =
    let long = length-take-le h.requests slots enough in
    subst (λ (n : ℕ). n < length (homes_of h.rack.homes)) (get_or-take h.requests slots i 0 l) (fits.known i (omega arith))

pub known_read : (r : Result Header SheetFault) (bytes old slots : List ℕ) → Bytes bytes → outcome_of r slots ≡ reading bytes old → IfOk r (λ h. h.requests ≤ length slots) → IfOk r (λ h. (i : ℕ) → i < h.requests → get_or slots i 0 < length (homes_of h.rack.homes))
known_read (Ok h) bytes old slots small e enough =
    let all : Told bytes old (outcome_of (Ok h) slots).verdict (outcome_of (Ok h) slots).slots = subst (λ (o : Outcome). Told bytes old o.verdict o.slots) (sym e) (told bytes old small) in
    known_in h slots all.0 enough
known_read (Err f) bytes old slots small e enough = tt
