-- Reading is exact, and a sheet's bytes are its own. Assumes nothing.
use Rattle.std.proofs.Common.{◌≡◌, ℕ, List, ◌++◌, sym, ap, ◌∙◌, subst, arith, length-append}
use Rattle.model.specs.Sheet.{sheet_bytes}
use Rattle.sheet.specs.Reading.{fit, reading}
use Rattle.sheet.specs.Exact.{ReadsExactly, OneSheet}
use Rattle.sheet.proofs.Accepts.{accepted}
use Rattle.sheet.proofs.Only.{Bytes, Told, told}

pub exactly : (bytes slots : List ℕ) → Bytes bytes → ReadsExactly bytes slots
exactly bytes slots small = record {
  accepts = λ s fits is room. subst (λ (xs : List ℕ). (reading xs slots).verdict ≡ fit s) is (accepted s slots fits room);
  only = λ s e. subst (λ v. Told bytes slots v (reading bytes slots).slots) e (told bytes slots small);
  refuses = λ f e. subst (λ v. Told bytes slots v (reading bytes slots).slots) e (told bytes slots small);
}

-- both are what their bytes are read as
pub one_sheet : OneSheet
one_sheet s t fs ft e =
    let slots = s.requests ++ t.requests in
    let long = length-append s.requests t.requests in
    let p : (reading (sheet_bytes s) slots).verdict ≡ fit s = accepted s slots fs (omega arith) in
    let q : (reading (sheet_bytes t) slots).verdict ≡ fit t = accepted t slots ft (omega arith) in
    let both : fit s ≡ fit t = sym p ∙ ap (λ (xs : List ℕ). (reading xs slots).verdict) e ∙ q in
    cc
