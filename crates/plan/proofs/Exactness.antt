-- The check is exact on every sheet. Assumes nothing.
use Rattle.std.proofs.Common.{◌≡◌, ℕ, ◌<◌, ◌≤◌, true, List, ◌++◌, length, get_or, take, drop, Ok, Err, Result, sym, refl, ap, ◌∙◌, arith, take-append-drop}
use Rattle.std.proofs.lemmas.List.{length-take-le}
use Rattle.std.proofs.lemmas.Bool.{eq-eqb}
use Rattle.records.specs.Records.{written_over}
use Rattle.model.specs.Sheet.{Sheet}
use Rattle.model.specs.Timetable.{Side, Forward}
use Rattle.model.specs.Statements.{Fit, plan_outcome}
use Rattle.model.specs.declared.Cause.{Cause}
use Rattle.model.specs.declared.Exchange.{Exchange}
use Rattle.model.specs.Verdict.{Answer, Accepted, Outcome}
use Rattle.model.proofs.Exact.{accepts_exactly}
use Rattle.model.proofs.Refused.{refuses_exactly}
use Rattle.sheet.specs.declared.rack.Rack.{Rack}
use Rattle.sheet.specs.Headers.{rack_of}
use Rattle.sheet.specs.Sheets.{meant}
use Rattle.sheet.specs.declared.view.Sheet.{Sheet as Lent}
use Rattle.plan.specs.declared.counts.Counts.{Counts}
use Rattle.plan.specs.Numbers.{PlanFault}
use Rattle.plan.specs.Checks.{outcome_of, answer_of, ChecksExactly}
use Rattle.plan.specs.Receipts.{says, holds}
use Rattle.plan.specs.Steps.{verdict_for}

pub checks_exactly : (side : Side) (sheet : Sheet) (room : ℕ) (bytes : List ℕ) → Fit sheet.rack.homes sheet.rack.fetch → ((i : ℕ) → i < length bytes → get_or bytes i 0 < 256) → ChecksExactly side sheet room bytes
checks_exactly side sheet room bytes fit small =
    let a = accepts_exactly side sheet.rack.homes sheet.rack.frames sheet.rack.fetch sheet.requests room bytes fit small in
    let r = λ (cause : Cause) (place : ℕ). refuses_exactly side sheet.rack.homes sheet.rack.frames sheet.rack.fetch sheet.requests room bytes fit small cause place in
    record {
      accepts = a.1;
      only = a.0;
      refuses = λ cause place. (r cause place).0;
      breaks = λ cause place. (r cause place).1;
      trails = λ cause place. (r cause place).2;
    }

pub answer_is : (r : Result Counts PlanFault) (xs : List Exchange) (o : Outcome) → outcome_of r xs ≡ o → answer_of r ≡ o.answer
answer_is (Ok c) xs o e = ap (λ (v : Outcome). v.answer) e
answer_is (Err f) xs o e = ap (λ (v : Outcome). v.answer) e

records_are : (r : Result Counts PlanFault) (xs : List Exchange) (o : Outcome) → outcome_of r xs ≡ o → xs ≡ o.records
records_are (Ok c) xs o e = ap (λ (v : Outcome). v.records) e
records_are (Err f) xs o e = ap (λ (v : Outcome). v.records) e

-- the slots, written over
pub slots_are : (r : Result Counts PlanFault) (len : ℕ) (slots old : List Exchange) (o : Outcome) → len ≤ length slots → outcome_of r (take len slots) ≡ o → drop len slots ≡ drop len old → slots ≡ written_over o.records old
slots_are r len slots old o l e later =
    let xs = take len slots in
    let whole : slots ≡ written_over xs old = sym (take-append-drop len slots) ∙ ap (λ (ys : List Exchange). xs ++ ys) (later ∙ ap (λ (n : ℕ). drop n old) (sym (length-take-le len slots l))) in
    whole ∙ ap (λ (ys : List Exchange). written_over ys old) (records_are r xs o e)

-- every rack is fit
pub rack_fit : (rack : Rack) → Fit (rack_of rack).homes (rack_of rack).fetch
rack_fit rack = record {
  few = rack.fits.blocks.1;
  on_disks = λ b m. omega (arith, rack.fits.homes b m, rack.fits.disks.1);
  lasts = rack.fits.fetch.0;
}

pub exact_on : (side : Side) (sheet : Lent) (room : ℕ) (bytes : List ℕ) → ((i : ℕ) → i < length bytes → get_or bytes i 0 < 256) → ChecksExactly side (meant sheet) room bytes
exact_on side sheet room bytes small = checks_exactly side (meant sheet) room bytes (rack_fit sheet.rack.now) small

-- an accepted plan is accepted with the same counts whatever the list, if it is long enough
says_it : (a : Answer) (c : Counts) → a ≡ Accepted c.steps c.waits c.exchanges → says a c ≡ true
says_it a c e = rw (e, eq-eqb c.steps c.steps refl, eq-eqb c.waits c.waits refl, eq-eqb c.exchanges c.exchanges refl)

module _ (sheet : Sheet) (room : ℕ) (bytes : List ℕ) (fit : Fit sheet.rack.homes sheet.rack.fetch) (small : (i : ℕ) → i < length bytes → get_or bytes i 0 < 256) where
  holds_ok : (c : Counts) → Accepted c.steps c.waits c.exchanges ≡ (verdict_for Forward sheet room bytes).answer → says (verdict_for Forward sheet c.exchanges bytes).answer c ≡ true
  holds_ok c e =
      let w = (checks_exactly Forward sheet room bytes fit small).only c.steps c.waits c.exchanges (sym e) in
      let counts : Accepted c.steps c.waits c.exchanges ≡ (plan_outcome w.0).answer = e ∙ ap (λ (o : Outcome). o.answer) w.2 in
      let few : length w.0.exchanges ≡ c.exchanges = exchanges_of counts in
      let again = (checks_exactly Forward sheet c.exchanges bytes fit small).accepts w.0 w.1 (omega arith) in
      says_it _ c (ap (λ (o : Outcome). o.answer) again ∙ sym counts)
    where
      exchanges_of : {a b d x y z : ℕ} → Accepted a b d ≡ Accepted x y z → z ≡ d
      exchanges_of p = cc

  receipt_holds : (r : Result Counts PlanFault) → answer_of r ≡ (verdict_for Forward sheet room bytes).answer → holds sheet bytes r ≡ true
  receipt_holds (Ok c) e = holds_ok c e
  receipt_holds (Err f) e = refl

pub receipt_good : (sheet : Lent) (room : ℕ) (bytes : List ℕ) (r : Result Counts PlanFault) → ((i : ℕ) → i < length bytes → get_or bytes i 0 < 256) → answer_of r ≡ (verdict_for Forward (meant sheet) room bytes).answer → holds (meant sheet) bytes r ≡ true
receipt_good sheet room bytes r small e = receipt_holds (meant sheet) room bytes (rack_fit sheet.rack.now) small r e
