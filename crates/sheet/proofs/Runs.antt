-- Runs: one command at a time, and commands enough. Assumes nothing.
use Rattle.std.proofs.Common.{◌≡◌, ℕ, zero, suc, ◌<◌, ◌≤◌, Bool, true, false, cond, List, length, Ok, Err, Result, sym, refl, ◌∙◌, arith}
use Rattle.model.specs.Sheet.{Sheet}
use Rattle.sheet.specs.Numbers.{SheetFault}
use Rattle.sheet.specs.declared.draft.Draft.{Draft}
use Rattle.sheet.specs.declared.header.Header.{Header}
use Rattle.sheet.specs.Drafts.{so_far}
use Rattle.sheet.specs.Headers.{sheet_of, outcome_of}
use Rattle.sheet.specs.Reading.{SoFar, sheet_said, Turn, proceeds, stops, turn, turn_answer, turn_left, fit, unfit, Outcome, complete, onward, run}

abbrev done : SoFar → Outcome
done s = record { verdict = fit (sheet_said s); slots = s.slots }

module _ (total : ℕ) where
  pub run_done : (n : ℕ) (rest : List ℕ) (s : SoFar) → complete rest s ≡ true → run (suc n) total rest s ≡ done s
  unfolding run
  run_done n rest s e = rw e

  pub run_on : (n : ℕ) (rest : List ℕ) (s : SoFar) (t : SoFar) (after : List ℕ) → complete rest s ≡ false → turn total rest s ≡ proceeds t after → run (suc n) total rest s ≡ run n total after t
  unfolding run
  run_on n rest s t after e f = rw (e, f)

  pub run_stop : (n : ℕ) (rest : List ℕ) (s : SoFar) (f : SheetFault) → complete rest s ≡ false → turn total rest s ≡ stops f → run (suc n) total rest s ≡ record { verdict = unfit f; slots = s.slots }
  unfolding run
  run_stop n rest s f e g = rw (e, g)

  -- a run that ends with a sheet ends so with more commands allowed
  pub run_more : (n m : ℕ) → n ≤ m → (rest : List ℕ) (s : SoFar) (x : Sheet) → (run n total rest s).verdict ≡ fit x → run m total rest s ≡ run n total rest s
  unfolding run
  run_more zero m l rest s x e = let z : ◌≡◌ {A = ℕ} 0 1 = cc in absurd (omega arith)
  run_more (suc n) zero l rest s x e = absurd (omega arith)
  run_more (suc n) (suc m) l rest s x e = ways (λ r t g. run_more n m (omega arith) r t x g) (complete rest s) (turn total rest s) e
    where
      ways : ((r : List ℕ) (t : SoFar) → (run n total r t).verdict ≡ fit x → run m total r t ≡ run n total r t) → (b : Bool) (u : Turn) → (cond b (done s) (onward (λ r t. run n total r t) s u)).verdict ≡ fit x → ◌≡◌ {A = Outcome} (cond b (done s) (onward (λ r t. run m total r t) s u)) (cond b (done s) (onward (λ r t. run n total r t) s u))
      ways ih true u g = refl
      ways ih false (proceeds t r) g = ih r t g
      ways ih false (stops f) g = refl

-- A loop that takes one command a turn.

-- what a turn was, from its answer and what it left
pub went_on : (u : Turn) (s t : SoFar) (after : List ℕ) → Ok after ≡ turn_answer u → t ≡ turn_left s u → u ≡ proceeds t after
went_on (proceeds v r) s t after e f = let same : after ≡ r = cc in rw (f, same)
went_on (stops g) s t after e f = let z : ◌≡◌ {A = ℕ} 0 1 = cc in absurd (omega arith)

pub was_stopped : (u : Turn) (f : SheetFault) → Err f ≡ turn_answer u → u ≡ stops f
was_stopped (proceeds v r) f e = let z : ◌≡◌ {A = ℕ} 0 1 = cc in absurd (omega arith)
was_stopped (stops g) f e = let same : f ≡ g = cc in rw same

module _ (total : ℕ) (rest : List ℕ) (s : SoFar) (o : Outcome) where
  -- the run from here on, with commands enough, comes to o
  abbrev pub Leads : Type 0
  Leads = (n : ℕ) × (length rest < n) × (run n total rest s ≡ o)

  by_count : (P : Type 0) → ((m : ℕ) → run (suc m) total rest s ≡ o → P) → Leads → P
  by_count P f h = go h.0 h.1 h.2
    where
      go : (n : ℕ) → length rest < n → run n total rest s ≡ o → P
      go zero l e = absurd (omega arith)
      go (suc m) l e = f m e

  pub leads_on : (t : SoFar) (after : List ℕ) → complete rest s ≡ false → turn total rest s ≡ proceeds t after → length after < length rest → Leads → (n : ℕ) × (length after < n) × (run n total after t ≡ o)
  leads_on t after e f l h = go h.0 h.1 h.2
    where
      go : (n : ℕ) → length rest < n → run n total rest s ≡ o → (n : ℕ) × (length after < n) × (run n total after t ≡ o)
      go zero m g = absurd (omega arith)
      go (suc n) m g = (n, omega arith, sym (run_on total n rest s t after e f) ∙ g)

  pub leads_to_end : complete rest s ≡ true → Leads → o ≡ record { verdict = fit (sheet_said s); slots = s.slots }
  leads_to_end e h = by_count (o ≡ record { verdict = fit (sheet_said s); slots = s.slots }) (λ m g. sym g ∙ run_done total m rest s e) h

  pub leads_to_stop : (f : SheetFault) → complete rest s ≡ false → turn total rest s ≡ stops f → Leads → o ≡ record { verdict = unfit f; slots = s.slots }
  leads_to_stop f e g h = by_count (o ≡ record { verdict = unfit f; slots = s.slots }) (λ m k. sym k ∙ run_stop total m rest s f e g) h

-- What the loop answers.

pub answer_ok : (h : Header) (d : Draft) (count : ℕ) (slots : List ℕ) (o : Outcome) → ((xs : List ℕ) → sheet_of h xs ≡ sheet_said (so_far d count xs)) → o ≡ record { verdict = fit (sheet_said (so_far d count slots)); slots = slots } → outcome_of (Ok h) slots ≡ o
answer_ok h d count slots o is f = rw (is slots, f)

pub answer_err : (g f : SheetFault) (final slots : List ℕ) (o : Outcome) (r : Result Header SheetFault) → r ≡ Err g → g ≡ f → final ≡ slots → o ≡ record { verdict = unfit f; slots = slots } → outcome_of r final ≡ o
answer_err g f final slots o r e same is h = rw (e, same, is, h)
