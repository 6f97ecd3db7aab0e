-- What is proved of the questions that a rule can ask of what it sees.
use Rattle.std.specs.Prelude.{◌≡◌, ℕ, ◌<◌, ◌≤◌, Bool, true, false, List, length, ◌≢◌, slice_index}
use Rattle.model.specs.Timetable.{Side, Exchange, Act, Lawful}
use Rattle.model.specs.Statements.{Fit}
use Rattle.model.specs.Refusals.{KeepsSoFar}
use Rattle.model.specs.View.{None, Some, View, may_go_out, lawful, next_use, first_from, latest_of}
use Rattle.model.specs.Rules.{Rule, NeedLaw}
use Rattle.model.specs.Follows.{view_at}

-- The lowest position from p on whose block passes a test, or the number of requests where none does.
pub record FirstIs (requests : List ℕ) (p : ℕ) (test : ℕ → Bool) (k : ℕ) : Type 0 where
  pub from : p ≤ k
  pub within : k ≤ length requests
  pub passes : k < length requests → test (slice_index requests k) ≡ true
  pub none_before : (j : ℕ) → p ≤ j → j < k → test (slice_index requests j) ≡ false

-- The position that a rule is told is that one, and there is only one such.
pub record FirstExact (v : View) (test : ℕ → Bool) : Type 0 where
  pub is : FirstIs v.requests v.position test (first_from v test)
  pub only : (k : ℕ) → FirstIs v.requests v.position test k → k ≡ first_from v test

abbrev pub FirstsExact : Type 0
FirstsExact = (v : View) (test : ℕ → Bool) → v.position ≤ length v.requests → FirstExact v test

-- Of the blocks that may go out and pass a test, the one with the latest next use; of several with the same the lowest.
pub record LatestIs (v : View) (test : ℕ → Bool) (b : ℕ) : Type 0 where
  pub goes : may_go_out v b ≡ true
  pub passes : test b ≡ true
  pub latest : (c : ℕ) → may_go_out v c ≡ true → test c ≡ true → next_use v c ≤ next_use v b
  pub lowest : (c : ℕ) → may_go_out v c ≡ true → test c ≡ true → c < b → next_use v c < next_use v b

pub record LatestExact (v : View) (test : ℕ → Bool) : Type 0 where
  pub is : (b : ℕ) → latest_of v test ≡ Some b → LatestIs v test b
  pub only : (b : ℕ) → LatestIs v test b → latest_of v test ≡ Some b
  pub none_is : latest_of v test ≡ None → (c : ℕ) → may_go_out v c ≡ true → test c ≢ true
  pub none_only : ((c : ℕ) → may_go_out v c ≡ true → test c ≢ true) → latest_of v test ≡ None

abbrev pub LatestsExact : Type 0
LatestsExact = (v : View) (test : ℕ → Bool) → LatestExact v test

-- An exchange is lawful to a rule, which sees a plan that keeps the model so far, exactly if it is lawful after the
-- exchanges started so far.
pub record LawfulSame (side : Side) (homes : List ℕ) (frames fetch : ℕ) (requests o : List ℕ) (xs : List Exchange) (t position p q : ℕ) : Type 0 where
  pub said : lawful (view_at side homes frames fetch requests o xs t position) p q ≡ true → Lawful side homes fetch o xs (record { brings = p; sends = q; start = t })
  pub meant : Lawful side homes fetch o xs (record { brings = p; sends = q; start = t }) → lawful (view_at side homes frames fetch requests o xs t position) p q ≡ true

abbrev pub LawfulExact : Type 0
LawfulExact =
    (side : Side) (homes : List ℕ) (frames fetch : ℕ) (requests : List ℕ) (room : ℕ) (o : List ℕ) (a : List Act) (xs : List Exchange) →
    Fit homes fetch → KeepsSoFar side homes frames fetch requests room o a xs → (position p q : ℕ) → LawfulSame side homes frames fetch requests o xs (length a) position p q

-- a rule that never names a block
abbrev pub silent : Rule
silent = record { need = λ v. None; ahead = λ v d. None }

abbrev pub SilenceBreaksTheLaw : Type 0
SilenceBreaksTheLaw = NeedLaw silent → ⊥
