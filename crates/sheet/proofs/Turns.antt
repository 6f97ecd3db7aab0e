-- One command, by how it is judged. Assumes nothing.
use Rattle.std.proofs.Common.{◌≡◌, ℕ, ◌-◌, ◌<◌, true, false, List, length, get_or, Some, None, Option, Ok, Err, Result, Bool, MatchResult, is_ok, sym, ap, subst, ◌∙◌, arith}
use Rattle.std.specs.Option.{ok_or}
use Rattle.std.proofs.lemmas.Bool.{eq-eqb, ne_eqb}
use Rattle.sheet.specs.declared.fault.SheetCause.TheVariants.{RanOut, OutOfPlace}
use Rattle.commands.specs.declared.reader.Reader.{Reader}
use Rattle.sheet.specs.declared.command.Command.{Command}
use Rattle.sheet.specs.declared.letter.Letter.{Letter}
use Rattle.sheet.specs.declared.stage.Stage.{Stage}
use Rattle.sheet.specs.declared.fault.SheetCause.{SheetCause}
use Rattle.sheet.specs.Letters.{byte_of}
use Rattle.sheet.specs.Commands.{Said, said, parsed, front_of, front_by}
use Rattle.sheet.specs.Drafts.{goes_on}
use Rattle.sheet.proofs.Fronts.{front_is}
use Rattle.sheet.specs.Reading.{SoFar, takes, took, stops, fault, after_taking, turn}

module _ (total : ℕ) (rest : List ℕ) (s : SoFar) where
  pub turn_none : length rest ≡ 0 → turn total rest s ≡ stops (fault RanOut total)
  unfolding turn
  turn_none e = rw (eq-eqb (length rest) 0 e)

  pub turn_place : 0 < length rest → takes s.stage (get_or rest 0 0) ≡ false → turn total rest s ≡ stops (fault OutOfPlace (total - length rest))
  unfolding turn
  turn_place l e = rw (ne_eqb (length rest) 0 (λ z. omega arith), e)

  pub turn_broken : 0 < length rest → takes s.stage (get_or rest 0 0) ≡ true → front_of rest ≡ None → turn total rest s ≡ stops (fault RanOut total)
  unfolding turn
  turn_broken l e f = rw (ne_eqb (length rest) 0 (λ z. omega arith), e, f)

  pub turn_taken : 0 < length rest → takes s.stage (get_or rest 0 0) ≡ true → (x : Said) (after : List ℕ) → front_of rest ≡ Some (x, after) → turn total rest s ≡ after_taking (total - length rest) after (took x s)
  unfolding turn
  turn_taken l e x after f = rw (ne_eqb (length rest) 0 (λ z. omega arith), e, f)

  -- the same at a stage, by the letter
  pub turn_misplaced : (g : Stage) (c : SheetCause) → 0 < length rest → s.stage ≡ g → takes g (get_or rest 0 0) ≡ false → c ≡ OutOfPlace → turn total rest s ≡ stops (fault c (total - length rest))
  turn_misplaced g c l e f h = rw h (turn_place l (rw e f))

  pub turn_front : (g : Stage) (l : Letter) (o : Option (Command × Reader)) → 0 < length rest → s.stage ≡ g → takes g (get_or rest 0 0) ≡ true → byte_of l ≡ get_or rest 0 0 → parsed o ≡ front_by l rest → turn total rest s ≡ goes_on (total - length rest) s (ok_or o (fault RanOut total))
  turn_front g l None some e f b h = turn_broken some (rw e f) (front_is rest l b ∙ sym h)
  turn_front g l (Some p) some e f b h = turn_taken some (rw e f) (said p.0) p.1.rest.now (front_is rest l b ∙ sym h)

-- what is known of a value that was granted, where a refusal is then told in another way
pub granted : {A C E : Type 0} (r : Result A C) (told : Result A E) (x : A) (Told : C → Type 0) (Good : A → Type 0) (Bad : C → Type 0) → is_ok told ≡ is_ok r → MatchResult r (λ y. told ≡ Ok y) Told → told ≡ Ok x → MatchResult r Good Bad → Good x
granted (Ok y) told x Told Good Bad same how is good = let e : y ≡ x = cc in subst Good e good
granted (Err c) told x Told Good Bad same how is bad = let z : ◌≡◌ {A = Bool} true false = sym (ap is_ok is) ∙ same in let no : ◌≡◌ {A = ℕ} 0 1 = cc in absurd (omega arith)
