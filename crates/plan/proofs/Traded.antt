-- An exchange started, or refused. Assumes nothing.
use Rattle.std.proofs.Common.{◌≡◌, ℕ, ◌+◌, ◌<◌, Bool, ltb, List, [], ◌∷◌, ◌++◌, length, take, set, Ok, Err, Result, IsErrAnd, sym, refl, ap, ◌∙◌}
use Rattle.std.proofs.lemmas.List.{take_more_set}
use Rattle.std.proofs.lemmas.Result.{err_from_is_err_and}
use Rattle.model.specs.Sheet.{Sheet}
use Rattle.model.specs.Timetable.{Side, Forward, Backward, carrier, occupies}
use Rattle.model.specs.declared.Exchange.{Exchange}
use Rattle.model.specs.declared.Command.{Command}
use Rattle.model.specs.declared.Command.TheVariants.{Trades}
use Rattle.model.specs.declared.Cause.{Cause}
use Rattle.model.specs.Verdict.{State, Finding, Clean, Faulty, after}
use Rattle.plan.specs.Noted.{started}
use Rattle.plan.specs.Tracks.{whole, answered, if_room, after_for, left_by, Judges, Leaves}
use Rattle.plan.specs.declared.track.Track.{Track}

pub faulty_by : (f : Finding) (e : Cause) → Err e ≡ answered f → f ≡ Faulty e
faulty_by Clean e p = cc
faulty_by (Faulty c) e p = cc

pub clean_by : (f : Finding) → Ok tt ≡ answered f → f ≡ Clean
clean_by Clean p = refl
clean_by (Faulty c) p = cc

-- a refused command keeps the state, one that passes makes its own of it

pub kept_by : (f : Finding) (e : Cause) (s t : State) → Err e ≡ answered f → s ≡ left_by s t f
kept_by f e s t p = sym (ap (left_by s t) (faulty_by f e p))

pub made_by : (f : Finding) (s t u : State) → Ok tt ≡ answered f → u ≡ t → u ≡ left_by s t f
made_by f s t u p e = e ∙ sym (ap (left_by s t) (clean_by f p))

pub refused_so : (t : Track) (sheet : Sheet) (c : Command) (r : Result (Unit {0}) Cause) (e : Cause) → Judges t sheet c (Err e) → IsErrAnd r (λ y. y ≡ e) → Judges t sheet c r
refused_so t sheet c r e judged is = let told = err_from_is_err_and r is in rw told.1 (rw told.2 judged)

pub kept_so : (t : Track) (sheet : Sheet) (c : Command) (e : Cause) → Judges t sheet c (Err e) → Leaves t t sheet c
kept_so t sheet c e judged = record { left = λ side room xs. kept_by _ e _ _ (judged.found side room xs) }

pub made_so : (t u : Track) (sheet : Sheet) (c : Command) → Judges t sheet c (Ok tt) → ((side : Side) (room : ℕ) (xs : List Exchange) → whole u xs ≡ after_for side sheet room (whole t xs) c) → Leaves t u sheet c
made_so t u sheet c judged made = record { left = λ side room xs. made_by _ _ _ _ (judged.found side room xs) (made side room xs) }

-- what proves a function whose command passes or not by its own tests alone
pub ruleset own_tests = (refused_so, kept_so, made_so)

-- an exchange is carried by one of its two blocks
pub carried_by : (side : Side) (x : Exchange) → (carrier side x ≡ x.brings → ⊥) → carrier side x ≡ x.sends
carried_by Forward x other = absurd (other refl)
carried_by Backward x other = refl

abbrev with_records : List Exchange → State → State
with_records xs s = record { phase = s.phase; opened = s.opened; floor = s.floor; position = s.position; boundary = s.boundary; waits = s.waits; landing = s.landing; marks = s.marks; idle = s.idle; records = xs }

pub one_more : (len len' : ℕ) (slots slots' : List Exchange) (x : Exchange) → len' ≡ len + 1 → slots' ≡ set slots len x → len < length slots → take len' slots' ≡ take len slots ++ x ∷ []
one_more len len' slots slots' x p q l = rw (p, q) (take_more_set slots len x l)

-- the answer with the list's own refusal
pub with_room : (b : Bool) (xs : List Exchange) (n room : ℕ) (r : Result (Unit {0}) Cause) (f : Finding) → length xs ≡ n → ltb n room ≡ b → r ≡ Ok tt → if_room (ltb (length xs) room) r ≡ answered f → if_room b (Ok tt) ≡ answered f
with_room b xs n room r f e t is a = rw (e, t, is) at a

-- the state after an exchange
pub started_is : (side : Side) (sheet : Sheet) (room : ℕ) (s : State) (a b fetch disk : ℕ) (t : State) → fetch ≡ sheet.rack.fetch → disk ≡ occupies side sheet.rack.homes (record { brings = a; sends = b; start = s.boundary }) → t ≡ started (with_records (s.records ++ (record { brings = a; sends = b; start = s.boundary } ∷ [])) s) a b disk fetch → t ≡ after_for side sheet room s (Trades a b)
unfolding after
started_is side sheet room s a b fetch disk t f d e = e ∙ rw (f, d)
