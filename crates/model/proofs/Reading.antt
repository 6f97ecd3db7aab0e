-- Commands and their bytes: what stands at the front of the rest, and how it is written.
use Rattle.std.proofs.Common.{◌≡◌, ℕ, ◌+◌, ◌<◌, ◌≤◌, true, List, [], ◌∷◌, ◌++◌, length, get_or, drop, sym, refl, ap, ◌∙◌, arith}
use lib.Dec.{eqb-suc-zero}
use Rattle.std.proofs.lemmas.Bool.Decides.{nat_tests}
use Rattle.model.specs.PlanBytes.{Command, Opens, Trades, Serves, Waits, Ends, command_bytes, low, high}
use Rattle.model.specs.Verdict.{Missing, Known, found, by_letter, block, size, Test, Clean, first}

-- Tests of a list that all pass.
abbrev pub AllPass : List Test → Type 0
AllPass [] = Unit {0}
AllPass (t ∷ ts) = (t.passes ≡ true) × AllPass ts

pub pass_clean : (ts : List Test) → AllPass ts → first ts ≡ Clean
pass_clean [] h = refl
pass_clean (t ∷ ts) h = rw h.0 (pass_clean ts h.1)

pub clean_pass : (ts : List Test) → first ts ≡ Clean → AllPass ts
clean_pass [] h = tt
clean_pass (t ∷ ts) h = (grind arith, clean_pass ts (grind arith))

-- the letter of a command that was found, and its blocks
opens_letter : (l a b d : ℕ) → by_letter l a b ≡ Known (Opens d) → (l ≡ 79) × (a ≡ d)
opens_letter l a b d e = (grind (arith, nat_tests), grind (arith, nat_tests))

trades_letter : (l a b c d : ℕ) → by_letter l a b ≡ Known (Trades c d) → (l ≡ 88) × (a ≡ c) × (b ≡ d)
trades_letter l a b c d e = (grind (arith, nat_tests), grind (arith, nat_tests), grind (arith, nat_tests))

bare_letter : (l a b : ℕ) (c : Command) → by_letter l a b ≡ Known c → l ≡ get_or (command_bytes c) 0 0
bare_letter l a b c e = grind (arith, nat_tests)

-- a rest that is not empty is read by its first letter
found_cons : (l : ℕ) (rest : List ℕ) → found (l ∷ rest) ≡ by_letter l (block (get_or (l ∷ rest) 1 0) (get_or (l ∷ rest) 2 0)) (block (get_or (l ∷ rest) 3 0) (get_or (l ∷ rest) 4 0))
unfolding found
found_cons l rest = rw (eqb-suc-zero (length rest))

pub found_none : found [] ≡ Missing
unfolding found
found_none = refl

-- bytes are below 256
abbrev pub Bytes : List ℕ → Type 0
Bytes xs = (i : ℕ) → i < length xs → get_or xs i 0 < 256

split_block : (l h b : ℕ) → l < 256 → block l h ≡ b → (l ≡ low b) × (h ≡ high b)
split_block l h b k e = (omega arith, omega arith)

pub block_again : (b : ℕ) → block (low b) (high b) ≡ b
block_again b = omega arith

-- a command that was found stands there with all its bytes
pub reads_back : (rest : List ℕ) (c : Command) → Bytes rest → found rest ≡ Known c → size c ≤ length rest → rest ≡ command_bytes c ++ drop (size c) rest
reads_back [] c k f h = let e = found_none in absurd (cc)
reads_back (l ∷ rest) Serves k f h = ap (λ (n : ℕ). n ∷ rest) (bare_letter l (block (get_or (l ∷ rest) 1 0) (get_or (l ∷ rest) 2 0)) (block (get_or (l ∷ rest) 3 0) (get_or (l ∷ rest) 4 0)) Serves (sym (found_cons l rest) ∙ f))
reads_back (l ∷ rest) Waits k f h = ap (λ (n : ℕ). n ∷ rest) (bare_letter l (block (get_or (l ∷ rest) 1 0) (get_or (l ∷ rest) 2 0)) (block (get_or (l ∷ rest) 3 0) (get_or (l ∷ rest) 4 0)) Waits (sym (found_cons l rest) ∙ f))
reads_back (l ∷ rest) Ends k f h = ap (λ (n : ℕ). n ∷ rest) (bare_letter l (block (get_or (l ∷ rest) 1 0) (get_or (l ∷ rest) 2 0)) (block (get_or (l ∷ rest) 3 0) (get_or (l ∷ rest) 4 0)) Ends (sym (found_cons l rest) ∙ f))
reads_back (l ∷ []) (Opens b) k f h = absurd (omega arith)
reads_back (l ∷ x ∷ []) (Opens b) k f h = absurd (omega arith)
reads_back (l ∷ x ∷ y ∷ rest) (Opens b) k f h =
    let e = opens_letter l (block x y) (block (get_or (l ∷ x ∷ y ∷ rest) 3 0) (get_or (l ∷ x ∷ y ∷ rest) 4 0)) b (sym (found_cons l (x ∷ y ∷ rest)) ∙ f) in
    let i = split_block x y b (k 1 (omega arith)) e.1 in
    let u : l ≡ 79 = e.0 in
    cc
reads_back (l ∷ []) (Trades a b) k f h = absurd (omega arith)
reads_back (l ∷ x ∷ []) (Trades a b) k f h = absurd (omega arith)
reads_back (l ∷ x ∷ y ∷ []) (Trades a b) k f h = absurd (omega arith)
reads_back (l ∷ x ∷ y ∷ z ∷ []) (Trades a b) k f h = absurd (omega arith)
reads_back (l ∷ x ∷ y ∷ z ∷ w ∷ rest) (Trades a b) k f h =
    let e = trades_letter l (block x y) (block z w) a b (sym (found_cons l (x ∷ y ∷ z ∷ w ∷ rest)) ∙ f) in
    let i = split_block x y a (k 1 (omega arith)) e.1 in
    let j = split_block z w b (k 3 (omega arith)) e.2 in
    let u : l ≡ 88 = e.0 in
    cc

-- a command that is written is found again, and taken off the front
pub found_front : (c : Command) (rest : List ℕ) → found (command_bytes c ++ rest) ≡ Known c
found_front (Opens b) rest = found_cons 79 (low b ∷ high b ∷ rest) ∙ ap (λ (n : ℕ). Known (Opens n)) (block_again b)
found_front (Trades a b) rest = found_cons 88 (low a ∷ high a ∷ low b ∷ high b ∷ rest) ∙ let e = block_again a in let f = block_again b in cc
found_front Serves rest = found_cons 83 rest
found_front Waits rest = found_cons 87 rest
found_front Ends rest = found_cons 69 rest

pub drop_front : (c : Command) (rest : List ℕ) → drop (size c) (command_bytes c ++ rest) ≡ rest
drop_front (Opens b) rest = refl
drop_front (Trades a b) rest = refl
drop_front Serves rest = refl
drop_front Waits rest = refl
drop_front Ends rest = refl

pub length_front : (c : Command) (rest : List ℕ) → length (command_bytes c ++ rest) ≡ size c + length rest
length_front c rest = grind arith

pub size_some : (c : Command) → 0 < size c
size_some c = grind arith
