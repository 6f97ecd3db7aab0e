-- The letters that commands begin with, as bytes. Assumes nothing.
use Rattle.std.specs.Prelude.{◌≡◌, ℕ}
use Rattle.model.specs.Sheet.{letter_n, letter_g, letter_d, letter_r, letter_e}
use Rattle.sheet.specs.declared.letter.Letter.{Letter}
use Rattle.sheet.specs.declared.letter.Letter.TheVariants.{Name, Geometry, Disk, Request, End}

abbrev pub byte_of : Letter → ℕ
byte_of Name = letter_n
byte_of Geometry = letter_g
byte_of Disk = letter_d
byte_of Request = letter_r
byte_of End = letter_e

-- no command begins with this byte
abbrev pub BeginsNone : ℕ → Type 0
BeginsNone byte = (letter : Letter) → byte_of letter ≡ byte → ⊥
