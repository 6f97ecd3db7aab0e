-- The number of each cause, and the refusal that a caller is told. Assumes nothing.
use Rattle.std.specs.Prelude.{ℕ}
use Rattle.refusal.specs.declared.refusal.Refusal.{Refusal}
use Rattle.refusal.specs.declared.refusal.Layer.TheVariants.{Sheet}
use Rattle.refusal.specs.declared.refused.Refused.{Refused}
use Rattle.sheet.specs.declared.fault.SheetCause.{SheetCause}
use Rattle.sheet.specs.declared.fault.SheetCause.TheVariants.{RanOut, OutOfPlace, OutsideLimits, NotThere, TooMany, TooFewBlocks, NoSlotLeft}

abbrev pub number_of : SheetCause → ℕ
number_of RanOut = 1
number_of OutOfPlace = 2
number_of OutsideLimits = 3
number_of NotThere = 4
number_of TooMany = 5
number_of TooFewBlocks = 6
number_of NoSlotLeft = 17

-- a refused sheet: why, and at which byte of it
abbrev pub SheetFault : Type 0
SheetFault = Refused SheetCause

abbrev pub refusal_of : SheetFault → Refusal
refusal_of f = record { number = number_of f.cause; layer = Sheet; place = f.place }
