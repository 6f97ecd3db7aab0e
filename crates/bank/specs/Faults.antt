-- Each fault of a bank with its number, its layer and its place.
use Rattle.std.specs.Prelude.{ℕ, List}
use Rattle.refusal.specs.declared.refusal.Layer.TheVariants.{Bank}
use Rattle.refusal.specs.declared.refusal.Refusal.{Refusal}
use Rattle.refusal.specs.Line.{line}
use Rattle.bank.specs.declared.fault.BankFault.{BankFault}
use Rattle.bank.specs.declared.fault.BankFault.TheVariants.{NoSuchBlock, DiskBusy, NothingToCollect, NotDue, BufferTooShort, LengthsDiffer, OutsideLimits}

abbrev pub number_of : BankFault → ℕ
number_of NoSuchBlock = 30
number_of DiskBusy = 31
number_of NothingToCollect = 32
number_of NotDue = 33
number_of BufferTooShort = 34
number_of LengthsDiffer = 35
number_of OutsideLimits = 36

abbrev pub refusal_of : BankFault → Refusal
refusal_of fault = record { number = number_of fault; layer = Bank; place = 0 }

abbrev pub line_of : BankFault → List ℕ
line_of fault = line (refusal_of fault)
