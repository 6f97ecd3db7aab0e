-- What a caller is told of a fault: number, layer and place. Assumes nothing.
use Rattle.refusal.specs.declared.refusal.Refusal.{Refusal}
use Rattle.sheet.specs.Numbers.{refusal_of}
use Rattle.backread.specs.declared.fault.Fault.{Fault}
use Rattle.backread.specs.declared.fault.Fault.TheVariants.{Sheet}

abbrev pub told : Fault → Refusal
told (Sheet fault) = refusal_of fault
