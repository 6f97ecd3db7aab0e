-- What a caller is told of something refused. Assumes nothing.
use Rattle.std.specs.Prelude.{ℕ}
use Rattle.refusal.specs.declared.refusal.Layer.{Layer}
use Rattle.refusal.specs.declared.refusal.Refusal.{Refusal}
use Rattle.refusal.specs.declared.refused.Refused.{Refused}

-- the refusal of a layer whose causes have these numbers
abbrev pub refusal_of : {C : Type 0} → Layer → (C → ℕ) → Refused C → Refusal
refusal_of layer number r = record { number = number r.cause; layer = layer; place = r.place }
