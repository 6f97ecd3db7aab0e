-- A refusal's line: the word `refused`, its number, its layer and its place, with single spaces between.
use Rattle.std.specs.Prelude.{ℕ, List, ◌++◌, codes, decimal}
use Rattle.refusal.specs.declared.refusal.Layer.{Layer}
use Rattle.refusal.specs.declared.refusal.Layer.TheVariants.{Sheet, Plan, Pass, Replay, Bank}
use Rattle.refusal.specs.declared.refusal.Refusal.{Refusal}

-- a layer's name
abbrev pub word : Layer → List ℕ
word Sheet = codes "sheet"
word Plan = codes "plan"
word Pass = codes "pass"
word Replay = codes "replay"
word Bank = codes "bank"

abbrev pub line : Refusal → List ℕ
line r = codes "refused " ++ (decimal r.number ++ (codes " " ++ (word r.layer ++ (codes " " ++ decimal r.place))))
