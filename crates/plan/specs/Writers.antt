-- What a writer has written. Assumes nothing.
use Rattle.std.specs.Prelude.{◌≡◌, ℕ, ◌-◌, ◌^◌, List, ◌++◌, length, take, drop, min}
use Rattle.std.specs.List.{flat_map}
use Rattle.model.specs.declared.Command.{Command}
use Rattle.model.specs.PlanBytes.{command_bytes}
use Rattle.plan.specs.declared.writer.Writer.{Writer}

-- an area, written over by the first of some bytes, as many as there is room for
abbrev pub filled : List ℕ → List ℕ → List ℕ
filled bytes area = take (length area) bytes ++ drop (length bytes) area

-- After these bytes, what was the area before is written over by them, and they are counted.
pub record Wrote (bytes area : List ℕ) (w : Writer) : Type 0 where
  pub filled_with : w.area.now ≡ filled bytes area
  pub counts : w.count ≡ min (length bytes) (2 ^ 64 - 1)

-- the same of commands
abbrev pub Said : List Command → List ℕ → Writer → Type 0
Said cs area w = Wrote (flat_map command_bytes cs) area w
