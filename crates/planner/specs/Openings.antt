-- The opening content of a plan, and the blocks that are chosen for it. Assumes nothing.
use Rattle.std.specs.Prelude.{◌≡◌, ℕ, ◌<◌, Bool, false, List, [], length, take, ◌==◌, slice_index_or}
use Rattle.model.specs.Sheet.{Sheet}
use Rattle.model.specs.Timetable.{home}
use Rattle.model.specs.Pass.{different}
use Rattle.planner.specs.declared.opening.Opening.{Opening}

abbrev pub opened : Opening → List ℕ
opened o = take o.len o.slots

-- a table and a number tell which blocks a list of different blocks holds, and how many
pub record Marks (is : List Bool) (count : ℕ) (found : List ℕ) : Type 0 where
  pub told : (b : ℕ) → b < 1024 → slice_index_or is b false ≡ (home found b == 1)
  pub many : count ≡ length found

-- the first different ones of some blocks, as many as there are frames
abbrev pub first_of : Sheet → List ℕ → List ℕ
first_of sheet blocks = different sheet.rack.frames [] blocks
