-- What the parts of a rack mean. Assumes nothing.
use Rattle.std.specs.Prelude.{ℕ, List, take}
use Rattle.model.specs.Sheet as subject
use Rattle.sheet.specs.declared.command.Geometry.{Geometry}
use Rattle.sheet.specs.declared.homes.Homes.{Homes}

-- the disks of the blocks that there are
abbrev pub homes_of : Homes → List ℕ
homes_of h = take h.blocks h.disks

abbrev pub rack_with : Geometry → Homes → subject.Rack
rack_with g h = record { disks = g.disks; frames = g.frames; fetch = g.fetch; homes = homes_of h }
