-- What pushes do to a list. Assumes nothing.
use Rattle.std.specs.Prelude.{◌≡◌, ◌≤◌, length, drop}
use Rattle.records.specs.declared.list.List.{List as Listed}

-- what pushes alone leave of a list: as many slots, on the same loan, no record fewer, and the slots past its records as they were
pub record OnlyPushed {T : Type 0} (old new : Listed T) : Type 0 where
  pub room : length new.slots.now ≡ length old.slots.now
  pub grows : old.len ≤ new.len
  pub later : drop new.len new.slots.now ≡ drop new.len old.slots.now
  pub lent : new.slots.ghost_name ≡ old.slots.ghost_name
