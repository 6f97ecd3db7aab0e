-- What a start and a wait make of a state. Assumes nothing.
use Rattle.std.specs.Prelude.{ℕ, ◌+◌, slice_set}
use Rattle.model.specs.declared.Mark.TheVariants.{Away, Here}
use Rattle.model.specs.declared.Phase.TheVariants.{Standing, Starting}
use Rattle.model.specs.Verdict.{State}

-- the block out is away from the next boundary on, the block in is here and the disk idle from the landing on
abbrev pub started : State → ℕ → ℕ → ℕ → ℕ → State
started s brings sends disk fetch = record {
  phase = Starting;
  opened = s.opened;
  floor = s.floor;
  position = s.position;
  boundary = s.boundary;
  waits = s.waits;
  landing = s.boundary + fetch;
  marks = slice_set (slice_set s.marks sends (Away (s.boundary + 1))) brings (Here (s.boundary + fetch));
  idle = slice_set s.idle disk (s.boundary + fetch);
  records = s.records;
}

abbrev pub waited_on : State → State
waited_on s = record {
  phase = Standing;
  opened = s.opened;
  floor = s.floor;
  position = s.position;
  boundary = s.boundary + 1;
  waits = s.waits + 1;
  landing = s.landing;
  marks = s.marks;
  idle = s.idle;
  records = s.records;
}
