-- A side that a program holds as a value. Assumes nothing.
use Rattle.model.specs.Timetable as subject
use Rattle.plan.specs.declared.side.Heading.{Heading}
use Rattle.plan.specs.declared.side.Heading.TheVariants.{Forward, Backward}

abbrev pub side_of : Heading → subject.Side
side_of Forward = subject.Forward
side_of Backward = subject.Backward
