-- What the code's look at the front of a plan says. Assumes nothing.
use Rattle.std.specs.Prelude.{Ok, Err, Result}
use Rattle.model.specs.Verdict.{Found, Missing, Strange, Known}
use Rattle.model.specs.declared.Command.{Command}
use Rattle.plan.specs.declared.front.NoCommand.{NoCommand}
use Rattle.plan.specs.declared.front.NoCommand.TheVariants as none

abbrev pub found_of : Result Command NoCommand → Found
found_of (Err none.Missing) = Missing
found_of (Err none.Strange) = Strange
found_of (Ok c) = Known c
