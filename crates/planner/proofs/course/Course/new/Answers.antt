use Rattle.plan.specs.Headings.{side_of}
use Rattle.sheet.specs.Sheets.{meant}
use Rattle.planner.proofs.course.Course.new.Goals as goal

pub returns-clause-stands : goal.returns-clause-stands
returns-clause-stands c = c.new.ensures.stands (side_of c.args.heading) (meant c.args.sheet)
