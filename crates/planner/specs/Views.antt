-- What a view shows. Assumes nothing.
use Rattle.model.specs.Sheet.{Sheet}
use Rattle.model.specs.Timetable.{Side}
use Rattle.model.specs.Verdict.{State}
use Rattle.model.specs.View as subject
use Rattle.model.specs.Pass.{seen}
use Rattle.sheet.specs.Sheets.{meant}
use Rattle.plan.specs.Headings.{side_of}
use Rattle.planner.specs.declared.view.View.{View}
use Rattle.planner.specs.Boards.{state_of}

-- what a rule sees of a state of a pass over a sheet
abbrev pub seen_of : Side → Sheet → State → subject.View
seen_of side sheet s = seen side sheet.rack.homes sheet.rack.frames sheet.rack.fetch sheet.requests s

-- Rules and their proofs see no further than this name.
unfoldable pub shows : View → subject.View
shows v = seen_of (side_of v.heading) (meant v.sheet) (state_of v.board.now)
