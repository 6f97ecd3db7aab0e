use Rattle.std.proofs.Common.{◌≡◌, ◌<◌, ◌≤◌, length, sym, subst, arith}
use Rattle.sheet.specs.Sheets.{meant}
use Rattle.sheet.specs.declared.view.Sheet.{Sheet as Lent}
use Rattle.planner.proofs.Whole.{fuel_few, fuel_for, sets_out, turns_on, arrives, in_time, fewer}
use Rattle.planner.proofs.planning.plan.Goals as goal

pub loop-course-init : goal.loop-course-init
loop-course-init g c =
    record {
      goes = sets_out c.args.heading c.args.sheet (g.R.Rule.answers c.args.rule.now) (g.met.R.Rule.meets c.args.rule.now) c.args.opening.now c.requires.fit c.new-course.result (g.W.Scribe.holds c.args.scribe.now)
          c.new-course.ensures.heading c.new-course.ensures.sheet c.new-course.ensures.boundary c.new-course.ensures.stands c.requires.empty;
      kept = g.met.W.Scribe.stays c.args.scribe.now;
    }

pub turn-requires : goal.turn-requires
turn-requires g c =
    let rule = g.R.Rule.answers c.args.rule.now in
    let law = g.met.R.Rule.meets c.args.rule.now in
    let k = c.loop-course.course in
    let left : k.board.position < length (meant c.args.sheet).requests = omega arith in
    let early = in_time c.args.heading c.args.sheet rule law c.args.opening.now c.requires.fit k (g.W.Scribe.holds c.loop-course.scribe) c.loop-course.invariant.goes left in
    record {
      within = subst (λ (s : Lent). k.board.position < length (meant s).requests) (sym c.loop-course.invariant.goes.plans) left;
      few = omega (arith, early, fuel_few c.args.heading c.args.sheet rule law c.args.opening.now c.requires.fit);
    }

pub loop-course-smaller : goal.loop-course-smaller
loop-course-smaller g c =
    let k = c.loop-course.course in
    let left : k.board.position < length (meant c.args.sheet).requests = omega arith in
    fewer (fuel_for (meant c.args.sheet)) k.board.boundary c.turn.new.self.board.boundary c.turn.ensures.turns.boundary
    (in_time c.args.heading c.args.sheet (g.R.Rule.answers c.args.rule.now) (g.met.R.Rule.meets c.args.rule.now) c.args.opening.now c.requires.fit k (g.W.Scribe.holds c.loop-course.scribe) c.loop-course.invariant.goes left)

pub loop-course-preserved : goal.loop-course-preserved
loop-course-preserved g c =
    let k = c.loop-course.course in
    let left : k.board.position < length (meant c.args.sheet).requests = omega arith in
    record {
      goes = turns_on c.args.heading c.args.sheet (g.R.Rule.answers c.args.rule.now) (g.met.R.Rule.meets c.args.rule.now) c.args.opening.now c.requires.fit k c.turn.new.self (g.W.Scribe.holds c.loop-course.scribe) (g.W.Scribe.holds c.turn.new.scribe)
          c.loop-course.invariant.goes left c.turn.ensures.turns;
      kept = g.met.W.Scribe.goes_on _ _ _ c.loop-course.invariant.kept c.turn.ensures.kept;
    }

pub returns-clause-told : goal.returns-clause-told
returns-clause-told g c =
    let k = c.loop-course.course in
    let most : k.board.position ≤ length (meant c.args.sheet).requests = subst (λ (s : Lent). k.board.position ≤ length (meant s).requests) c.loop-course.invariant.goes.plans k.reached in
    let all : k.board.position ≡ length (meant c.args.sheet).requests = omega arith in
    arrives c.args.heading c.args.sheet (g.R.Rule.answers c.args.rule.now) (g.met.R.Rule.meets c.args.rule.now) c.args.opening.now c.requires.fit k (g.W.Scribe.holds c.loop-course.scribe) c.loop-course.invariant.goes all
