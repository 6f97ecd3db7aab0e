use Rattle.std.proofs.Common.{◌≡◌, ℕ, ◌+◌, sym, ap, ◌∙◌, arith}
use Rattle.planner.specs.Asked.{all_for, ahead_for, need_for}
use Rattle.planner.proofs.Begun.{asked, asked_on, asked_as, upto, upto_none, upto_more, upto_all}
use Rattle.planner.proofs.course.Course.ask.Goals as goal

pub loop-disk-init : goal.loop-disk-init
loop-disk-init g c =
    let rule = g.R.Rule.answers c.args.rule.now in
    let first = asked _ _ (λ side sheet s. need_for side sheet rule s) _ (g.W.Scribe.holds c.args.scribe.now) (g.W.Scribe.holds c.note.new.scribe) c.ask_need-exchange.ensures c.note.ensures.taken in
    record { asks = asked_as _ _ _ (upto rule 0) _ _ first (λ side sheet s. sym (upto_none rule side sheet s)); kept = c.note.ensures.kept }

pub loop-disk-preserved : goal.loop-disk-preserved
loop-disk-preserved g c =
    let rule = g.R.Rule.answers c.args.rule.now in
    let d = c.loop-disk.disk in
    let next = asked _ _ (λ side sheet s. ahead_for side sheet rule d s) _ (g.W.Scribe.holds c.loop-disk.scribe) (g.W.Scribe.holds c.note-in-loop-disk.new.scribe) c.ask_ahead-exchange.ensures c.note-in-loop-disk.ensures.taken in
    let both = asked_on _ _ _ (upto rule d) (λ side sheet s. ahead_for side sheet rule d s) (g.W.Scribe.holds c.args.scribe.now) (g.W.Scribe.holds c.loop-disk.scribe) (g.W.Scribe.holds c.note-in-loop-disk.new.scribe) c.loop-disk.invariant.asks next in
    record {
      asks = asked_as _ _ _ (upto rule (d + 1)) _ _ both (λ side sheet s. sym (upto_more rule d side sheet s));
      kept = g.met.W.Scribe.goes_on _ _ _ c.loop-disk.invariant.kept c.note-in-loop-disk.ensures.kept;
    }

pub returns-clause-asks : goal.returns-clause-asks
returns-clause-asks g c =
    let rule = g.R.Rule.answers c.args.rule.now in
    let all : c.loop-disk.disk ≡ 8 = omega arith in
    asked_as _ _ (upto rule c.loop-disk.disk) (λ side sheet s. all_for side sheet rule s) _ _ c.loop-disk.invariant.asks (λ side sheet s. ap (λ (n : ℕ). upto rule n side sheet s) all ∙ upto_all rule side sheet s)
