use Rattle.std.proofs.Common.{◌≡◌, ℕ, ◌+◌, length, sym, ◌∙◌, subst, arith}
use Rattle.plan.specs.Rewinds.{mirror_to}
use Rattle.plan.specs.Writers.{Said}
use Rattle.plan.proofs.StepBack.{none_left}
use Rattle.plan.proofs.writer.Writer.write_steps.Goals as goal

pub loop-step-preserved : goal.loop-step-preserved
loop-step-preserved c =
    let inv = c.loop-step.invariant in
    let s = c.loop-step.step in
    let made = c.write_step-reached.ensures in
    record {
      rewound = λ plan h e. made.rewound plan s (inv.rewound plan h e) (omega (arith, e, c.loop-step-test.true));
      more = λ plan o area h e told.
          subst (λ (f : ℕ). Said (mirror_to o f plan (s + 1) (length c.write_step-reached.result.left.now)) area c.write_step-reached.new.self) inv.fetch
          (made.more plan o area s (inv.rewound plan h e) (omega (arith, e, c.loop-step-test.true))
          (subst (λ (f : ℕ). Said (mirror_to o f plan s (length c.loop-step.reached.left.now)) area c.loop-step.self) (sym inv.fetch) (inv.more plan o area h e told)));
      fetch = made.fetch ∙ inv.fetch;
      lent = made.lent ∙ inv.lent;
    }

pub returns-clause-more : goal.returns-clause-more
returns-clause-more c =
    let inv = c.loop-step.invariant in
    λ plan o area h e told.
    let end : c.loop-step.step ≡ length plan.acts = omega (arith, e, c.loop-step-test.false, c.loop-step.auto.step-end) in
    let none = none_left plan c.loop-step.step c.loop-step.reached (inv.rewound plan h e) (omega arith) in
    subst (λ (n : ℕ). Said (mirror_to o c.args.rewind.fetch plan (length plan.acts) n) area c.loop-step.self) none
    (subst (λ (n : ℕ). Said (mirror_to o c.args.rewind.fetch plan n (length c.loop-step.reached.left.now)) area c.loop-step.self) end (inv.more plan o area h e told))
