-- A mirror from its opening to its end. Assumes nothing.
use Rattle.std.proofs.Common.{◌≡◌, ℕ, ◌-◌, ◌<◌, List, [], ◌∷◌, ◌++◌, map, reverse, length, take, sym, ap, ◌∙◌, subst, arith}
use Rattle.std.proofs.lemmas.List.{length-reverse, take_all}
use Rattle.model.specs.Sheet.{Sheet}
use Rattle.model.specs.Timetable.{Act, Side, Plan}
use Rattle.model.specs.Mirror.{closing, reflected}
use Rattle.model.specs.PlanBytes.{plan_bytes, so_far}
use Rattle.model.specs.declared.Command.{Command}
use Rattle.model.specs.declared.Command.TheVariants.{Ends}
use Rattle.model.specs.declared.Exchange.{Exchange}
use Rattle.model.proofs.MirrorWriting.{mirror_ends}
use Rattle.model.proofs.Mirroring.{length_reflected}
use Rattle.plan.specs.declared.ending.Ending.{Ending}
use Rattle.plan.specs.declared.rewind.Rewind.{Rewind}
use Rattle.plan.specs.declared.writer.Writer.{Writer}
use Rattle.plan.specs.Endings.{Ended, staying}
use Rattle.plan.specs.Mirrors.{image}
use Rattle.plan.specs.Plans.{plan_in}
use Rattle.plan.specs.Rewinds.{Front, Rewound, mirror_to}
use Rattle.plan.specs.Writers.{Said, Wrote}
use Rattle.plan.proofs.Rewound.{front_whole}

module _ (side : Side) (sheet : Sheet) (bytes : List ℕ) (slots : List Exchange) (e : Ending) (f : 0 < sheet.rack.fetch) (h : Ended side sheet bytes slots e) where
  abbrev plan : Plan
  plan = plan_in bytes

  -- the plan as it is before its reading from the end
  pub rewound_first : (r : Rewind) → r.plan.now ≡ bytes → r.frames ≡ sheet.rack.frames → r.fetch ≡ sheet.rack.fetch → r.left.now ≡ take e.counts.exchanges slots → r.started.now ≡ take e.counts.exchanges slots → Rewound plan 0 r
  rewound_first r is frames fetch left started =
      let k = h.written.keeps in
      let all = ap length (left ∙ h.listed) in
      let begun = ap length (started ∙ h.listed) in
      record {
        bytes = is ∙ h.written.written;
        fills = k.fills ∙ sym frames;
        lasts = omega (arith, f, fetch);
        in_order = k.in_order;
        left = subst (λ (xs : List Exchange). Front xs plan.exchanges) (sym (left ∙ h.listed)) (front_whole plan.exchanges);
        lands = λ j l. omega (arith, k.all_land j (omega (arith, l, all)), fetch);
        landed = λ j l m. absurd (omega (arith, l, m, all));
        started = subst (λ (xs : List Exchange). Front xs plan.exchanges) (sym (started ∙ h.listed)) (front_whole plan.exchanges);
        later = λ j l m. absurd (omega (arith, l, m, begun));
      }

  -- after the opening
  pub said_first : (o area : List ℕ) (fetch n : ℕ) (w : Writer) → n ≡ length plan.exchanges → Said (so_far o [] []) area w → Said (mirror_to o fetch plan 0 n) area w
  said_first o area fetch n w e told =
      let none : 0 ≡ length plan.exchanges - n = omega arith in
      subst (λ (cs : List Command). Said cs area w)
      (ap (λ (i : ℕ). so_far o (take 0 (reverse plan.acts)) (take i (reverse (map (reflected (length plan.acts) fetch) plan.exchanges)))) none) told

  -- after the end
  pub said_last : (o area : List ℕ) (fetch : ℕ) (w : Writer) → fetch ≡ sheet.rack.fetch → o ≡ staying e (length sheet.rack.homes) → Said (mirror_to o fetch plan (length plan.acts) 0 ++ Ends ∷ []) area w → Wrote (image sheet bytes) area w
  unfolding plan_bytes
  said_last o area fetch w is opens told =
      let F : ℕ = sheet.rack.fetch in
      let xs : List Exchange = reverse (map (reflected (length plan.acts) F) plan.exchanges) in
      let acts : take (length plan.acts) (reverse plan.acts) ≡ reverse plan.acts = take_all (length plan.acts) (reverse plan.acts) (omega (arith, length-reverse plan.acts)) in
      let trades : take (length plan.exchanges - 0) xs ≡ xs = take_all (length plan.exchanges - 0) xs (omega (arith, length_reflected (length plan.acts) F plan.exchanges)) in
      let all : mirror_to o fetch plan (length plan.acts) 0 ≡ so_far (closing (length sheet.rack.homes) F plan) (reverse plan.acts) xs =
      ap (λ (g : ℕ). mirror_to o g plan (length plan.acts) 0) is
      ∙ ap (λ (os : List ℕ). mirror_to os F plan (length plan.acts) 0) (opens ∙ h.closes)
      ∙ ap (λ (made : List Act). so_far (closing (length sheet.rack.homes) F plan) made (take (length plan.exchanges - 0) xs)) acts
      ∙ ap (λ (ys : List Exchange). so_far (closing (length sheet.rack.homes) F plan) (reverse plan.acts) ys) trades in
      subst (λ (cs : List Command). Said cs area w)
      (ap (λ (cs : List Command). cs ++ Ends ∷ []) all ∙ sym (mirror_ends side sheet.rack.homes sheet.rack.frames F sheet.requests plan f h.written.keeps)) told
