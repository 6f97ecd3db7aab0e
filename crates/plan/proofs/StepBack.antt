-- One step of a plan read backwards. Assumes nothing.
use Rattle.std.proofs.Common.{◌≡◌, ℕ, ◌+◌, ◌-◌, ◌*◌, ◌<◌, ◌≤◌, ◌⊎◌, List, [], ◌∷◌, ◌++◌, length, get_or, sym, ap, ◌∙◌, subst, inl, inr, arith}
use Rattle.std.proofs.lemmas.List.{get_or-take}
use Rattle.std.proofs.lemmas.Bool.{cases_lt, cases_eq}
use Rattle.model.specs.Timetable.{none, Act, Wait, Plan}
use Rattle.model.specs.Layout.{letter, letter_at, started_by}
use Rattle.model.specs.PlanBytes.{act_command}
use Rattle.model.specs.declared.Command.{Command}
use Rattle.model.specs.declared.Exchange.{Exchange}
use Rattle.model.proofs.MirrorWriting.{act_more, started_by_lem}
use Rattle.model.proofs.Letters.{step_letter}
use Rattle.plan.specs.Rewinds.{Front, Rewound, StartedBy, last_of, mirror_to}
use Rattle.plan.specs.Writers.{Said}
use Rattle.plan.specs.declared.rewind.Rewind.{Rewind}
use Rattle.plan.specs.declared.writer.Writer.{Writer}
use Rattle.plan.proofs.Rewound.{front_last, front_of_front}

-- an item of a list that another begins with
front_at : (xs ys : List Exchange) (k : ℕ) → Front xs ys → k < length xs → (get_or xs k none).start ≡ (get_or ys k none).start
front_at xs ys k f l = ap (λ (x : Exchange). x.start) (ap (λ (zs : List Exchange). get_or zs k none) f.same ∙ get_or-take (length xs) ys k none l)

module _ (plan : Plan) (t boundary : ℕ) (r : Rewind) (h : Rewound plan t r) (at : t + boundary ≡ length plan.acts) (some : 0 < boundary)
    (left started : List Exchange) (f : Front left r.left.now) (last : 0 < length left → (last_of left).start + r.fetch ≡ boundary → ⊥)
    (lands : (k : ℕ) → length left ≤ k → k < length r.left.now → (get_or r.left.now k none).start + r.fetch ≡ boundary)
    (s : StartedBy (boundary - 1) r.started.now started) where
  front : Front left plan.exchanges
  front = front_of_front left r.left.now plan.exchanges f h.left

  front' : Front started plan.exchanges
  front' = front_of_front started r.started.now plan.exchanges s.front h.started

  -- none of a front starts after its last
  up_to : (xs : List Exchange) (j : ℕ) → Front xs plan.exchanges → j < length xs → (get_or plan.exchanges j none).start ≤ (last_of xs).start
  up_to xs j g l = go (cases_lt j (length xs - 1))
    where
      same : (last_of xs).start ≡ (get_or plan.exchanges (length xs - 1) none).start
      same = ap (λ (x : Exchange). x.start) (front_last xs plan.exchanges g (omega (arith, l)))

      go : (j < length xs - 1) ⊎ (length xs - 1 ≤ j) → (get_or plan.exchanges j none).start ≤ (last_of xs).start
      go (inl i) = omega (arith, same, h.in_order j (length xs - 1) i (omega (arith, g.long)))
      go (inr i) = let n : length xs - 1 ≡ j = omega (arith, l, i) in omega (arith, same, ap (λ (k : ℕ). (get_or plan.exchanges k none).start) n)

  earlier : (j : ℕ) → j < length left → (t + 1) + ((get_or plan.exchanges j none).start + r.fetch) ≤ length plan.acts
  earlier j l =
      let m : length left - 1 < length r.left.now = omega (arith, f.long, l) in
      let same = ap (λ (x : Exchange). x.start) (front_last left plan.exchanges front (omega (arith, l))) in
      let b = h.lands (length left - 1) m in
      let ne = last (omega (arith, l)) in
      let le = up_to left j front l in
      go (cases_eq ((last_of left).start + r.fetch) boundary)
    where
      go : ((last_of left).start + r.fetch ≡ boundary) ⊎ ((last_of left).start + r.fetch ≡ boundary → ⊥) → (t + 1) + ((get_or plan.exchanges j none).start + r.fetch) ≤ length plan.acts
      go (inl e) = absurd (last (omega (arith, l)) e)
      go (inr e) =
          let m : length left - 1 < length r.left.now = omega (arith, f.long, l) in
          let same = ap (λ (x : Exchange). x.start) (front_last left plan.exchanges front (omega (arith, l))) in
          omega (arith, h.lands (length left - 1) m, up_to left j front l, same, e, at)

  reached : (j : ℕ) → length left ≤ j → j < length plan.exchanges → length plan.acts ≤ t + ((get_or plan.exchanges j none).start + r.fetch)
  reached j l m = go (cases_lt j (length r.left.now))
    where
      go : (j < length r.left.now) ⊎ (length r.left.now ≤ j) → length plan.acts ≤ t + ((get_or plan.exchanges j none).start + r.fetch)
      go (inl i) = omega (arith, lands j l i, front_at r.left.now plan.exchanges j h.left i, at)
      go (inr i) = omega (arith, h.landed j i m)

  later : (j : ℕ) → length started ≤ j → j < length plan.exchanges → boundary ≤ (get_or plan.exchanges j none).start
  later j l m = go (cases_lt j (length r.started.now))
    where
      go : (j < length r.started.now) ⊎ (length r.started.now ≤ j) → boundary ≤ (get_or plan.exchanges j none).start
      go (inl i) = omega (arith, s.later j l i, front_at r.started.now plan.exchanges j h.started i, some)
      go (inr i) = omega (arith, h.later j i m, at)

  pub rewound_on : (q : Rewind) → q.plan.now ≡ r.plan.now → q.frames ≡ r.frames → q.fetch ≡ r.fetch → q.left.now ≡ left → q.started.now ≡ started → Rewound plan (t + 1) q
  rewound_on q bytes frames fetch is is' =
      record {
        bytes = bytes ∙ h.bytes;
        fills = h.fills ∙ sym frames;
        lasts = omega (arith, h.lasts, fetch);
        in_order = h.in_order;
        left = subst (λ (xs : List Exchange). Front xs plan.exchanges) (sym is) front;
        lands = λ j l. omega (arith, earlier j (omega (arith, l, ap length is)), fetch);
        landed = λ j l m. omega (arith, reached j (omega (arith, l, ap length is)) m, fetch);
        started = subst (λ (xs : List Exchange). Front xs plan.exchanges) (sym is') front';
        later = λ j l m. omega (arith, later j (omega (arith, l, ap length is')) m, at);
      }

  -- the letter of the step before the boundary
  letter_there : (n : ℕ) → n ≡ get_or r.plan.now (3 * r.frames + (boundary - 1) + 5 * length started) 0 → n ≡ letter (get_or plan.acts (boundary - 1) Wait)
  letter_there n e =
      let u : ℕ = boundary - 1 in
      let begun : started_by plan.exchanges u ≡ length started =
      started_by_lem plan.exchanges u (length started) front'.long
      (λ k l. omega (arith, up_to started k front' l, s.earlier (omega (arith, l))))
      (λ k l m. omega (arith, later k l m, some)) in
      let place : 3 * r.frames + u + 5 * length started ≡ letter_at plan u = omega (arith, h.fills, begun) in
      e ∙ ap (λ (i : ℕ). get_or r.plan.now i 0) place ∙ ap (λ (bs : List ℕ). get_or bs (letter_at plan u) 0) h.bytes ∙ step_letter plan u (omega (arith, at, some))

  pub step_on : (o area : List ℕ) (n : ℕ) (c : Command) (w : Writer) → n ≡ get_or r.plan.now (3 * r.frames + (boundary - 1) + 5 * length started) 0 → ((act : Act) → n ≡ letter act → c ≡ act_command act) →
      Said (mirror_to o r.fetch plan t (length left) ++ c ∷ []) area w → Said (mirror_to o r.fetch plan (t + 1) (length left)) area w
  step_on o area n c w e is told =
      let u : ℕ = boundary - 1 in
      let act = is (get_or plan.acts u Wait) (letter_there n e) in
      let more = act_more r.fetch plan o (length plan.exchanges - length left) t u (omega (arith, at, some)) (omega arith) (λ j l m. reached j (omega (arith, m, front.long)) l) in
      subst (λ (cs : List Command). Said cs area w) (ap (λ (d : Command). mirror_to o r.fetch plan t (length left) ++ d ∷ []) act ∙ sym more) told

-- at the last boundary of the mirror no exchange is left
pub none_left : (plan : Plan) (t : ℕ) (r : Rewind) → Rewound plan t r → length plan.acts ≤ t → length r.left.now ≡ 0
none_left plan t r h l = go (cases_lt 0 (length r.left.now))
  where
    go : (0 < length r.left.now) ⊎ (length r.left.now ≤ 0) → length r.left.now ≡ 0
    go (inl i) = absurd (omega (arith, h.lands 0 i, h.lasts, l))
    go (inr i) = omega arith
