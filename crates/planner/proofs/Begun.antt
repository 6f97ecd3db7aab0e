-- What the pass makes of a rule's answers at a state, told by the board that stands there. Assumes nothing.
use Rattle.std.proofs.Common.{◌≡◌, ℕ, zero, suc, ◌+◌, ◌<◌, Bool, true, false, cond, List, [], ◌∷◌, ◌++◌, length, set, sym, refl, ap, ◌∙◌, subst, add-one, arith}
use Rattle.std.proofs.lemmas.List.{append-nil}
use Rattle.model.specs.declared.Exchange.{Exchange}
use Rattle.model.specs.declared.Mark.TheVariants.{Away, Here}
use Rattle.model.specs.Pass.{screened, takes_need, takes_ahead, asks_need, asks_ahead, asks_disks, asks_all}
use Rattle.model.specs.Rules.{Rule, Wants}
use Rattle.model.specs.Sheet.{Sheet}
use Rattle.model.specs.Timetable.{Side, Act}
use Rattle.model.specs.Verdict.{State, after}
use Rattle.model.specs.View.{Option, None, Some, View, disk_of, is_free, missing, wanted_block}
use Rattle.model.proofs.Seeing.{disk_late}
use Rattle.plan.specs.Headings.{side_of}
use Rattle.sheet.specs.Sheets.{meant}
use Rattle.sheet.specs.declared.view.Sheet.{Sheet as Lent}
use Rattle.plan.specs.declared.side.Heading.{Heading}
use Rattle.sheet.proofs.Known.{known}
use Rattle.planner.specs.Asked.{starts_for, need_for, ahead_for, disks_for, all_for, AllAt}
use Rattle.planner.specs.Boards.{state_of, Stands, Comes}
use Rattle.planner.specs.Courses.{Starts, Asks}
use Rattle.planner.specs.Views.{seen_of}
use Rattle.planner.specs.declared.board.Board.{Board}
use Rattle.planner.specs.declared.course.Course.{Course}

-- a rule sees the same of the state and of the board
pub seen_same : (side : Side) (sheet : Sheet) (b : Board) (s : State) → Stands b s → seen_of side sheet s ≡ seen_of side sheet (state_of b)
seen_same side sheet b s h = rw (h.position, h.boundary, h.marks, h.idle) refl

-- a start
pub record Begins (old new : Board) (fetch disk p q : ℕ) : Type 0 where
  pub position : new.position ≡ old.position
  pub boundary : new.boundary ≡ old.boundary
  pub marks : new.places.marks ≡ set (set old.places.marks q (Away (old.boundary + 1))) p (Here (old.boundary + fetch))
  pub idle : new.places.idle ≡ set old.places.idle disk (old.boundary + fetch)

pub begins : (side : Side) (sheet : Sheet) (old new : Board) (p q : ℕ) → Begins old new sheet.rack.fetch (disk_of (seen_of side sheet (state_of old)) p q) p q → (s : State) → Stands old s →
    Comes new s (starts_for side sheet s p q) (record { brings = p; sends = q; start = old.boundary } ∷ [])
unfolding after
begins side sheet old new p q h s k = record {
  stands = record {
    position = k.position ∙ sym h.position;
    boundary = k.boundary ∙ sym h.boundary;
    marks = rw (k.marks, k.boundary) (sym h.marks);
    idle = rw (k.idle, k.boundary, disk_late side sheet.rack.homes p q old.boundary 0) (sym h.idle);
  };
  starts = rw k.boundary refl;
}

module _ (side : Side) (sheet : Sheet) (rule : Rule) (s : State) (v : View) (e : seen_of side sheet s ≡ v) where
  pub need_not : missing v (wanted_block v) ≡ false → need_for side sheet rule s ≡ s
  unfolding asks_need
  need_not f =
      let g : missing (seen_of side sheet s) (wanted_block (seen_of side sheet s)) ≡ false = subst (λ (x : View). missing x (wanted_block x) ≡ false) (sym e) f in
      ap (λ (t : Bool). cond t (takes_need side sheet.rack.homes sheet.rack.frames sheet.rack.fetch sheet.requests s (rule.need (seen_of side sheet s))) s) g

  need_by : (o : Option ℕ) → missing v (wanted_block v) ≡ true → rule.need v ≡ o → need_for side sheet rule s ≡ takes_need side sheet.rack.homes sheet.rack.frames sheet.rack.fetch sheet.requests s o
  unfolding asks_need
  need_by o f n =
      let g : missing (seen_of side sheet s) (wanted_block (seen_of side sheet s)) ≡ true = subst (λ (x : View). missing x (wanted_block x) ≡ true) (sym e) f in
      let m : rule.need (seen_of side sheet s) ≡ o = ap rule.need e ∙ n in
      ap (λ (t : Bool). cond t (takes_need side sheet.rack.homes sheet.rack.frames sheet.rack.fetch sheet.requests s (rule.need (seen_of side sheet s))) s) g
      ∙ ap (λ (x : Option ℕ). takes_need side sheet.rack.homes sheet.rack.frames sheet.rack.fetch sheet.requests s x) m

  pub need_none : missing v (wanted_block v) ≡ true → rule.need v ≡ None → need_for side sheet rule s ≡ s
  need_none f n = need_by None f n

  pub need_some : (q : ℕ) → missing v (wanted_block v) ≡ true → rule.need v ≡ Some q → need_for side sheet rule s ≡ starts_for side sheet s (wanted_block v) q
  need_some q f n = need_by (Some q) f n ∙ ap (λ (x : View). starts_for side sheet s (wanted_block x) q) e

  abbrev takes : ℕ → Option (ℕ × ℕ) → State
  takes d o = takes_ahead side sheet.rack.homes sheet.rack.frames sheet.rack.fetch sheet.requests s d o

  pub ahead_busy : (d : ℕ) → is_free v d ≡ false → ahead_for side sheet rule d s ≡ s
  unfolding asks_ahead
  ahead_busy d f = ap (λ (t : Bool). cond t (takes d (rule.ahead (seen_of side sheet s) d)) s) (ap (λ (x : View). is_free x d) e ∙ f)

  ahead_by : (d : ℕ) (o : Option (ℕ × ℕ)) → is_free v d ≡ true → rule.ahead v d ≡ o → ahead_for side sheet rule d s ≡ takes d o
  unfolding asks_ahead
  ahead_by d o f n =
      ap (λ (t : Bool). cond t (takes d (rule.ahead (seen_of side sheet s) d)) s) (ap (λ (x : View). is_free x d) e ∙ f)
      ∙ ap (takes d) (ap (λ (x : View). rule.ahead x d) e ∙ n)

  pub ahead_none : (d : ℕ) → is_free v d ≡ true → rule.ahead v d ≡ None → ahead_for side sheet rule d s ≡ s
  ahead_none d f n = ahead_by d None f n

  abbrev pub passes : View → ℕ → ℕ → ℕ → Bool
  passes x d p q = screened side sheet.rack.homes sheet.rack.frames sheet.rack.fetch sheet.requests x d p q

  screens : (d p q : ℕ) (t : Bool) → passes v d p q ≡ t → takes d (Some (p, q)) ≡ cond t (starts_for side sheet s p q) s
  screens d p q t f = ap (λ (x : Bool). cond x (starts_for side sheet s p q) s) (ap (λ (x : View). passes x d p q) e ∙ f)

  pub ahead_not : (d p q : ℕ) → is_free v d ≡ true → rule.ahead v d ≡ Some (p, q) → passes v d p q ≡ false → ahead_for side sheet rule d s ≡ s
  ahead_not d p q f n g = ahead_by d (Some (p, q)) f n ∙ screens d p q false g

  pub ahead_some : (d p q : ℕ) → is_free v d ≡ true → rule.ahead v d ≡ Some (p, q) → passes v d p q ≡ true → ahead_for side sheet rule d s ≡ starts_for side sheet s p q
  ahead_some d p q f n g = ahead_by d (Some (p, q)) f n ∙ screens d p q true g

-- where nothing starts, and where one exchange does
pub starts_none : (c : Course) (step : Side → Sheet → State → State) → ((s : State) → Stands c.board s → step (side_of c.heading) (meant c.sheet) s ≡ s) → Starts c c step []
starts_none c step f = record {
  heading = refl;
  sheet = refl;
  position = refl;
  boundary = refl;
  now = tt;
  comes = λ s h. record { stands = subst (λ (t : State). Stands c.board t) (sym (f s h)) h; starts = ap (λ (t : State). t.records) (f s h) ∙ sym (append-nil s.records) };
}

pub starts_as : (c d : Course) (step other : Side → Sheet → State → State) (xs : List Exchange) → Starts c d other xs →
    ((s : State) → Stands c.board s → step (side_of c.heading) (meant c.sheet) s ≡ other (side_of c.heading) (meant c.sheet) s) → Starts c d step xs
starts_as c d step other xs h f = record {
  heading = h.heading;
  sheet = h.sheet;
  position = h.position;
  boundary = h.boundary;
  now = h.now;
  comes = λ s k. subst (λ (t : State). Comes d.board s t xs) (sym (f s k)) (h.comes s k);
}

module _ (o : Course) (rule : Rule) (v : View) (e : v ≡ seen_of (side_of o.heading) (meant o.sheet) (state_of o.board)) where
  same : (s : State) → Stands o.board s → seen_of (side_of o.heading) (meant o.sheet) s ≡ v
  same s h = seen_same (side_of o.heading) (meant o.sheet) o.board s h ∙ sym e

  pub wants : o.board.position < length (meant o.sheet).requests → missing v (wanted_block v) ≡ true → Wants v
  wants l f = record { asked = rw e l; known = rw e (known o.sheet o.board.position l); away = f }

  abbrev needs : Side → Sheet → State → State
  needs side sheet s = need_for side sheet rule s

  abbrev aheads : ℕ → Side → Sheet → State → State
  aheads d side sheet s = ahead_for side sheet rule d s

  abbrev begun : ℕ → ℕ → Side → Sheet → State → State
  begun p q side sheet s = starts_for side sheet s p q

  pub no_need : missing v (wanted_block v) ≡ false → Starts o o needs []
  no_need f = starts_none o needs (λ s h. need_not (side_of o.heading) (meant o.sheet) rule s v (same s h) f)

  pub need_unmet : missing v (wanted_block v) ≡ true → rule.need v ≡ None → Starts o o needs []
  need_unmet f n = starts_none o needs (λ s h. need_none (side_of o.heading) (meant o.sheet) rule s v (same s h) f n)

  pub need_met : (d : Course) (p q : ℕ) (xs : List Exchange) → p ≡ wanted_block v → missing v (wanted_block v) ≡ true → rule.need v ≡ Some q → Starts o d (begun p q) xs → Starts o d needs xs
  need_met d p q xs i f n h = starts_as o d needs (begun p q) xs h
      (λ s k. need_some (side_of o.heading) (meant o.sheet) rule s v (same s k) q f n ∙ ap (λ (x : ℕ). starts_for (side_of o.heading) (meant o.sheet) s x q) (sym i))

  pub disk_busy : (d : ℕ) → is_free v d ≡ false → Starts o o (aheads d) []
  disk_busy d f = starts_none o (aheads d) (λ s h. ahead_busy (side_of o.heading) (meant o.sheet) rule s v (same s h) d f)

  pub ahead_unmet : (d : ℕ) → is_free v d ≡ true → rule.ahead v d ≡ None → Starts o o (aheads d) []
  ahead_unmet d f n = starts_none o (aheads d) (λ s h. ahead_none (side_of o.heading) (meant o.sheet) rule s v (same s h) d f n)

  -- the pass's screen, by what the rule sees
  abbrev screen : ℕ → ℕ → ℕ → Bool
  screen d p q = screened v.side v.homes v.frames 0 v.requests v d p q

  screen_is : (d p q : ℕ) → screen d p q ≡ passes (side_of o.heading) (meant o.sheet) rule (state_of o.board) v (sym e) v d p q
  screen_is d p q = ap (λ (rs : List ℕ). screened v.side v.homes v.frames 0 rs v d p q) (ap (λ (x : View). x.requests) e)

  pub ahead_refused : (d p q : ℕ) → is_free v d ≡ true → rule.ahead v d ≡ Some (p, q) → screen d p q ≡ false → Starts o o (aheads d) []
  ahead_refused d p q f n g = starts_none o (aheads d) (λ s h. ahead_not (side_of o.heading) (meant o.sheet) rule s v (same s h) d p q f n (sym (screen_is d p q) ∙ g))

  pub ahead_taken : (d : ℕ) (c : Course) (p q : ℕ) (xs : List Exchange) → is_free v d ≡ true → rule.ahead v d ≡ Some (p, q) → screen d p q ≡ true → Starts o c (begun p q) xs → Starts o c (aheads d) xs
  ahead_taken d c p q xs f n g h = starts_as o c (aheads d) (begun p q) xs h (λ s k. ahead_some (side_of o.heading) (meant o.sheet) rule s v (same s k) d p q f n (sym (screen_is d p q) ∙ g))

-- What starts is taken down.
pub asked : (c d : Course) (step : Side → Sheet → State → State) (xs : List Exchange) (held holds : List Exchange → List Act → Type 0) → Starts c d step xs →
    ((ys : List Exchange) (acts : List Act) → held ys acts → AllAt (length acts) xs → holds (ys ++ xs) acts) → Asks c d step held holds
asked c d step xs held holds h f = record {
  heading = h.heading;
  sheet = h.sheet;
  position = h.position;
  boundary = h.boundary;
  stands = λ s k. (h.comes s k).stands;
  taken = λ s acts k e a.
      subst (λ (ys : List Exchange). holds ys acts) (sym (h.comes s k).starts) (f s.records acts a (subst (λ (t : ℕ). AllAt t xs) (sym e) h.now));
}

-- one step of a boundary after another
pub asked_on : (c d e : Course) (step next : Side → Sheet → State → State) (held some holds : List Exchange → List Act → Type 0) → Asks c d step held some → Asks d e next some holds → Asks c e (λ side sheet s. next side sheet (step side sheet s)) held holds
asked_on c d e step next held some holds h k = record {
  heading = k.heading ∙ h.heading;
  sheet = k.sheet ∙ h.sheet;
  position = k.position ∙ h.position;
  boundary = k.boundary ∙ h.boundary;
  stands = λ s m. stands s m;
  taken = λ s acts m f a. taken s acts m f a;
}
  where
    stands : (s : State) → Stands c.board s → Stands e.board (next (side_of c.heading) (meant c.sheet) (step (side_of c.heading) (meant c.sheet) s))
    stands s m =
        subst (λ (x : Heading). Stands e.board (next (side_of x) (meant c.sheet) (step (side_of c.heading) (meant c.sheet) s))) h.heading
        (subst (λ (x : Lent). Stands e.board (next (side_of d.heading) (meant x) (step (side_of c.heading) (meant c.sheet) s))) h.sheet (k.stands (step (side_of c.heading) (meant c.sheet) s) (h.stands s m)))

    taken : (s : State) (acts : List Act) → Stands c.board s → length acts ≡ c.board.boundary → held s.records acts → holds (next (side_of c.heading) (meant c.sheet) (step (side_of c.heading) (meant c.sheet) s)).records acts
    taken s acts m f a =
        subst (λ (x : Heading). holds (next (side_of x) (meant c.sheet) (step (side_of c.heading) (meant c.sheet) s)).records acts) h.heading
        (subst (λ (x : Lent). holds (next (side_of d.heading) (meant x) (step (side_of c.heading) (meant c.sheet) s)).records acts) h.sheet
        (k.taken (step (side_of c.heading) (meant c.sheet) s) acts (h.stands s m) (f ∙ sym h.boundary) (h.taken s acts m f a)))

-- need, and then ahead for each disk below one
module _ (rule : Rule) where
  unfoldable pub upto : ℕ → Side → Sheet → State → State
  upto zero side sheet s = need_for side sheet rule s
  upto (suc d) side sheet s = ahead_for side sheet rule d (upto d side sheet s)

  pub upto_none : (side : Side) (sheet : Sheet) (s : State) → upto 0 side sheet s ≡ need_for side sheet rule s
  unfolding upto
  upto_none side sheet s = refl

  pub upto_more : (d : ℕ) (side : Side) (sheet : Sheet) (s : State) → upto (d + 1) side sheet s ≡ ahead_for side sheet rule d (upto d side sheet s)
  unfolding upto
  upto_more d side sheet s = rw (add-one d) refl

  upto_rest : (side : Side) (sheet : Sheet) (s : State) (n d : ℕ) → disks_for side sheet rule n d (upto d side sheet s) ≡ upto (d + n) side sheet s
  unfolding asks_disks
  upto_rest side sheet s zero d = let e : d ≡ d + 0 = omega arith in ap (λ (x : ℕ). upto x side sheet s) e
  upto_rest side sheet s (suc n) d =
      let e : d + 1 + n ≡ d + suc n = omega arith in
      ap (λ (t : State). disks_for side sheet rule n (d + 1) t) (sym (upto_more d side sheet s)) ∙ (upto_rest side sheet s n (d + 1) ∙ ap (λ (x : ℕ). upto x side sheet s) e)

  pub upto_all : (side : Side) (sheet : Sheet) (s : State) → upto 8 side sheet s ≡ all_for side sheet rule s
  unfolding asks_all
  upto_all side sheet s = sym (upto_rest side sheet s 8 0) ∙ ap (λ (t : State). disks_for side sheet rule 8 0 t) (upto_none side sheet s)

pub asked_as : (c d : Course) (step other : Side → Sheet → State → State) (held holds : List Exchange → List Act → Type 0) → Asks c d step held holds → ((side : Side) (sheet : Sheet) (s : State) → step side sheet s ≡ other side sheet s) → Asks c d other held holds
asked_as c d step other held holds h f = record {
  heading = h.heading;
  sheet = h.sheet;
  position = h.position;
  boundary = h.boundary;
  stands = λ s k. subst (λ (t : State). Stands d.board t) (f (side_of c.heading) (meant c.sheet) s) (h.stands s k);
  taken = λ s acts k e a. subst (λ (t : State). holds t.records acts) (f (side_of c.heading) (meant c.sheet) s) (h.taken s acts k e a);
}
