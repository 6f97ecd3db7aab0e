-- How the state of a verdict tells the plan read so far: its opening content, its acts and its exchanges.
use Rattle.std.proofs.Common.{◌≡◌, ℕ, ◌+◌, ◌<◌, ◌≤◌, true, ◌⊎◌, List, [], ◌∷◌, ◌++◌, length, get_or, set, replicate, sym, refl, ap, ◌∙◌, subst, inl, inr, arith}
use Rattle.std.proofs.lemmas.List.{get_or_append_left, get_or_push, length_push, get_or-set_same, get_or-set_other, length-set, length-replicate, length-append, get_or-replicate, get_or_past}
use Rattle.std.proofs.lemmas.Bool.{false≢true, cases_eq, leb-true}
use Rattle.model.specs.Timetable.{Exchange, none, count, home, Lawful, Side, occupies, Forward, Backward, Act, Serve, Wait, served, waited}
use Rattle.model.specs.PlanBytes.{Opens, Trades, Serves, Waits, Ends}
use Rattle.model.specs.Verdict.{Mark, Here, Away, is_here_at, is_away_at, State, Phase, Filling, Standing, Starting, Over, begin, blank_marks, blank_idle, after, most_blocks, most_disks}
use Rattle.model.specs.Statements.{Fit}
use Rattle.model.proofs.Counting.{home_push_same, home_push_other, served_append, waited_append}
use Rattle.model.proofs.Marks.{Started, MarkIs, HereFrom, AwayFrom, mark_step, mark_other, mark_in, mark_out, away_absent, absent_away, here_resident, resident_here, still_resident, early_none, in_of, out_of, early_before}

-- what the phase says of acts and exchanges
abbrev pub PhaseIs : Phase → List Act → List Exchange → Type 0
PhaseIs Filling a xs = (a ≡ []) × (xs ≡ [])
PhaseIs Standing a xs = ((j : ℕ) → j < length xs → (get_or xs j none).start < length a) × (0 < length a)
PhaseIs Starting a xs = ((j : ℕ) → j < length xs → (get_or xs j none).start < length a) → ⊥
PhaseIs Over a xs = Unit {0}

-- The state of the verdict after an opening o, acts a and exchanges xs.
pub record Tells (side : Side) (homes : List ℕ) (fetch : ℕ) (o : List ℕ) (a : List Act) (xs : List Exchange) (s : State) : Type 0 where
  pub opened : s.opened ≡ length o
  pub over_floor : (i : ℕ) → i < length o → get_or o i 0 < s.floor
  pub floor_low : (b : ℕ) → ((i : ℕ) → i < length o → get_or o i 0 < b) → s.floor ≤ b
  pub position : s.position ≡ served a
  pub boundary : s.boundary ≡ length a
  pub waits : s.waits ≡ waited a
  pub records : s.records ≡ xs
  pub started : Started xs s.boundary
  pub landing_over : (j : ℕ) → j < length xs → (get_or xs j none).start + fetch ≤ s.landing
  pub landing_low : (t : ℕ) → ((j : ℕ) → j < length xs → (get_or xs j none).start + fetch ≤ t) → s.landing ≤ t
  pub marks : (b : ℕ) → MarkIs fetch o xs s.boundary b (get_or s.marks b (Away 0))
  pub size_marks : length s.marks ≡ most_blocks
  pub idle_over : (j : ℕ) → j < length xs → (get_or xs j none).start + fetch ≤ get_or s.idle (occupies side homes (get_or xs j none)) 0
  pub idle_low : (d t : ℕ) → ((j : ℕ) → j < length xs → occupies side homes (get_or xs j none) ≡ d → (get_or xs j none).start + fetch ≤ t) → get_or s.idle d 0 ≤ t
  pub size_idle : length s.idle ≡ most_disks
  pub phase : PhaseIs s.phase a xs

-- a blank list gives its one value everywhere
pub get_or_blank : {A : Type 0} (n b : ℕ) (x : A) → get_or (replicate n x) b x ≡ x
get_or_blank n b x = grind (arith, get_or-replicate n b x x, get_or_past (replicate n x) b x, length-replicate n x)

mark_none : (fetch b : ℕ) (m : Mark) → m ≡ Away 0 → MarkIs fetch [] [] 0 b m
unfolding count home
mark_none fetch b m e = subst (λ (k : Mark). MarkIs fetch [] [] 0 b k) (sym e)
    (record { out = refl; came = refl; gone = λ i. refl; going = λ i. absurd (omega arith); soon = omega arith; down = λ u i. refl })

pub tells_begin : (side : Side) (homes : List ℕ) (fetch : ℕ) → Tells side homes fetch [] [] [] begin
unfolding served waited blank_marks blank_idle
tells_begin side homes fetch =
    record {
      opened = refl;
      over_floor = λ i l. absurd (omega arith);
      floor_low = λ b h. omega arith;
      position = refl;
      boundary = refl;
      waits = refl;
      records = refl;
      started = λ j l. absurd (omega arith);
      landing_over = λ j l. absurd (omega arith);
      landing_low = λ t h. omega arith;
      marks = λ b. mark_none fetch b (get_or (replicate most_blocks (Away 0)) b (Away 0)) (get_or_blank most_blocks b (Away 0));
      size_marks = length-replicate most_blocks (Away 0);
      idle_over = λ j l. absurd (omega arith);
      idle_low = λ d t h. subst (λ (n : ℕ). n ≤ t) (sym (get_or_blank most_disks d 0)) (omega arith);
      size_idle = length-replicate {A = ℕ} most_disks 0;
      phase = (refl, refl);
    }

-- what holds of each of a list, and of one more
pub each_push : {X : Type 0} (xs : List X) (x d : X) (P : ℕ → X → Type 0) → ((i : ℕ) → i < length xs → P i (get_or xs i d)) → P (length xs) x →
    (i : ℕ) → i < length (xs ++ (x ∷ [])) → P i (get_or (xs ++ (x ∷ [])) i d)
each_push {X} xs x d P h k i l = go (cases_eq i (length xs))
  where
    go : (i ≡ length xs) ⊎ (i ≡ length xs → ⊥) → P i (get_or (xs ++ (x ∷ [])) i d)
    go (inl e) = subst (λ (n : ℕ). P n (get_or (xs ++ (x ∷ [])) n d)) (sym e) (subst (λ (y : X). P (length xs) y) (sym (get_or_push xs x d (length xs) refl)) k)
    go (inr e) = let b : i < length xs = omega (arith, length_push xs x) in subst (λ (y : X). P i y) (sym (get_or_append_left xs (x ∷ []) d i b)) (h i b)

pub each_front : {X : Type 0} (xs ys : List X) (d : X) (P : ℕ → X → Type 0) → ((i : ℕ) → i < length (xs ++ ys) → P i (get_or (xs ++ ys) i d)) →
    (i : ℕ) → i < length xs → P i (get_or xs i d)
each_front {X} xs ys d P h i l = subst (λ (y : X). P i y) (get_or_append_left xs ys d i l) (h i (omega (arith, length-append xs ys)))

pub each_last : {X : Type 0} (xs : List X) (x d : X) (P : ℕ → X → Type 0) → ((i : ℕ) → i < length (xs ++ (x ∷ [])) → P i (get_or (xs ++ (x ∷ [])) i d)) →
    P (length xs) x
each_last {X} xs x d P h = subst (λ (y : X). P (length xs) y) (get_or_push xs x d (length xs) refl) (h (length xs) (omega (arith, length_push xs x)))

-- a mark depends on the opening only through its own block
mark_home : (fetch : ℕ) (o p : List ℕ) (xs : List Exchange) (t b : ℕ) (m : Mark) → home p b ≡ home o b → MarkIs fetch o xs t b m → MarkIs fetch p xs t b m
mark_home fetch o p xs t b (Here l) e h =
    record { one = omega (arith, h.one); stays = h.stays; lands = h.lands; flies = λ u i j. omega (arith, h.flies u i j) }
mark_home fetch o p xs t b (Away g) e h =
    record { out = omega (arith, h.out); came = h.came; gone = h.gone; going = h.going; soon = h.soon; down = h.down }

mark_opens : (fetch : ℕ) (o : List ℕ) (t b : ℕ) → MarkIs fetch (o ++ (b ∷ [])) [] t b (Here 0)
unfolding count
mark_opens fetch o t b =
    record { one = omega (arith, home_push_same o b); stays = refl; lands = λ u i j. refl; flies = λ u i j. absurd (omega arith) }

-- an exchange of known blocks occupies one of the disks
pub on_disks : (side : Side) (homes : List ℕ) (fetch : ℕ) → Fit homes fetch → (x : Exchange) → x.brings < length homes → x.sends < length homes → occupies side homes x < most_disks
on_disks Forward homes fetch fit x i j = fit.on_disks x.brings i
on_disks Backward homes fetch fit x i j = fit.on_disks x.sends j

module _ (side : Side) (homes : List ℕ) (frames fetch : ℕ) (requests : List ℕ) (room : ℕ) (fit : Fit homes fetch) where
  pub tells_opens : (o : List ℕ) (s : State) (b : ℕ) → Tells side homes fetch o [] [] s → s.floor ≤ b → b < length homes →
      Tells side homes fetch (o ++ (b ∷ [])) [] [] (after side homes frames fetch requests room s (Opens b))
  unfolding after
  tells_opens o s b h low known =
      record {
        opened = omega (arith, h.opened, length_push o b);
        over_floor = each_push o b 0 (λ _ n. n < b + 1) (λ i l. omega (arith, h.over_floor i l)) (omega arith);
        floor_low = λ c k. omega (arith, each_last o b 0 (λ _ n. n < c) k);
        position = h.position;
        boundary = h.boundary;
        waits = h.waits;
        records = h.records;
        started = h.started;
        landing_over = h.landing_over;
        landing_low = h.landing_low;
        marks = λ c. mark c (cases_eq c b);
        size_marks = length-set s.marks b (Here 0) ∙ h.size_marks;
        idle_over = h.idle_over;
        idle_low = h.idle_low;
        size_idle = h.size_idle;
        phase = (refl, refl);
      }
    where
      mark : (c : ℕ) → (c ≡ b) ⊎ (c ≡ b → ⊥) → MarkIs fetch (o ++ (b ∷ [])) [] s.boundary c (get_or (set s.marks b (Here 0)) c (Away 0))
      mark c (inl e) = subst (λ (n : ℕ). MarkIs fetch (o ++ (b ∷ [])) [] s.boundary n (get_or (set s.marks b (Here 0)) n (Away 0))) (sym e)
          (subst (λ (m : Mark). MarkIs fetch (o ++ (b ∷ [])) [] s.boundary b m) (sym (get_or-set_same s.marks b (Here 0) (Away 0) (omega (arith, h.size_marks, fit.few)))) (mark_opens fetch o s.boundary b))
      mark c (inr e) = subst (λ (m : Mark). MarkIs fetch (o ++ (b ∷ [])) [] s.boundary c m) (sym (get_or-set_other s.marks b c (Here 0) (Away 0) e))
          (mark_home fetch o (o ++ (b ∷ [])) [] s.boundary c (get_or s.marks c (Away 0)) (home_push_other o b c e) (h.marks c))

  -- an exchange that passes its tests
  module _ (o : List ℕ) (a : List Act) (xs : List Exchange) (s : State) (p q : ℕ) (h : Tells side homes fetch o a xs s) where
    abbrev fresh : Exchange
    fresh = record { brings = p; sends = q; start = s.boundary }

    mark_in_by : (m : Mark) → (q ≡ p → ⊥) → MarkIs fetch o xs s.boundary p m → is_away_at m s.boundary ≡ true → HereFrom fetch o (xs ++ (fresh ∷ [])) s.boundary p (s.boundary + fetch)
    mark_in_by (Here l) ne k e = absurd (false≢true e)
    mark_in_by (Away g) ne k e = mark_in fetch fit.lasts o xs fresh g ne (leb-true g s.boundary e) k

    mark_out_by : (m : Mark) → (p ≡ q → ⊥) → MarkIs fetch o xs s.boundary q m → is_here_at m s.boundary ≡ true → AwayFrom fetch o (xs ++ (fresh ∷ [])) s.boundary q (s.boundary + 1)
    mark_out_by (Away g) ne k e = absurd (false≢true e)
    mark_out_by (Here l) ne k e = mark_out fetch fit.lasts o xs fresh l ne (leb-true l s.boundary e) k

    pub lawful_from : p < length homes → q < length homes → is_away_at (get_or s.marks p (Away 0)) s.boundary ≡ true → is_here_at (get_or s.marks q (Away 0)) s.boundary ≡ true →
        get_or s.idle (occupies side homes fresh) 0 ≤ s.boundary → Lawful side homes fetch o xs fresh
    lawful_from kp kq e f free =
        let c = away_absent fetch o xs s.boundary p (get_or s.marks p (Away 0)) (h.marks p) e in
        let g = here_resident fetch o xs s.boundary q (get_or s.marks q (Away 0)) h.started (h.marks q) f in
        record {
          knows_in = kp;
          knows_out = kq;
          comes = c.0;
          alone = early_none in_of xs p s.boundary c.1;
          goes = record { resident = g.0; kept = early_none out_of xs q s.boundary g.1 };
          disk_free = λ j l i. omega (arith, h.idle_over j l, ap (λ (d : ℕ). get_or s.idle d 0) i);
        }

    pub lawful_tests : Lawful side homes fetch o xs fresh →
        (is_away_at (get_or s.marks p (Away 0)) s.boundary ≡ true) × (is_here_at (get_or s.marks q (Away 0)) s.boundary ≡ true) × (get_or s.idle (occupies side homes fresh) 0 ≤ s.boundary)
    lawful_tests k = (
      absent_away fetch o xs s.boundary p (get_or s.marks p (Away 0)) (h.marks p) k.comes (early_before in_of xs p s.boundary h.started k.alone),
      resident_here fetch fit.lasts o xs s.boundary q (get_or s.marks q (Away 0)) h.started (h.marks q)
          (still_resident fetch o xs s.boundary q h.started k.goes.resident (early_before out_of xs q s.boundary h.started k.goes.kept)),
      h.idle_low (occupies side homes fresh) s.boundary k.disk_free,
    )

    pub tells_trades : p < length homes → q < length homes → is_away_at (get_or s.marks p (Away 0)) s.boundary ≡ true → is_here_at (get_or s.marks q (Away 0)) s.boundary ≡ true →
        Tells side homes fetch o a (xs ++ (fresh ∷ [])) (after side homes frames fetch requests room s (Trades p q))
    unfolding after
    tells_trades kp kq e f =
        record {
          opened = h.opened;
          over_floor = h.over_floor;
          floor_low = h.floor_low;
          position = h.position;
          boundary = h.boundary;
          waits = h.waits;
          records = ap (λ (ys : List Exchange). ys ++ (fresh ∷ [])) h.records;
          started = each_push xs fresh none (λ _ y. y.start ≤ s.boundary) h.started (omega arith);
          landing_over = each_push xs fresh none (λ _ y. y.start + fetch ≤ s.boundary + fetch) (λ j l. omega (arith, h.started j l)) (omega arith);
          landing_low = λ t k. each_last xs fresh none (λ _ y. y.start + fetch ≤ t) k;
          marks = λ c. mark c (cases_eq c p) (cases_eq c q);
          size_marks = length-set (set s.marks q (Away (s.boundary + 1))) p (Here (s.boundary + fetch)) ∙ (length-set s.marks q (Away (s.boundary + 1)) ∙ h.size_marks);
          idle_over = each_push xs fresh none (λ _ y. y.start + fetch ≤ get_or idles (occupies side homes y) 0) over (omega (arith, idle_same));
          idle_low = low;
          size_idle = length-set s.idle disk (s.boundary + fetch) ∙ h.size_idle;
          phase = λ k. omega (arith, h.boundary, each_last xs fresh none (λ _ y. y.start < length a) k);
        }
      where
        ne : p ≡ q → ⊥
        ne i = grind arith

        news : List Mark
        news = set (set s.marks q (Away (s.boundary + 1))) p (Here (s.boundary + fetch))

        disk : ℕ
        disk = occupies side homes fresh

        idles : List ℕ
        idles = set s.idle disk (s.boundary + fetch)

        in_marks : p < length (set s.marks q (Away (s.boundary + 1)))
        in_marks = omega (arith, length-set s.marks q (Away (s.boundary + 1)), h.size_marks, fit.few)

        mark : (c : ℕ) → (c ≡ p) ⊎ (c ≡ p → ⊥) → (c ≡ q) ⊎ (c ≡ q → ⊥) → MarkIs fetch o (xs ++ (fresh ∷ [])) s.boundary c (get_or news c (Away 0))
        mark c (inl i) v = subst (λ (n : ℕ). MarkIs fetch o (xs ++ (fresh ∷ [])) s.boundary n (get_or news n (Away 0))) (sym i)
            (subst (λ (m : Mark). MarkIs fetch o (xs ++ (fresh ∷ [])) s.boundary p m) (sym (get_or-set_same (set s.marks q (Away (s.boundary + 1))) p (Here (s.boundary + fetch)) (Away 0) in_marks))
            (mark_in_by (get_or s.marks p (Away 0)) (λ u. ne (sym u)) (h.marks p) e))
        mark c (inr i) (inl v) = subst (λ (n : ℕ). MarkIs fetch o (xs ++ (fresh ∷ [])) s.boundary n (get_or news n (Away 0))) (sym v)
            (subst (λ (m : Mark). MarkIs fetch o (xs ++ (fresh ∷ [])) s.boundary q m)
            (sym (get_or-set_other (set s.marks q (Away (s.boundary + 1))) p q (Here (s.boundary + fetch)) (Away 0) (λ u. ne (sym u)) ∙ get_or-set_same s.marks q (Away (s.boundary + 1)) (Away 0) (omega (arith, h.size_marks, fit.few))))
            (mark_out_by (get_or s.marks q (Away 0)) ne (h.marks q) f))
        mark c (inr i) (inr v) =
            subst (λ (m : Mark). MarkIs fetch o (xs ++ (fresh ∷ [])) s.boundary c m)
            (sym (get_or-set_other (set s.marks q (Away (s.boundary + 1))) p c (Here (s.boundary + fetch)) (Away 0) i ∙ get_or-set_other s.marks q c (Away (s.boundary + 1)) (Away 0) v))
            (mark_other fetch fit.lasts o xs fresh c (get_or s.marks c (Away 0)) (λ u. i (sym u)) (λ u. v (sym u)) (h.marks c))

        idle_same : get_or idles disk 0 ≡ s.boundary + fetch
        idle_same = get_or-set_same s.idle disk (s.boundary + fetch) 0 (omega (arith, h.size_idle, on_disks side homes fetch fit fresh kp kq))

        over : (j : ℕ) → j < length xs → (get_or xs j none).start + fetch ≤ get_or idles (occupies side homes (get_or xs j none)) 0
        over j l =
            let a = h.started j l in let b = h.idle_over j l in
            let c = get_or-set_other s.idle disk (occupies side homes (get_or xs j none)) (s.boundary + fetch) 0 in
            grind (arith, idle_same, cases_eq (occupies side homes (get_or xs j none)) disk)

        low : (d t : ℕ) → ((j : ℕ) → j < length (xs ++ (fresh ∷ [])) → occupies side homes (get_or (xs ++ (fresh ∷ [])) j none) ≡ d → (get_or (xs ++ (fresh ∷ [])) j none).start + fetch ≤ t) →
            get_or idles d 0 ≤ t
        low d t k =
            let a = each_last xs fresh none (λ _ y. occupies side homes y ≡ d → y.start + fetch ≤ t) k in
            let b = h.idle_low d t (each_front xs (fresh ∷ []) none (λ _ y. occupies side homes y ≡ d → y.start + fetch ≤ t) k) in
            let c = get_or-set_other s.idle disk d (s.boundary + fetch) 0 in
            grind (arith, idle_same, cases_eq d disk)

  -- a step: what tells an act is the counts that it leaves
  tells_step : (o : List ℕ) (a : List Act) (xs : List Exchange) (s : State) (act : Act) (p w : ℕ) → p ≡ served (a ++ (act ∷ [])) → w ≡ waited (a ++ (act ∷ [])) → Tells side homes fetch o a xs s →
      Tells side homes fetch o (a ++ (act ∷ [])) xs (record { phase = Standing; opened = s.opened; floor = s.floor; position = p; boundary = s.boundary + 1; waits = w; landing = s.landing; marks = s.marks; idle = s.idle; records = s.records })
  tells_step o a xs s act p w e f h =
      record {
        opened = h.opened;
        over_floor = h.over_floor;
        floor_low = h.floor_low;
        position = e;
        boundary = omega (arith, h.boundary, length_push a act);
        waits = f;
        records = h.records;
        started = λ j l. omega (arith, h.started j l);
        landing_over = h.landing_over;
        landing_low = h.landing_low;
        marks = λ b. mark_step fetch o xs s.boundary b (get_or s.marks b (Away 0)) h.started (h.marks b);
        size_marks = h.size_marks;
        idle_over = h.idle_over;
        idle_low = h.idle_low;
        size_idle = h.size_idle;
        phase = (λ j l. omega (arith, h.started j l, h.boundary, length_push a act), omega (arith, length_push a act));
      }

  pub tells_serves : (o : List ℕ) (a : List Act) (xs : List Exchange) (s : State) → Tells side homes fetch o a xs s →
      Tells side homes fetch o (a ++ (Serve ∷ [])) xs (after side homes frames fetch requests room s Serves)
  unfolding after served waited
  tells_serves o a xs s h = tells_step o a xs s Serve (s.position + 1) s.waits (omega (arith, h.position, served_append a (Serve ∷ []))) (omega (arith, h.waits, waited_append a (Serve ∷ []))) h

  pub tells_waits : (o : List ℕ) (a : List Act) (xs : List Exchange) (s : State) → Tells side homes fetch o a xs s →
      Tells side homes fetch o (a ++ (Wait ∷ [])) xs (after side homes frames fetch requests room s Waits)
  unfolding after served waited
  tells_waits o a xs s h = tells_step o a xs s Wait s.position (s.waits + 1) (omega (arith, h.position, served_append a (Wait ∷ []))) (omega (arith, h.waits, waited_append a (Wait ∷ []))) h

  pub tells_ends : (o : List ℕ) (a : List Act) (xs : List Exchange) (s : State) → Tells side homes fetch o a xs s →
      Tells side homes fetch o a xs (after side homes frames fetch requests room s Ends)
  unfolding after
  tells_ends o a xs s h =
      record {
        opened = h.opened;
        over_floor = h.over_floor;
        floor_low = h.floor_low;
        position = h.position;
        boundary = h.boundary;
        waits = h.waits;
        records = h.records;
        started = h.started;
        landing_over = h.landing_over;
        landing_low = h.landing_low;
        marks = h.marks;
        size_marks = h.size_marks;
        idle_over = h.idle_over;
        idle_low = h.idle_low;
        size_idle = h.size_idle;
        phase = tt;
      }
