-- The tests of the verdict are the rules of the subject, so a refusal tells the first rule that is broken.
use Rattle.std.proofs.Common.{◌≡◌, ℕ, ◌+◌, ◌-◌, ◌<◌, ◌≤◌, Bool, true, false, cond, eqb, ◌⊎◌, List, [], ◌∷◌, length, get_or, drop, sym, refl, ap, ◌∙◌, subst, inl, inr, arith, ◌++◌}
use Rattle.std.specs.List.{flat_map}
use Rattle.std.proofs.lemmas.List.{length-append}
use Rattle.std.proofs.lemmas.Bool.{false≢true, eqb-true, eq-eqb, leb-true, le-leb, ltb-true, lt-ltb}
use Rattle.std.proofs.lemmas.Bool.Decides.{nat_tests}
use Rattle.model.specs.Timetable.{Exchange, none, Act, Side, Plan, Absent, MayGoOut, ResidentDuring, served, occupies}
use Rattle.model.specs.PlanBytes.{Command, Opens, Trades, Serves, Waits, Ends, command_bytes, so_far, plan_bytes, plan_limit}
use Rattle.model.specs.Verdict
use Rattle.model.specs.Verdict.{Refused, Outcome, Cause, OutOfPlace, OverLimit, State, Phase, Filling, Standing, Starting, Over, is_over, in_place, Found, Missing, Strange, Known, found, size, Test, Clean, Faulty, first, within_limit, own_tests, tests_of, place_of, verdict, after, Away}
use Rattle.model.specs.Refusals.{Rule, rule, FirstBroken, WithinLimit, InPlace, rules_of, rules_at, RefusedAt, RefusedAfter}
use Rattle.model.specs.Statements.{Fit, refused_with}
use Rattle.model.proofs.Marks.{away_absent, absent_away, here_resident, resident_here, still_resident, early_none, in_of, out_of, early_before}
use Rattle.model.proofs.Progress.{PhaseIs, Tells}
use Rattle.model.proofs.Turns.{step_stops, over_refuses}
use Rattle.model.proofs.Accepts.{StoppedAt, EndedAt, reads_bytes, ended_plan, ended_keeps, ended_read, ended_within, filling, resting}

-- tests and rules side by side, each test passing exactly if its rule holds
abbrev pub Matches : List Test → List Rule → Type 0
Matches [] [] = Unit {0}
Matches [] (r ∷ rs) = ⊥
Matches (t ∷ ts) [] = ⊥
Matches (t ∷ ts) (r ∷ rs) = ((t.passes ≡ true → r.holds) × (r.holds → t.passes ≡ true) × (t.cause ≡ r.cause)) × Matches ts rs

pub first_broken : (ts : List Test) (rs : List Rule) (c : Cause) → Matches ts rs → first ts ≡ Faulty c → FirstBroken rs c
first_broken [] [] c m e = absurd (cc)
first_broken [] (r ∷ rs) c m e = absurd m
first_broken (t ∷ ts) [] c m e = absurd m
first_broken (t ∷ ts) (r ∷ rs) c m e = go (λ k. first_broken ts rs c m.1 k) t.passes refl e
  where
    go : (first ts ≡ Faulty c → FirstBroken rs c) → (b : Bool) → t.passes ≡ b → cond b (first ts) (Faulty t.cause) ≡ Faulty c → ((r.holds → ⊥) × (c ≡ r.cause)) ⊎ (r.holds × FirstBroken rs c)
    go more true i k = inr (m.0.0 i, more k)
    go more false i k = inl ((λ h. false≢true (sym i ∙ m.0.1 h)), cc)

pub broken_first : (ts : List Test) (rs : List Rule) (c : Cause) → Matches ts rs → FirstBroken rs c → first ts ≡ Faulty c
broken_first [] [] c m b = absurd b
broken_first [] (r ∷ rs) c m b = absurd m
broken_first (t ∷ ts) [] c m b = absurd m
broken_first (t ∷ ts) (r ∷ rs) c m b = go (λ k. broken_first ts rs c m.1 k) t.passes refl b
  where
    go : (FirstBroken rs c → first ts ≡ Faulty c) → (v : Bool) → t.passes ≡ v → ((r.holds → ⊥) × (c ≡ r.cause)) ⊎ (r.holds × FirstBroken rs c) → cond v (first ts) (Faulty t.cause) ≡ Faulty c
    go more true i (inl k) = absurd (k.0 (m.0.0 i))
    go more true i (inr k) = more k.1
    go more false i (inl k) = ap Faulty (m.0.2 ∙ sym k.1)
    go more false i (inr k) = absurd (false≢true (sym i ∙ m.0.1 k.0))

-- the limit
pub limit_holds : (total place n : ℕ) → within_limit total place n ≡ true → WithinLimit total place n
limit_holds total place n h l m = grind (arith, nat_tests)

pub limit_passes : (total place n : ℕ) → WithinLimit total place n → within_limit total place n ≡ true
limit_passes total place n h = grind (arith, nat_tests)

-- letters in place
none_of : {A X : Type 0} (xs : List A) (j : ℕ) → xs ≡ [] → j < length xs → X
none_of xs j e l = absurd (omega (arith, ap length e))

place_holds : (ph : Phase) (a : List Act) (xs : List Exchange) → PhaseIs ph a xs → (c : Command) → in_place ph c ≡ true → InPlace a xs c
place_holds ph a xs h (Opens b) e = filling ph b a xs e h
place_holds ph a xs h (Trades p q) e = tt
place_holds ph a xs h Serves e = tt
place_holds ph a xs h Waits e = tt
place_holds ph a xs h Ends e = resting ph a xs e h

pub place_passes : (ph : Phase) (a : List Act) (xs : List Exchange) → is_over ph ≡ false → PhaseIs ph a xs → (c : Command) → InPlace a xs c → in_place ph c ≡ true
place_passes Filling a xs o h c i = refl
place_passes Over a xs o h c i = absurd (false≢true (sym o))
place_passes Standing a xs o h (Opens b) i = none_of a 0 i.0 h.1
place_passes Standing a xs o h (Trades p q) i = refl
place_passes Standing a xs o h Serves i = refl
place_passes Standing a xs o h Waits i = refl
place_passes Standing a xs o h Ends i = refl
place_passes Starting a xs o h (Opens b) i = absurd (h (λ j l. none_of xs j i.1 l))
place_passes Starting a xs o h (Trades p q) i = refl
place_passes Starting a xs o h Serves i = refl
place_passes Starting a xs o h Waits i = refl
place_passes Starting a xs o h Ends i = absurd (h i)

module _ (side : Side) (homes : List ℕ) (frames fetch : ℕ) (requests : List ℕ) (room : ℕ) (fit : Fit homes fetch) (o : List ℕ) (a : List Act) (xs : List Exchange) (s : State) (h : Tells side homes fetch o a xs s) where
  -- what holds at the boundary of the state holds at the boundary reached, and the other way round
  at_boundary : (P : ℕ → Type 0) → P s.boundary → P (length a)
  at_boundary P p = subst P h.boundary p

  at_state : (P : ℕ → Type 0) → P (length a) → P s.boundary
  at_state P p = subst P (sym h.boundary) p

  abbrev Comes : ℕ → ℕ → Type 0
  Comes p t = Absent o xs p t × ((i : ℕ) → i < length xs → (get_or xs i none).start ≡ t → (get_or xs i none).brings ≡ p → ⊥)

  abbrev Frees : ℕ → ℕ → ℕ → Type 0
  Frees p q t = (i : ℕ) → i < length xs → occupies side homes (get_or xs i none) ≡ occupies side homes (record { brings = p; sends = q; start = t }) → (get_or xs i none).start + fetch ≤ t

  matches_of : (c : Command) → Matches (own_tests side homes frames fetch requests room s c) (rules_of side homes frames fetch requests room o a xs c)
  matches_of (Opens b) = (
    ((λ e. omega (arith, h.opened, ltb-true s.opened frames e)), (λ l. lt-ltb s.opened frames (omega (arith, h.opened))), refl),
    (
      ((λ e i l. omega (arith, h.over_floor i l, leb-true s.floor b e)), (λ k. le-leb s.floor b (h.floor_low b k)), refl),
      (((λ e. ltb-true b (length homes) e), (λ l. lt-ltb b (length homes) l), refl), tt),
    ),
  )
  matches_of (Trades p q) = (
    full,
    (
      ((λ e. ltb-true p (length homes) e), (λ l. lt-ltb p (length homes) l), refl),
      (
        (
          (λ e. at_boundary (Comes p) (let c = away_absent fetch o xs s.boundary p (get_or s.marks p (Away 0)) (h.marks p) e in (c.0, early_none in_of xs p s.boundary c.1))),
          (λ k. let v : Comes p s.boundary = at_state (Comes p) k in absent_away fetch o xs s.boundary p (get_or s.marks p (Away 0)) (h.marks p) v.0 (early_before in_of xs p s.boundary h.started v.1)),
          refl,
        ),
        (
          ((λ e. ltb-true q (length homes) e), (λ l. lt-ltb q (length homes) l), refl),
          (
            (
              (λ e. at_boundary (λ t. MayGoOut fetch o xs q t) (let c = here_resident fetch o xs s.boundary q (get_or s.marks q (Away 0)) h.started (h.marks q) e in record { resident = c.0; kept = early_none out_of xs q s.boundary c.1 })),
              (λ k. let v : MayGoOut fetch o xs q s.boundary = at_state (λ t. MayGoOut fetch o xs q t) k in
                  resident_here fetch fit.lasts o xs s.boundary q (get_or s.marks q (Away 0)) h.started (h.marks q) (still_resident fetch o xs s.boundary q h.started v.resident (early_before out_of xs q s.boundary h.started v.kept))),
              refl,
            ),
            (
              (
                (λ e. at_boundary (Frees p q) (λ i l k. omega (arith, h.idle_over i l, ap (λ (d : ℕ). get_or s.idle d 0) k, leb-true (get_or s.idle (occupies side homes (record { brings = p; sends = q; start = s.boundary })) 0) s.boundary e))),
                (λ k. let v : Frees p q s.boundary = at_state (Frees p q) k in
                    le-leb (get_or s.idle (occupies side homes (record { brings = p; sends = q; start = s.boundary })) 0) s.boundary (h.idle_low (occupies side homes (record { brings = p; sends = q; start = s.boundary })) s.boundary v)),
                refl,
              ),
              (((λ e. omega (arith, held, ltb-true (length s.records) room e)), (λ l. lt-ltb (length s.records) room (omega (arith, held))), refl), tt),
            ),
          ),
        ),
      ),
    ),
  )
    where
      full : (eqb s.opened frames ≡ true → length o ≡ frames) × (length o ≡ frames → eqb s.opened frames ≡ true) × (◌≡◌ {A = Cause} Verdict.BadOpening Verdict.BadOpening)
      full = ((λ e. sym h.opened ∙ eqb-true s.opened frames e), (λ e. eq-eqb s.opened frames (h.opened ∙ e)), refl)

      held : length s.records ≡ length xs
      held = ap (λ (ys : List Exchange). length ys) h.records
  matches_of Serves = (
    ((λ e. sym h.opened ∙ eqb-true s.opened frames e), (λ e. eq-eqb s.opened frames (h.opened ∙ e)), refl),
    (
      ((λ e. omega (arith, h.position, ltb-true s.position (length requests) e)), (λ l. lt-ltb s.position (length requests) (omega (arith, h.position))), refl),
      (
        (
          (λ e. at_boundary (λ t. ResidentDuring fetch o xs (get_or requests (served a) 0) t)
              (subst (λ (v : ℕ). ResidentDuring fetch o xs (get_or requests v 0) s.boundary) h.position
              (here_resident fetch o xs s.boundary (get_or requests s.position 0) (get_or s.marks (get_or requests s.position 0) (Away 0)) h.started (h.marks (get_or requests s.position 0)) e).2)),
          (λ k. resident_here fetch fit.lasts o xs s.boundary (get_or requests s.position 0) (get_or s.marks (get_or requests s.position 0) (Away 0)) h.started (h.marks (get_or requests s.position 0))
              (subst (λ (v : ℕ). ResidentDuring fetch o xs (get_or requests v 0) s.boundary) (sym h.position) (at_state (λ t. ResidentDuring fetch o xs (get_or requests (served a) 0) t) k))),
          refl,
        ),
        tt,
      ),
    ),
  )
  matches_of Waits = (((λ e. sym h.opened ∙ eqb-true s.opened frames e), (λ e. eq-eqb s.opened frames (h.opened ∙ e)), refl), tt)
  matches_of Ends = (
    ((λ e. sym h.opened ∙ eqb-true s.opened frames e), (λ e. eq-eqb s.opened frames (h.opened ∙ e)), refl),
    (
      ((λ e. sym h.position ∙ eqb-true s.position (length requests) e), (λ e. eq-eqb s.position (length requests) (h.position ∙ e)), refl),
      (((λ e i l. omega (arith, h.landing_over i l, h.boundary, leb-true s.landing s.boundary e)), (λ k. le-leb s.landing s.boundary (h.landing_low s.boundary (λ i l. omega (arith, k i l, h.boundary)))), refl), tt),
    ),
  )

  pub matches_at : (total place : ℕ) (rest : List ℕ) → is_over s.phase ≡ false → total - length rest ≡ place → (f : Found) →
      Matches (tests_of side homes frames fetch requests room s total rest f) (rules_at side homes frames fetch requests room o a xs total place rest f)
  matches_at total place rest over e Missing = (((λ k. false≢true k), (λ k. absurd k), refl), tt)
  matches_at total place rest over e Strange = (
    ((λ k. limit_holds total place 1 (subst (λ (n : ℕ). within_limit total n 1 ≡ true) e k)), (λ k. subst (λ (n : ℕ). within_limit total n 1 ≡ true) (sym e) (limit_passes total place 1 k)), refl),
    (((λ k. false≢true k), (λ k. absurd k), refl), tt),
  )
  matches_at total place rest over e (Known c) = (
    ((λ k. limit_holds total place (size c) (subst (λ (n : ℕ). within_limit total n (size c) ≡ true) e k)), (λ k. subst (λ (n : ℕ). within_limit total n (size c) ≡ true) (sym e) (limit_passes total place (size c) k)), refl),
    (
      ((λ k. place_holds s.phase a xs h.phase c k), (λ k. place_passes s.phase a xs over h.phase c k), refl),
      (((λ k. leb-true (size c) (length rest) k), (λ l. le-leb (size c) (length rest) l), refl), matches_of c),
    ),
  )

-- past the end
after_broken : (total place : ℕ) (b : Bool) (cause : Cause) → within_limit total place 1 ≡ b → cause ≡ cond b OutOfPlace OverLimit → FirstBroken (rule (WithinLimit total place 1) OverLimit ∷ rule ⊥ OutOfPlace ∷ []) cause
after_broken total place true cause e f = inr (limit_holds total place 1 e, inl ((λ k. k), f))
after_broken total place false cause e f = inl ((λ k. false≢true (sym e ∙ limit_passes total place 1 k)), f)

-- where bytes are joined, the rest's length tells the front's
pub front_length : (bytes pre rest : List ℕ) → bytes ≡ pre ++ rest → length bytes - length rest ≡ length pre
front_length bytes pre rest e = omega (arith, ap (λ (ys : List ℕ). length ys) e, length-append pre rest)

refused_as : (out : Outcome) (cause : Cause) (place : ℕ) (xs : List Exchange) → out.answer ≡ Refused cause place → out.records ≡ xs → out ≡ refused_with cause place xs
refused_as out cause place xs e f = λ i. record { answer = e i; records = f i }

pub refusals_tell : (side : Side) (homes : List ℕ) (frames fetch : ℕ) (requests : List ℕ) (room : ℕ) (bytes : List ℕ) → Fit homes fetch → ((i : ℕ) → i < length bytes → get_or bytes i 0 < 256) →
    (cause : Cause) (place : ℕ) → (verdict side homes frames fetch requests room bytes).answer ≡ Refused cause place →
    ((o : List ℕ) × (a : List Act) × (xs : List Exchange) × (rest : List ℕ) × RefusedAt side homes frames fetch requests room bytes cause place o a xs rest × (verdict side homes frames fetch requests room bytes ≡ refused_with cause place xs))
    ⊎ ((plan : Plan) × (rest : List ℕ) × RefusedAfter side homes frames fetch requests room bytes cause place plan rest × (verdict side homes frames fetch requests room bytes ≡ refused_with cause place plan.exchanges))
unfolding after
refusals_tell side homes frames fetch requests room bytes fit small cause place r = go (reads_bytes side homes frames fetch requests room fit bytes small out refl)
  where
    out : Outcome
    out = verdict side homes frames fetch requests room bytes

    go : StoppedAt side homes frames fetch requests room bytes out ⊎ EndedAt side homes frames fetch requests room bytes out →
        ((o : List ℕ) × (a : List Act) × (xs : List Exchange) × (rest : List ℕ) × RefusedAt side homes frames fetch requests room bytes cause place o a xs rest × (out ≡ refused_with cause place xs))
        ⊎ ((plan : Plan) × (rest : List ℕ) × RefusedAfter side homes frames fetch requests room bytes cause place plan rest × (out ≡ refused_with cause place plan.exchanges))
    go (inl e) =
        let h = e.tells_it in
        let k = e.keeps_it in
        let pre : List ℕ = flat_map command_bytes (so_far e.o e.a e.xs) in
        let front : length bytes - length e.rest ≡ length pre = front_length bytes pre e.rest e.read in
        let same : Refused e.cause e.place ≡ Refused cause place = sym (ap (λ (u : Outcome). u.answer) e.said) ∙ r in
        let same_cause' : e.cause ≡ cause = cc in
        let same_place : e.place ≡ place = cc in
        let f = step_stops side homes frames fetch requests room (length bytes) e.s e.rest e.cause e.place e.not_over e.stop in
        let m = matches_at side homes frames fetch requests room fit e.o e.a e.xs e.s h (length bytes) (length pre) e.rest e.not_over front (found e.rest) in
        inl (
          e.o,
          e.a,
          e.xs,
          e.rest,
          record {
            keeps = record { fits = e.counts_it.fits; filled = e.counts_it.filled; asked = e.counts_it.asked; listed = e.counts_it.listed; exist = k.exist; rise = k.rise; in_order = k.in_order; started = λ i l. omega (arith, h.started i l, h.boundary); lawful = k.lawful; serves = k.serves };
            read = e.read;
            within = λ l. subst (λ (n : ℕ). n ≤ plan_limit) front (e.counts_it.within l);
            broken = first_broken (tests_of side homes frames fetch requests room e.s (length bytes) e.rest (found e.rest)) (rules_at side homes frames fetch requests room e.o e.a e.xs (length bytes) (length pre) e.rest (found e.rest)) cause m (f.0 ∙ ap Faulty same_cause');
            told_at = sym same_place ∙ (f.1 ∙ (ap (λ (c : Cause). place_of c (length bytes) (length bytes - length e.rest)) same_cause' ∙ ap (λ (n : ℕ). place_of cause (length bytes) n) front));
          },
          refused_as out cause place e.xs r (ap (λ (u : Outcome). u.records) e.said ∙ h.records),
        )
    go (inr e) =
        let plan : Plan = ended_plan side homes frames fetch requests room bytes out e in
        let rest : List ℕ = drop 1 e.rest in
        let s' : State = after side homes frames fetch requests room e.s Ends in
        let front : length bytes - length rest ≡ length (plan_bytes plan) = front_length bytes (plan_bytes plan) rest (ended_read side homes frames fetch requests room bytes out e) in
        let v = over_refuses side homes frames fetch requests room (length bytes) e.n s' rest cause place refl e.enough (ap (λ (u : Outcome). u.answer) e.said ∙ r) in
        inr (
          plan,
          rest,
          record {
            keeps = ended_keeps side homes frames fetch requests room bytes out e;
            listed = e.counts_it.listed;
            read = ended_read side homes frames fetch requests room bytes out e;
            within = λ l. subst (λ (n : ℕ). n ≤ plan_limit) front (ended_within side homes frames fetch requests room bytes out e l);
            more = v.0;
            broken = after_broken (length bytes) (length (plan_bytes plan)) (within_limit (length bytes) (length bytes - length rest) 1) cause (ap (λ (n : ℕ). within_limit (length bytes) n 1) (sym front)) v.2;
            told_at = v.1 ∙ front;
          },
          refused_as out cause place plan.exchanges r (sym (ap (λ (u : Outcome). u.records) e.said) ∙ (v.3 ∙ e.tells_it.records)),
        )
