-- The plan of a pass follows its rule.
use Rattle.std.proofs.Common.{◌≡◌, ℕ, zero, suc, ◌+◌, ◌-◌, ◌<◌, ◌≤◌, Bool, true, false, cond, ◌⊎◌, List, [], ◌∷◌, ◌++◌, length, get_or, take, sym, refl, ap, ◌∙◌, subst, inl, inr, arith}
use Rattle.std.proofs.lemmas.List.{append-nil, length_push, get_or_append_left, get_or_push, take-append-le, take_at}
use Rattle.std.proofs.lemmas.Bool.{both_ways, le-ltb, eqb-false, cases_eq}
use Rattle.std.proofs.lemmas.Bool.Decides.{nat_tests}
use Rattle.model.specs.Timetable.{Exchange, none, Act, Serve, Wait, Side, served, wanted, ResidentDuring}
use Rattle.model.specs.Verdict.{State, after, most_disks}
use Rattle.model.specs.Statements.{Fit}
use Rattle.model.specs.View.{Option, None, Some, View, missing, wanted_block}
use Rattle.model.specs.Rules.{Rule, NeedLaw}
use Rattle.model.specs.Pass.{Course, seen, due, takes_need, can_serve, steps, is_over, asks_need, asks_ahead, asks_disks, asks_all, turn, next_by, runs}
use Rattle.model.specs.Follows.{before, view_at, need_starts, ahead_starts, with_disks, with_answers}
use Rattle.model.proofs.Marks.{resident_here}
use Rattle.model.proofs.Seeing.{mark, lawful_takes}
use Rattle.model.proofs.Sound.{later_sound}
use Rattle.model.proofs.Turning.{Within, within_trades, one_disk, all_disks}
use Rattle.model.proofs.Ending.{Runs, turn_goes, ready_fresh}
use Rattle.model.proofs.Agreeing.{view_same}
use Rattle.model.proofs.Gather.{before_all}

-- what starts at boundary t leaves what started before an earlier one
before_append : (u : ℕ) (xs ys : List Exchange) → before u (xs ++ ys) ≡ before u xs ++ before u ys
unfolding before
before_append u [] ys = refl
before_append u (x ∷ xs) ys = let e = before_append u xs ys in grind (arith, nat_tests)

before_late : (u : ℕ) (x : Exchange) → u ≤ x.start → before u (x ∷ []) ≡ []
unfolding before
before_late u x l = rw (le-ltb x.start u l)

module _ (side : Side) (homes : List ℕ) (frames fetch : ℕ) (requests : List ℕ) (o : List ℕ) (rule : Rule) where
  before_need : (u t : ℕ) (v : View) → u ≤ t → before u (need_starts side homes frames fetch requests o rule v t) ≡ []
  unfolding before
  before_need u t v l = grind (arith, λ (b : ℕ). before_late u (record { brings = wanted_block v; sends = b; start = t }) l)

  before_ahead : (u t : ℕ) (v : View) (d : ℕ) → u ≤ t → before u (ahead_starts side homes frames fetch requests o rule v t d) ≡ []
  unfolding before
  before_ahead u t v d l = grind (arith, λ (p q : ℕ). before_late u (record { brings = p; sends = q; start = t }) l)

  before_more : (u : ℕ) (xs ys : List Exchange) → before u ys ≡ [] → before u (xs ++ ys) ≡ before u xs
  before_more u xs ys e = before_append u xs ys ∙ (ap (λ (zs : List Exchange). before u xs ++ zs) e ∙ append-nil (before u xs))

  before_disks : (n d u t p : ℕ) (xs : List Exchange) → u ≤ t → before u (with_disks side homes frames fetch requests o rule n d xs t p) ≡ before u xs
  unfolding with_disks
  before_disks zero d u t p xs l = refl
  before_disks (suc n) d u t p xs l =
      let v : View = view_at side homes frames fetch requests o xs t p in
      let new : List Exchange = ahead_starts side homes frames fetch requests o rule v t d in
      before_disks n (d + 1) u t p (xs ++ new) l ∙ before_more u xs new (before_ahead u t v d l)

  before_answers : (u t p : ℕ) (xs : List Exchange) → u ≤ t → before u (with_answers side homes frames fetch requests o rule xs t p) ≡ before u xs
  unfolding with_answers
  before_answers u t p xs l =
      let v : View = view_at side homes frames fetch requests o xs t p in
      let new : List Exchange = need_starts side homes frames fetch requests o rule v t in
      before_disks most_disks 0 u t p (xs ++ new) l ∙ before_more u xs new (before_need u t v l)

  -- the records of a state after a question
  ahead_records : (d : ℕ) (s : State) → (asks_ahead side homes frames fetch requests rule d s).records ≡ s.records ++ ahead_starts side homes frames fetch requests o rule (seen side homes frames fetch requests s) s.boundary d
  unfolding asks_ahead after
  ahead_records d s = grind (arith, append-nil s.records)

  need_records : (s : State) → (asks_need side homes frames fetch requests rule s).records ≡ s.records ++ need_starts side homes frames fetch requests o rule (seen side homes frames fetch requests s) s.boundary
  unfolding asks_need after
  need_records s = grind (arith, append-nil s.records)

  module _ (law : NeedLaw rule) (fit : Fit homes fetch) (known : (i : ℕ) → i < length requests → get_or requests i 0 < length homes) (a : List Act) (t pos : ℕ) where
    abbrev In : State → Type 0
    In s = Within side homes frames fetch requests rule fit o a t pos s

    sees : (s : State) → In s → seen side homes frames fetch requests s ≡ view_at side homes frames fetch requests o s.records t pos
    sees s w =
        view_same side homes frames fetch requests fit.lasts o a s w.sound.tells_it (λ b l e. let d = w.sound.on_disk b l e in omega (arith, d.1, w.sound.soon d.0))
        ∙ (ap (λ (n : ℕ). view_at side homes frames fetch requests o s.records n s.position) w.boundary ∙ ap (λ (n : ℕ). view_at side homes frames fetch requests o s.records t n) w.position)

    disks_records : (n d : ℕ) (s : State) → In s → (asks_disks side homes frames fetch requests rule n d s).records ≡ with_disks side homes frames fetch requests o rule n d s.records t pos
    unfolding asks_disks with_disks
    disks_records zero d s w = refl
    disks_records (suc n) d s w =
        let z : State = asks_ahead side homes frames fetch requests rule d s in
        let next : In z = (one_disk side homes frames fetch requests rule fit o a t pos (λ x. Unit {0}) (λ x p q y k u. tt) d s (w, tt)).0 in
        let e : z.records ≡ s.records ++ ahead_starts side homes frames fetch requests o rule (view_at side homes frames fetch requests o s.records t pos) t d =
        ahead_records d s ∙ (ap (λ (v : View). s.records ++ ahead_starts side homes frames fetch requests o rule v s.boundary d) (sees s w)
        ∙ ap (λ (m : ℕ). s.records ++ ahead_starts side homes frames fetch requests o rule (view_at side homes frames fetch requests o s.records t pos) m d) w.boundary) in
        disks_records n (d + 1) z next ∙ ap (λ (xs : List Exchange). with_disks side homes frames fetch requests o rule n (d + 1) xs t pos) e

    need_within : (s : State) → In s → pos < length requests → In (asks_need side homes frames fetch requests rule s)
    unfolding asks_need
    need_within s w left = go (missing v (due side homes frames fetch requests s)) refl (rule.need v) refl
      where
        v : View
        v = seen side homes frames fetch requests s

        asked : s.position < length requests
        asked = omega (arith, w.position)

        go : (x : Bool) → missing v (due side homes frames fetch requests s) ≡ x → (y : Option ℕ) → rule.need v ≡ y → In (cond x (takes_need side homes frames fetch requests s y) s)
        go false e y f = w
        go true e None f = w
        go true e (Some b) f =
            within_trades side homes frames fetch requests rule fit o a t pos s (due side homes frames fetch requests s) b w
            (lawful_takes side homes frames fetch requests s (due side homes frames fetch requests s) b (law.names v (record { asked = asked; known = known s.position asked; away = e }) b f))
            (record { at = s.position; from = omega arith; within = asked; is = refl })

    all_records : (s : State) → In s → pos < length requests → (asks_all side homes frames fetch requests rule s).records ≡ with_answers side homes frames fetch requests o rule s.records t pos
    unfolding asks_all with_answers
    all_records s w left =
        let e : (asks_need side homes frames fetch requests rule s).records ≡ s.records ++ need_starts side homes frames fetch requests o rule (view_at side homes frames fetch requests o s.records t pos) t =
        need_records s ∙ (ap (λ (v : View). s.records ++ need_starts side homes frames fetch requests o rule v s.boundary) (sees s w)
        ∙ ap (λ (m : ℕ). s.records ++ need_starts side homes frames fetch requests o rule (view_at side homes frames fetch requests o s.records t pos) m) w.boundary) in
        disks_records most_disks 0 (asks_need side homes frames fetch requests rule s) (need_within s w left) ∙ ap (λ (xs : List Exchange). with_disks side homes frames fetch requests o rule most_disks 0 xs t pos) e

    all_within : (s : State) → In s → pos < length requests → In (asks_all side homes frames fetch requests rule s)
    unfolding asks_all
    all_within s w left = (all_disks side homes frames fetch requests rule fit o a t pos (λ x. Unit {0}) (λ x p q y k u. tt) most_disks 0 (asks_need side homes frames fetch requests rule s) (need_within s w left, tt)).0

  -- The plan so far follows the rule.
  pub record Track (a : List Act) (xs : List Exchange) : Type 0 where
    pub strict : (j : ℕ) → j < length xs → (get_or xs j none).start < length a
    pub starts_so : (t : ℕ) → t < length a → before (t + 1) xs ≡ with_answers side homes frames fetch requests o rule (before t xs) t (served (take t a))
    pub serves_if : (t : ℕ) → t < length a → ResidentDuring fetch o (before (t + 1) xs) (wanted requests a t) t → get_or a t Wait ≡ Serve
    pub goes_on : (t : ℕ) → t < length a → served (take t a) < length requests

  -- one step more
  track_more : (a : List Act) (xs ys : List Exchange) (act : Act) → Track a xs → served a < length requests → ys ≡ with_answers side homes frames fetch requests o rule xs (length a) (served a) →
      ((j : ℕ) → j < length ys → (get_or ys j none).start ≤ length a) → (ResidentDuring fetch o ys (get_or requests (served a) 0) (length a) → act ≡ Serve) → Track (a ++ (act ∷ [])) ys
  track_more a xs ys act h left new upto serve = record {
    strict = λ j l. omega (arith, upto j l, length_push a act);
    starts_so = λ t l. starts_at t (cases_eq t (length a)) (omega (arith, length_push a act));
    serves_if = λ t l. serves_at t (cases_eq t (length a)) (omega (arith, length_push a act));
    goes_on = λ t l. goes_at t (cases_eq t (length a)) (omega (arith, length_push a act));
  }
    where
      was : (u : ℕ) → u ≤ length a → before u ys ≡ before u xs
      was u l = ap (λ (zs : List Exchange). before u zs) new ∙ before_answers u (length a) (served a) xs l

      taken : (t : ℕ) → t ≤ length a → take t (a ++ (act ∷ [])) ≡ take t a
      taken t l = take-append-le t a (act ∷ []) l

      all_taken : take (length a) (a ++ (act ∷ [])) ≡ a
      all_taken = take_at a (act ∷ []) (length a) refl

      now : before (length a + 1) ys ≡ ys
      now = before_all (length a + 1) ys (λ j l. omega (arith, upto j l))

      starts_at : (t : ℕ) → (t ≡ length a) ⊎ (t ≡ length a → ⊥) → t ≤ length a → before (t + 1) ys ≡ with_answers side homes frames fetch requests o rule (before t ys) t (served (take t (a ++ (act ∷ []))))
      starts_at t (inl e) l = subst (λ (n : ℕ). before (n + 1) ys ≡ with_answers side homes frames fetch requests o rule (before n ys) n (served (take n (a ++ (act ∷ []))))) (sym e)
          (now ∙ (new ∙ (ap (λ (zs : List Exchange). with_answers side homes frames fetch requests o rule zs (length a) (served a)) (sym (was (length a) (omega arith) ∙ before_all (length a) xs h.strict))
          ∙ ap (λ (b : List Act). with_answers side homes frames fetch requests o rule (before (length a) ys) (length a) (served b)) (sym all_taken))))
      starts_at t (inr e) l =
          let k : t < length a = omega arith in
          was (t + 1) (omega arith) ∙ (h.starts_so t k
          ∙ (ap (λ (zs : List Exchange). with_answers side homes frames fetch requests o rule zs t (served (take t a))) (sym (was t l))
          ∙ ap (λ (b : List Act). with_answers side homes frames fetch requests o rule (before t ys) t (served b)) (sym (taken t l))))

      serves_at : (t : ℕ) → (t ≡ length a) ⊎ (t ≡ length a → ⊥) → t ≤ length a → ResidentDuring fetch o (before (t + 1) ys) (wanted requests (a ++ (act ∷ [])) t) t → get_or (a ++ (act ∷ [])) t Wait ≡ Serve
      serves_at t (inl e) l = subst (λ (n : ℕ). ResidentDuring fetch o (before (n + 1) ys) (wanted requests (a ++ (act ∷ [])) n) n → get_or (a ++ (act ∷ [])) n Wait ≡ Serve) (sym e)
          (λ r. get_or_push a act Wait (length a) refl ∙ serve
          (subst (λ (b : List Act). ResidentDuring fetch o ys (get_or requests (served b) 0) (length a)) all_taken
          (subst (λ (zs : List Exchange). ResidentDuring fetch o zs (wanted requests (a ++ (act ∷ [])) (length a)) (length a)) now r)))
      serves_at t (inr e) l = λ r.
          let k : t < length a = omega arith in
          get_or_append_left a (act ∷ []) Wait t k ∙ h.serves_if t k
          (subst (λ (b : List Act). ResidentDuring fetch o (before (t + 1) xs) (get_or requests (served b) 0) t) (taken t l)
          (subst (λ (zs : List Exchange). ResidentDuring fetch o zs (wanted requests (a ++ (act ∷ [])) t) t) (was (t + 1) (omega arith)) r))

      goes_at : (t : ℕ) → (t ≡ length a) ⊎ (t ≡ length a → ⊥) → t ≤ length a → served (take t (a ++ (act ∷ []))) < length requests
      goes_at t (inl e) l = subst (λ (n : ℕ). served (take n (a ++ (act ∷ []))) < length requests) (sym e) (subst (λ (b : List Act). served b < length requests) (sym all_taken) left)
      goes_at t (inr e) l = subst (λ (b : List Act). served b < length requests) (sym (taken t l)) (h.goes_on t (omega arith))

  module _ (law : NeedLaw rule) (fit : Fit homes fetch) (known : (i : ℕ) → i < length requests → get_or requests i 0 < length homes) where
    abbrev pub OnTrack : Course → Type 0
    OnTrack c = Runs side homes frames fetch requests rule law fit o known c × Track c.acts c.state.records

    turn_tracks : (c : Course) → OnTrack c → c.state.position < length requests → OnTrack (turn side homes frames fetch requests rule c)
    unfolding turn after
    turn_tracks c h left = (next, go (can_serve side homes frames fetch requests z) refl)
      where
        s : State
        s = c.state

        z : State
        z = asks_all side homes frames fetch requests rule s

        f : ℕ
        f = s.boundary + fetch - 1

        next : Runs side homes frames fetch requests rule law fit o known (turn side homes frames fetch requests rule c)
        next = (turn_goes side homes frames fetch requests rule law fit o known f c h.0 left (ready_fresh side homes frames fetch requests rule law fit o known f c h.0 (omega (arith, fit.lasts)))).runs_on

        begins : Within side homes frames fetch requests rule fit o c.acts s.boundary s.position s
        begins = record { boundary = refl; position = refl; sound = later_sound side homes frames fetch requests fit o c.acts s.boundary (s.boundary + 1) s (omega arith) h.0.sound }

        w : Within side homes frames fetch requests rule fit o c.acts s.boundary s.position z
        w = all_within law fit known c.acts s.boundary s.position s begins left

        at : s.boundary ≡ length c.acts
        at = h.0.sound.tells_it.boundary

        position : s.position ≡ served c.acts
        position = h.0.sound.tells_it.position

        new : z.records ≡ with_answers side homes frames fetch requests o rule s.records (length c.acts) (served c.acts)
        new = all_records law fit known c.acts s.boundary s.position s begins left
            ∙ (ap (λ (n : ℕ). with_answers side homes frames fetch requests o rule s.records n s.position) at ∙ ap (λ (n : ℕ). with_answers side homes frames fetch requests o rule s.records (length c.acts) n) position)

        upto : (j : ℕ) → j < length z.records → (get_or z.records j none).start ≤ length c.acts
        upto j l = omega (arith, w.sound.tells_it.started j l, w.boundary, at)

        can : ResidentDuring fetch o z.records (get_or requests (served c.acts) 0) (length c.acts) → can_serve side homes frames fetch requests z ≡ true
        can r =
            let b : ℕ = due side homes frames fetch requests z in
            let e : served c.acts ≡ z.position = sym position ∙ sym w.position in
            let k : length c.acts ≡ z.boundary = sym at ∙ sym w.boundary in
            resident_here fetch fit.lasts o z.records z.boundary b (mark z b) w.sound.tells_it.started (w.sound.tells_it.marks b)
            (subst (λ (n : ℕ). ResidentDuring fetch o z.records b n) k (subst (λ (n : ℕ). ResidentDuring fetch o z.records (get_or requests n 0) (length c.acts)) e r))

        go : (x : Bool) → can_serve side homes frames fetch requests z ≡ x → Track (steps side homes frames fetch requests x z c.acts).acts (steps side homes frames fetch requests x z c.acts).state.records
        go true e = track_more c.acts s.records z.records Serve h.1 (omega (arith, position)) new upto (λ r. refl)
        go false e = track_more c.acts s.records z.records Wait h.1 (omega (arith, position)) new upto (λ r. absurd (both_ways (can_serve side homes frames fetch requests z) e (can r)))

    pub runs_track : (n : ℕ) (c : Course) → OnTrack c → OnTrack (runs side homes frames fetch requests rule n c)
    unfolding runs
    runs_track zero c h = h
    runs_track (suc n) c h = runs_track n (next_by side homes frames fetch requests rule (is_over side homes frames fetch requests c) c) (go (is_over side homes frames fetch requests c) refl)
      where
        go : (x : Bool) → is_over side homes frames fetch requests c ≡ x → OnTrack (next_by side homes frames fetch requests rule x c)
        go true e = h
        go false e = turn_tracks c h (omega (arith, h.0.sound.asks, eqb-false c.state.position (length requests) e))
