-- One boundary of a pass: what is asked there, and what it comes to.
use Rattle.std.proofs.Common.{◌≡◌, ℕ, zero, suc, ◌+◌, ◌<◌, ◌≤◌, Bool, true, false, cond, not, eqb, ltb, ◌⊎◌, List, length, get_or, sym, refl, ap, ◌∙◌, subst, inl, inr, arith}
use Rattle.std.proofs.lemmas.Bool.{both_ways, le-leb, ltb-true, not-true, cases_eq, cases_lt, eqb-false}
use Rattle.model.specs.Timetable.{Act, Side, Forward, Backward, occupies}
use Rattle.model.specs.Verdict.{Mark, Here, is_away_at, is_here_at, State, after, most_disks}
use Rattle.model.specs.Statements.{Fit}
use Rattle.model.specs.View.{Option, None, Some, View, lawful, is_free, disk_of, next_use, wanted_block}
use Rattle.model.specs.Rules.{Rule, NeedLaw, Wants}
use Rattle.model.specs.Pass.{seen, starts, screened, takes_ahead, takes_need, asks_need, asks_ahead, asks_disks, asks_all}
use Rattle.model.proofs.Choosing.{all_four}
use Rattle.model.proofs.Seeing.{mark, idle_from, Requested, Takes, use_requested, sees_missing, lawful_takes, takes_lawful}
use Rattle.model.proofs.Sound.{Sound, later_sound, sound_trades, new_in, new_other, other_idle}
use Rattle.model.proofs.Progress.{on_disks}

module _ (side : Side) (homes : List ℕ) (frames fetch : ℕ) (requests : List ℕ) where
  -- an exchange that the pass takes from ahead
  pub record Ahead (s : State) (p q : ℕ) : Type 0 where
    pub takes_it : Takes side homes frames fetch requests s p q
    pub asked : Requested requests s.position p
    pub other : q ≡ get_or requests s.position 0 → ⊥

  screened_ahead : (s : State) (d p q : ℕ) → screened side homes frames fetch requests (seen side homes frames fetch requests s) d p q ≡ true → Ahead s p q
  screened_ahead s d p q e =
      let v : View = seen side homes frames fetch requests s in
      let k = all_four (lawful v p q) (eqb (disk_of v p q) d) (ltb (next_use v p) (length requests)) (not (eqb q (wanted_block v))) e in
      record {
        takes_it = lawful_takes side homes frames fetch requests s p q k.0;
        asked = use_requested v p (ltb-true (next_use v p) (length requests) k.2);
        other = eqb-false q (wanted_block v) (not-true (eqb q (wanted_block v)) k.3);
      }

  module _ (rule : Rule) (fit : Fit homes fetch) (o : List ℕ) (a : List Act) (t pos : ℕ) where
    -- within boundary t, at a position
    pub record Within (s : State) : Type 0 where
      pub boundary : s.boundary ≡ t
      pub position : s.position ≡ pos
      pub sound : Sound side homes fetch requests o a (s.boundary + 1) s

    pub within_trades : (s : State) (p q : ℕ) → Within s → Takes side homes frames fetch requests s p q → Requested requests s.position p → Within (starts side homes frames fetch requests s p q)
    unfolding after
    within_trades s p q w k r = record { boundary = w.boundary; position = w.position; sound = sound_trades side homes frames fetch requests fit o a s p q w.sound k r }

    -- what every taken start keeps, the questions to all disks keep
    module _ (P : State → Type 0) (kept : (s : State) (p q : ℕ) → Within s → Ahead s p q → P s → P (starts side homes frames fetch requests s p q)) where
      abbrev pub Both : State → Type 0
      Both s = Within s × P s

      pub one_disk : (d : ℕ) (s : State) → Both s → Both (asks_ahead side homes frames fetch requests rule d s)
      unfolding asks_ahead
      one_disk d s h = go (is_free (seen side homes frames fetch requests s) d) (rule.ahead (seen side homes frames fetch requests s) d)
        where
          took : (p q : ℕ) (x : Bool) → screened side homes frames fetch requests (seen side homes frames fetch requests s) d p q ≡ x → Both (cond x (starts side homes frames fetch requests s p q) s)
          took p q true e = let k = screened_ahead s d p q e in (within_trades s p q h.0 k.takes_it k.asked, kept s p q h.0 k h.1)
          took p q false e = h

          go : (x : Bool) (y : Option (ℕ × ℕ)) → Both (cond x (takes_ahead side homes frames fetch requests s d y) s)
          go false y = h
          go true None = h
          go true (Some z) = took z.0 z.1 (screened side homes frames fetch requests (seen side homes frames fetch requests s) d z.0 z.1) refl

      pub all_disks : (n d : ℕ) (s : State) → Both s → Both (asks_disks side homes frames fetch requests rule n d s)
      unfolding asks_disks
      all_disks zero d s h = h
      all_disks (suc n) d s h = all_disks n (d + 1) (asks_ahead side homes frames fetch requests rule d s) (one_disk d s h)

-- Where the block at the position stands after the starts of boundary t, with a deadline: it is to land by fetch after
-- it; or it is absent, and all disks are idle by it; or, forward, its own disk is.
pub data Stands (side : Side) (homes : List ℕ) (fetch c t deadline : ℕ) (s : State) : Type 0 where
  lands : (l : ℕ) → mark s c ≡ Here l → l ≤ deadline + fetch → Stands side homes fetch c t deadline s
  blocked : is_away_at (mark s c) t ≡ true → ((d : ℕ) → idle_from s d ≤ deadline) → t + 1 ≤ deadline → Stands side homes fetch c t deadline s
  behind : side ≡ Forward → is_away_at (mark s c) t ≡ true → t + 1 ≤ idle_from s (get_or homes c 0) → idle_from s (get_or homes c 0) ≤ deadline → Stands side homes fetch c t deadline s

-- The same before them.
pub data Ready (side : Side) (homes : List ℕ) (fetch c t deadline : ℕ) (s : State) : Type 0 where
  lands_by : (l : ℕ) → mark s c ≡ Here l → l ≤ deadline + fetch → t ≤ deadline + fetch → Ready side homes fetch c t deadline s
  blocked_by : is_away_at (mark s c) t ≡ true → ((d : ℕ) → idle_from s d ≤ deadline) → t ≤ deadline → Ready side homes fetch c t deadline s
  behind_by : side ≡ Forward → is_away_at (mark s c) t ≡ true → t ≤ idle_from s (get_or homes c 0) → idle_from s (get_or homes c 0) ≤ deadline → Ready side homes fetch c t deadline s

module _ (side : Side) (homes : List ℕ) (frames fetch : ℕ) (requests : List ℕ) (rule : Rule) (law : NeedLaw rule) (fit : Fit homes fetch) (o : List ℕ)
    (known : (i : ℕ) → i < length requests → get_or requests i 0 < length homes) (a : List Act) (s : State)
    (sound : Sound side homes fetch requests o a s.boundary s) (left : s.position < length requests) where
  abbrev t : ℕ
  t = s.boundary

  abbrev c : ℕ
  c = get_or requests s.position 0

  abbrev v : View
  v = seen side homes frames fetch requests s

  c_known : c < length homes
  c_known = known s.position left

  begins : Within side homes frames fetch requests rule fit o a t s.position s
  begins = record { boundary = refl; position = refl; sound = later_sound side homes frames fetch requests fit o a t (t + 1) s (omega arith) sound }

  abbrev In : State → Type 0
  In z = Within side homes frames fetch requests rule fit o a t s.position z

  abbrev swept : State → State
  swept z = asks_disks side homes frames fetch requests rule most_disks 0 z

  -- a block at the position that is to land stays so
  keeps_landing : (l : ℕ) (z : State) → In z → mark z c ≡ Here l → In (swept z) × (mark (swept z) c ≡ Here l)
  keeps_landing l z w e = all_disks side homes frames fetch requests rule fit o a t s.position (λ x. mark x c ≡ Here l) kept most_disks 0 z (w, e)
    where
      kept : (x : State) (p q : ℕ) → In x → Ahead side homes frames fetch requests x p q → mark x c ≡ Here l → mark (starts side homes frames fetch requests x p q) c ≡ Here l
      kept x p q w k f =
          new_other side homes frames fetch requests fit o a x p q w.sound k.takes_it c
          (λ (i : c ≡ p). let g = k.takes_it.away in grind arith)
          (λ i. k.other (sym i ∙ ap (λ (n : ℕ). get_or requests n 0) (sym w.position)))
          ∙ f

  -- where nothing may start, nothing does
  keeps_still : ((p q : ℕ) → Ahead side homes frames fetch requests s p q → ⊥) → swept s ≡ s
  keeps_still never = (all_disks side homes frames fetch requests rule fit o a t s.position (λ x. x ≡ s)
      (λ x p q w k e. absurd (never p q (subst (λ (z : State). Ahead side homes frames fetch requests z p q) e k))) most_disks 0 s (begins, refl)).1

  -- forward, a busy disk of the absent block at the position stays as it is, and the block away
  record Busy (f : ℕ) (z : State) : Type 0 where
    away : is_away_at (mark z c) t ≡ true
    until : idle_from z (get_or homes c 0) ≡ f

  keeps_busy : side ≡ Forward → (f : ℕ) → t < f → (z : State) → In z → Busy f z → In (swept z) × Busy f (swept z)
  keeps_busy fw f l z w b = all_disks side homes frames fetch requests rule fit o a t s.position (Busy f) kept most_disks 0 z (w, b)
    where
      kept : (x : State) (p q : ℕ) → In x → Ahead side homes frames fetch requests x p q → Busy f x → Busy f (starts side homes frames fetch requests x p q)
      kept x p q w k h = record {
        away = subst (λ (m : Mark). is_away_at m t ≡ true) (sym (new_other side homes frames fetch requests fit o a x p q w.sound k.takes_it c not_in not_out)) h.away;
        until = other_idle side homes frames fetch requests fit o a x p q w.sound k.takes_it (get_or homes c 0) (λ e. not_disk (e ∙ on)) ∙ h.until;
      }
        where
          on : occupies side homes (record { brings = p; sends = q; start = x.boundary }) ≡ get_or homes p 0
          on = rw fw

          not_disk : get_or homes c 0 ≡ get_or homes p 0 → ⊥
          not_disk e =
              let i : idle_from x (get_or homes p 0) ≤ x.boundary = subst (λ (d : ℕ). idle_from x d ≤ x.boundary) on k.takes_it.idle in
              let j : idle_from x (get_or homes p 0) ≡ f = subst (λ (d : ℕ). idle_from x d ≡ f) e h.until in
              omega (arith, w.boundary)

          not_in : c ≡ p → ⊥
          not_in e = not_disk (ap (λ (n : ℕ). get_or homes n 0) e)

          not_out : c ≡ q → ⊥
          not_out e = let i = k.takes_it.here in let j = h.away in grind arith

  abbrev Result : ℕ → State → Type 0
  Result deadline z = In z × Stands side homes fetch c t deadline z

  from_away : is_away_at (mark s c) t ≡ true → asks_all side homes frames fetch requests rule s ≡ swept (takes_need side homes frames fetch requests s (rule.need v))
  unfolding asks_all asks_need
  from_away e = ap (λ (x : Bool). swept (cond x (takes_need side homes frames fetch requests s (rule.need v)) s)) (sees_missing side homes frames fetch requests s c c_known ∙ e)

  from_here : is_away_at (mark s c) t ≡ false → asks_all side homes frames fetch requests rule s ≡ swept s
  unfolding asks_all asks_need
  from_here e = ap (λ (x : Bool). swept (cond x (takes_need side homes frames fetch requests s (rule.need v)) s)) (sees_missing side homes frames fetch requests s c c_known ∙ e)

  wants : is_away_at (mark s c) t ≡ true → Wants v
  wants e = record { asked = left; known = c_known; away = sees_missing side homes frames fetch requests s c c_known ∙ e }

  -- need's law: where it names none, nothing can come out for the block at the position
  no_takes : is_away_at (mark s c) t ≡ true → rule.need v ≡ None → (q : ℕ) → Takes side homes frames fetch requests s c q → ⊥
  no_takes e f q k =
      both_ways (lawful v c q) (law.else_none v (wants e) f q)
      (takes_lawful side homes frames fetch requests s c q k (omega (arith, on_disks side homes fetch fit (record { brings = c; sends = q; start = 0 }) k.known_in k.known_out, sound.tells_it.size_idle)))

  here_by : (m : Mark) (l n : ℕ) → m ≡ Here l → l ≤ n → is_here_at m n ≡ true
  here_by m l n e i = subst (λ (x : Mark). is_here_at x n ≡ true) (sym e) (le-leb l n i)

  takes_with : is_away_at (mark s c) t ≡ true → (q : ℕ) → q < length homes → is_here_at (mark s q) t ≡ true → idle_from s (occupies side homes (record { brings = c; sends = q; start = t })) ≤ t →
      Takes side homes frames fetch requests s c q
  takes_with e q i f g = record { known_in = c_known; known_out = i; away = e; here = f; idle = g }

  -- once all disks are idle, need names a block
  idle_names : is_away_at (mark s c) t ≡ true → rule.need v ≡ None → ((d : ℕ) → idle_from s d ≤ t) → ⊥
  idle_names e f idle =
      let b = sound.some_here in
      let d = sound.on_disk b.0 b.1 b.3 in
      no_takes e f b.0 (takes_with e b.0 b.2 (here_by (mark s b.0) b.1 t b.3 (omega (arith, d.1, idle d.0))) (idle _))

  -- nothing starts where need names none: backward, and forward where the disk of the block at the position is idle
  none_backward : side ≡ Backward → is_away_at (mark s c) t ≡ true → rule.need v ≡ None → (p q : ℕ) → Ahead side homes frames fetch requests s p q → ⊥
  none_backward z e f p q k = no_takes e f q (takes_with e q k.takes_it.known_out k.takes_it.here (subst (λ (d : ℕ). idle_from s d ≤ t) (rw z) k.takes_it.idle))

  own_disk : side ≡ Forward → (q : ℕ) → get_or homes c 0 ≡ occupies side homes (record { brings = c; sends = q; start = t })
  own_disk z q = rw z

  none_forward : side ≡ Forward → idle_from s (get_or homes c 0) ≤ t → is_away_at (mark s c) t ≡ true → rule.need v ≡ None → (p q : ℕ) → Ahead side homes frames fetch requests s p q → ⊥
  none_forward z i e f p q k = no_takes e f q (takes_with e q k.takes_it.known_out k.takes_it.here (subst (λ (d : ℕ). idle_from s d ≤ t) (own_disk z q) i))

  -- need names a block, and it comes
  named : is_away_at (mark s c) t ≡ true → (deadline b : ℕ) → t ≤ deadline → rule.need v ≡ Some b → Result deadline (asks_all side homes frames fetch requests rule s)
  named e deadline b i f =
      let k = lawful_takes side homes frames fetch requests s c b (law.names v (wants e) b f) in
      let r : Requested requests s.position c = record { at = s.position; from = omega arith; within = left; is = refl } in
      let w = within_trades side homes frames fetch requests rule fit o a t s.position s c b begins k r in
      let j = keeps_landing (t + fetch) (starts side homes frames fetch requests s c b) w (new_in side homes frames fetch requests fit o a s c b begins.sound k) in
      let same : asks_all side homes frames fetch requests rule s ≡ swept (starts side homes frames fetch requests s c b) = from_away e ∙ ap (λ (x : Option ℕ). swept (takes_need side homes frames fetch requests s x)) f in
      subst (λ (z : State). Result deadline z) (sym same) (j.0, lands (t + fetch) j.1 (omega arith))

  still : is_away_at (mark s c) t ≡ true → rule.need v ≡ None → asks_all side homes frames fetch requests rule s ≡ swept s
  still e f = from_away e ∙ ap (λ (x : Option ℕ). swept (takes_need side homes frames fetch requests s x)) f

  -- forward, behind a busy disk
  waits_behind : side ≡ Forward → is_away_at (mark s c) t ≡ true → rule.need v ≡ None → (deadline : ℕ) → t < idle_from s (get_or homes c 0) → idle_from s (get_or homes c 0) ≤ deadline →
      Result deadline (asks_all side homes frames fetch requests rule s)
  waits_behind z e f deadline i j =
      let k = keeps_busy z (idle_from s (get_or homes c 0)) i s begins (record { away = e; until = refl }) in
      subst (λ (x : State). Result deadline x) (sym (still e f)) (k.0, behind z k.1.away (omega (arith, k.1.until)) (omega (arith, k.1.until)))

  stays : is_away_at (mark s c) t ≡ true → rule.need v ≡ None → (deadline : ℕ) → ((d : ℕ) → idle_from s d ≤ deadline) → t < deadline → ((p q : ℕ) → Ahead side homes frames fetch requests s p q → ⊥) →
      Result deadline (asks_all side homes frames fetch requests rule s)
  stays e f deadline idle i never = subst (λ (x : State). Result deadline x) (sym (still e f ∙ keeps_still never)) (begins, blocked e idle (omega arith))

  sides : (y : Side) → (y ≡ Forward) ⊎ (y ≡ Backward)
  sides Forward = inl refl
  sides Backward = inr refl

  waits_blocked : is_away_at (mark s c) t ≡ true → rule.need v ≡ None → (deadline : ℕ) → ((d : ℕ) → idle_from s d ≤ deadline) → t ≤ deadline → Result deadline (asks_all side homes frames fetch requests rule s)
  waits_blocked e f deadline idle i = go (sides side) (cases_lt t (idle_from s (get_or homes c 0)))
    where
      early : t < deadline
      early = let n = λ (j : t ≡ deadline). idle_names e f (λ d. omega (arith, idle d)) in omega arith

      go : (side ≡ Forward) ⊎ (side ≡ Backward) → (t < idle_from s (get_or homes c 0)) ⊎ (idle_from s (get_or homes c 0) ≤ t) → Result deadline (asks_all side homes frames fetch requests rule s)
      go (inl z) (inl j) = waits_behind z e f deadline j (idle (get_or homes c 0))
      go (inl z) (inr j) = stays e f deadline idle early (none_forward z j e f)
      go (inr z) j = stays e f deadline idle early (none_backward z e f)

  -- one boundary
  pub boundary_stands : (deadline : ℕ) → Ready side homes fetch c t deadline s → Result deadline (asks_all side homes frames fetch requests rule s)
  boundary_stands deadline (lands_by l e i j) =
      let k = keeps_landing l s begins e in
      subst (λ (x : State). Result deadline x) (sym (from_here (ap (λ (m : Mark). is_away_at m t) e))) (k.0, lands l k.1 i)
  boundary_stands deadline (blocked_by e idle i) = go (rule.need v) refl
    where
      go : (x : Option ℕ) → rule.need v ≡ x → Result deadline (asks_all side homes frames fetch requests rule s)
      go None f = waits_blocked e f deadline idle i
      go (Some b) f = named e deadline b i f
  boundary_stands deadline (behind_by z e i j) = go (rule.need v) refl (cases_eq t (idle_from s (get_or homes c 0)))
    where
      go : (x : Option ℕ) → rule.need v ≡ x → (t ≡ idle_from s (get_or homes c 0)) ⊎ (t ≡ idle_from s (get_or homes c 0) → ⊥) → Result deadline (asks_all side homes frames fetch requests rule s)
      go (Some b) f k = named e deadline b (omega arith) f
      go None f (inl k) =
          let b = sound.carries (get_or homes c 0) i in
          absurd (no_takes e f b.0 (takes_with e b.0 b.1 (here_by (mark s b.0) (idle_from s (get_or homes c 0)) t b.2 (omega arith))
          (subst (λ (d : ℕ). idle_from s d ≤ t) (own_disk z b.0) (omega arith))))
      go None f (inr k) = waits_behind z e f deadline (omega arith) j
