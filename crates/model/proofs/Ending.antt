-- A pass ends: from its opening on, step by step, all requests are served in time.
use Rattle.std.proofs.Common.{◌≡◌, ℕ, zero, suc, ◌+◌, ◌-◌, ◌*◌, ◌<◌, ◌≤◌, Bool, true, false, ◌⊎◌, List, length, get_or, sym, refl, ap, ◌∙◌, subst, inl, inr, mul-suc, arith}
use Rattle.std.proofs.lemmas.Bool.{le-leb, eq-eqb, ne_eqb}
use Rattle.std.proofs.lemmas.Bool.Decides.{nat_tests}
use Rattle.model.specs.Timetable.{Side}
use Rattle.model.specs.PlanBytes.{Waits}
use Rattle.model.specs.Verdict.{Mark, Away, Here, is_away_at, is_here_at, State, after}
use Rattle.model.specs.Statements.{Fit}
use Rattle.model.specs.Rules.{Rule, NeedLaw}
use Rattle.model.specs.Pass.{Course, can_serve, steps, is_over, asks_all, turn, next_by, runs}
use Rattle.model.proofs.Seeing.{mark}
use Rattle.model.proofs.Sound.{Sound, sound_waits, sound_serves}
use Rattle.model.proofs.Turning.{Within, Stands, lands, blocked, behind, Ready, lands_by, blocked_by, behind_by, boundary_stands}

away_later : (m : Mark) (t : ℕ) → is_away_at m t ≡ true → is_away_at m (t + 1) ≡ true
away_later m t e = grind (arith, nat_tests)

not_here : (m : Mark) (l t : ℕ) → m ≡ Here l → is_here_at m t ≡ false → t < l
not_here m l t e f = grind (arith, nat_tests)

module _ (side : Side) (homes : List ℕ) (frames fetch : ℕ) (requests : List ℕ) (rule : Rule) (law : NeedLaw rule) (fit : Fit homes fetch) (o : List ℕ)
    (known : (i : ℕ) → i < length requests → get_or requests i 0 < length homes) where
  -- a pass at a boundary where nothing has started yet
  pub record Runs (c : Course) : Type 0 where
    pub sound : Sound side homes fetch requests o c.acts c.state.boundary c.state

  abbrev pub ReadyFor : ℕ → Course → Type 0
  ReadyFor deadline c = Ready side homes fetch (get_or requests c.state.position 0) c.state.boundary deadline c.state

  -- what a turn comes to: a request more is served, or the deadline still holds
  pub record Turned (deadline : ℕ) (c d : Course) : Type 0 where
    pub runs_on : Runs d
    pub one_more : d.state.boundary ≡ c.state.boundary + 1
    pub served_or : (d.state.position ≡ c.state.position + 1) ⊎ ((d.state.position ≡ c.state.position) × ReadyFor deadline d)

  pub turn_goes : (deadline : ℕ) (c : Course) → Runs c → c.state.position < length requests → ReadyFor deadline c → Turned deadline c (turn side homes frames fetch requests rule c)
  unfolding turn after
  turn_goes deadline c r left ready = go (can_serve side homes frames fetch requests z) refl
    where
      s : State
      s = c.state

      b : ℕ
      b = get_or requests s.position 0

      z : State
      z = asks_all side homes frames fetch requests rule s

      result : Within side homes frames fetch requests rule fit o c.acts s.boundary s.position z × Stands side homes fetch b s.boundary deadline z
      result = boundary_stands side homes frames fetch requests rule law fit o known c.acts s r.sound left deadline ready

      w : Within side homes frames fetch requests rule fit o c.acts s.boundary s.position z
      w = result.0

      same : get_or requests z.position 0 ≡ b
      same = ap (λ (n : ℕ). get_or requests n 0) w.position

      waits : can_serve side homes frames fetch requests z ≡ false → Stands side homes fetch b s.boundary deadline z → Ready side homes fetch b (s.boundary + 1) deadline (after side homes frames fetch requests 0 z Waits)
      waits e (lands l f i) =
          let early : s.boundary < l = subst (λ (n : ℕ). n < l) w.boundary (not_here (mark z b) l z.boundary f (subst (λ (n : ℕ). is_here_at (mark z n) z.boundary ≡ false) same e)) in
          lands_by l f i (omega arith)
      waits e (blocked f idle i) = blocked_by (away_later (mark z b) s.boundary f) idle i
      waits e (behind y f i j) = behind_by y (away_later (mark z b) s.boundary f) i j

      go : (x : Bool) → can_serve side homes frames fetch requests z ≡ x → Turned deadline c (steps side homes frames fetch requests x z c.acts)
      go true e = record {
        runs_on = record { sound = sound_serves side homes frames fetch requests fit o c.acts z w.sound (omega (arith, w.position)) e };
        one_more = ap (λ (n : ℕ). n + 1) w.boundary;
        served_or = inl (ap (λ (n : ℕ). n + 1) w.position);
      }
      go false e = record {
        runs_on = record { sound = sound_waits side homes frames fetch requests fit o c.acts z w.sound };
        one_more = ap (λ (n : ℕ). n + 1) w.boundary;
        served_or = inr (
          w.position,
          subst (λ (n : ℕ). Ready side homes fetch n (z.boundary + 1) deadline (after side homes frames fetch requests 0 z Waits)) (sym same)
              (subst (λ (n : ℕ). Ready side homes fetch b (n + 1) deadline (after side homes frames fetch requests 0 z Waits)) (sym w.boundary) (waits e result.1)),
        );
      }

  -- a position just reached
  pub ready_fresh : (deadline : ℕ) (c : Course) → Runs c → deadline + 1 ≡ c.state.boundary + fetch → ReadyFor deadline c
  ready_fresh deadline c r e = go (mark s b) refl
    where
      s : State
      s = c.state

      b : ℕ
      b = get_or requests s.position 0

      go : (m : Mark) → mark s b ≡ m → ReadyFor deadline c
      go (Here l) f =
          let d = r.sound.on_disk b l f in
          lands_by l f (omega (arith, d.1, r.sound.soon d.0)) (omega (arith, fit.lasts))
      go (Away g) f =
          blocked_by (subst (λ (m : Mark). is_away_at m s.boundary ≡ true) (sym f) (le-leb g s.boundary (r.sound.gone_by b g f)))
          (λ d. omega (arith, r.sound.soon d)) (omega (arith, fit.lasts))

  ready_early : (deadline : ℕ) (c : Course) → ReadyFor deadline c → c.state.boundary ≤ deadline + fetch
  ready_early deadline c (lands_by l f i j) = j
  ready_early deadline c (blocked_by f idle i) = omega arith
  ready_early deadline c (behind_by z f i j) = omega arith

  -- A pass that has ended, from one that goes on.
  pub record Ended (c d : Course) (fuel : ℕ) : Type 0 where
    pub runs_out : Runs d
    pub all : d.state.position ≡ length requests
    pub in_time : d.state.boundary ≤ c.state.boundary + fuel

  runs_over : (n : ℕ) (c : Course) → is_over side homes frames fetch requests c ≡ true → runs side homes frames fetch requests rule n c ≡ c
  unfolding runs
  runs_over zero c e = refl
  runs_over (suc n) c e = ap (λ (x : Bool). runs side homes frames fetch requests rule n (next_by side homes frames fetch requests rule x c)) e ∙ runs_over n c e

  runs_more : (n : ℕ) (c : Course) → c.state.position < length requests → runs side homes frames fetch requests rule (suc n) c ≡ runs side homes frames fetch requests rule n (turn side homes frames fetch requests rule c)
  unfolding runs
  runs_more n c l = ap (λ (x : Bool). runs side homes frames fetch requests rule n (next_by side homes frames fetch requests rule x c)) (ne_eqb c.state.position (length requests) (λ (e : c.state.position ≡ length requests). omega arith))

  pub over_ends : (n : ℕ) (c : Course) → Runs c → c.state.position ≡ length requests → Ended c (runs side homes frames fetch requests rule n c) n
  over_ends n c r e = subst (λ (d : Course). Ended c d n) (sym (runs_over n c (eq-eqb c.state.position (length requests) e))) (record { runs_out = r; all = e; in_time = omega arith })

  pub ends : (fuel k deadline : ℕ) (c : Course) → Runs c → c.state.position + suc k ≡ length requests → ReadyFor deadline c → deadline + fetch + 1 + 2 * fetch * k ≤ c.state.boundary + fuel →
      Ended c (runs side homes frames fetch requests rule fuel c) fuel
  ends zero k deadline c r e ready enough = absurd (omega (arith, ready_early deadline c ready))
  ends (suc n) k deadline c r e ready enough =
      subst (λ (d : Course). Ended c d (suc n)) (sym (runs_more n c (omega arith)))
      (longer (go k e (ready_early deadline c ready) enough next.served_or (λ i f j m. ends n i f d next.runs_on j m)))
    where
      d : Course
      d = turn side homes frames fetch requests rule c

      next : Turned deadline c d
      next = turn_goes deadline c r (omega arith) ready

      longer : Ended d (runs side homes frames fetch requests rule n d) n → Ended c (runs side homes frames fetch requests rule n d) (suc n)
      longer h = record { runs_out = h.runs_out; all = h.all; in_time = omega (arith, h.in_time, next.one_more) }

      go : (k : ℕ) → c.state.position + suc k ≡ length requests → c.state.boundary ≤ deadline + fetch → deadline + fetch + 1 + 2 * fetch * k ≤ c.state.boundary + suc n →
          (d.state.position ≡ c.state.position + 1) ⊎ ((d.state.position ≡ c.state.position) × ReadyFor deadline d) →
          ((i f : ℕ) → d.state.position + suc i ≡ length requests → ReadyFor f d → f + fetch + 1 + 2 * fetch * i ≤ d.state.boundary + n → Ended d (runs side homes frames fetch requests rule n d) n) →
          Ended d (runs side homes frames fetch requests rule n d) n
      go k e early enough (inr h) again = again k deadline (omega (arith, h.0)) h.1 (omega (arith, next.one_more))
      go zero e early enough (inl h) again = over_ends n d next.runs_on (omega arith)
      go (suc i) e early enough (inl h) again =
          let f : ℕ = d.state.boundary + fetch - 1 in
          let m : f + 1 ≡ d.state.boundary + fetch = omega (arith, fit.lasts) in
          again i f (omega arith) (ready_fresh f d next.runs_on m) (omega (arith, mul-suc (2 * fetch) i, next.one_more))
