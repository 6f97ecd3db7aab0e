-- What holds of a pass at every moment, and how a start and a step keep it.
use Rattle.std.proofs.Common.{◌≡◌, ℕ, ◌+◌, ◌<◌, ◌≤◌, true, ◌⊎◌, List, [], ◌∷◌, ◌++◌, length, get_or, set, sym, ◌∙◌, subst, inl, inr, arith}
use Rattle.std.proofs.lemmas.List.{get_or-set_same, get_or-set_other, length-set}
use Rattle.std.proofs.lemmas.Bool.{cases_eq}
use Rattle.std.proofs.lemmas.Bool.Decides.{nat_tests}
use Rattle.model.specs.Timetable.{Exchange, Act, Serve, Wait, Side, occupies, ResidentDuring, served}
use Rattle.model.specs.PlanBytes.{Serves, Waits}
use Rattle.model.specs.Verdict.{Away, Here, is_here_at, State, after, most_disks}
use Rattle.model.specs.Statements.{Fit}
use Rattle.model.specs.Pass.{starts}
use Rattle.model.proofs.Marks.{here_resident}
use Rattle.model.proofs.Progress.{Tells, tells_trades, tells_serves, tells_waits, lawful_from, on_disks}
use Rattle.model.proofs.Accepts.{Sofar, sofar_trades, sofar_act}
use Rattle.model.proofs.Seeing.{mark, idle_from, Requested, Takes}

-- The state s of a pass after an opening o and acts a. The number u is the boundary where nothing has started at it yet,
-- and one more where something may have.
pub record Sound (side : Side) (homes : List ℕ) (fetch : ℕ) (requests : List ℕ) (o : List ℕ) (a : List Act) (u : ℕ) (s : State) : Type 0 where
  pub tells_it : Tells side homes fetch o a s.records s
  pub keeps_it : Sofar side homes fetch requests o a s.records
  pub asks : s.position ≤ length requests
  -- some block is not absent
  pub some_here : (b : ℕ) × (l : ℕ) × (b < length homes) × (mark s b ≡ Here l)
  -- a block that is to land does so by when some disk is idle
  pub on_disk : (b l : ℕ) → mark s b ≡ Here l → (d : ℕ) × (l ≤ idle_from s d)
  -- a disk that is busy carries a block
  pub carries : (d : ℕ) → u ≤ idle_from s d → (b : ℕ) × (b < length homes) × (mark s b ≡ Here (idle_from s d))
  pub gone_by : (b g : ℕ) → mark s b ≡ Away g → g ≤ u
  pub soon : (d : ℕ) → idle_from s d + 1 ≤ u + fetch
  -- a block in flight is requested at or after the position
  pub requested : (b l : ℕ) → mark s b ≡ Here l → s.boundary < l → Requested requests s.position b
  -- the last exchange in flight carries a block
  pub last : s.boundary < s.landing → (b : ℕ) × (mark s b ≡ Here s.landing)

module _ (side : Side) (homes : List ℕ) (frames fetch : ℕ) (requests : List ℕ) (fit : Fit homes fetch) (o : List ℕ) where
  pub later_sound : (a : List Act) (u w : ℕ) (s : State) → u ≤ w → Sound side homes fetch requests o a u s → Sound side homes fetch requests o a w s
  later_sound a u w s l h = record {
    tells_it = h.tells_it;
    keeps_it = h.keeps_it;
    asks = h.asks;
    some_here = h.some_here;
    on_disk = h.on_disk;
    carries = λ d m. h.carries d (omega arith);
    gone_by = λ b g e. omega (arith, h.gone_by b g e);
    soon = λ d. omega (arith, h.soon d);
    requested = h.requested;
    last = h.last;
  }

  -- a start
  module _ (a : List Act) (s : State) (p q : ℕ) (h : Sound side homes fetch requests o a (s.boundary + 1) s) (k : Takes side homes frames fetch requests s p q) where
    abbrev x : Exchange
    x = record { brings = p; sends = q; start = s.boundary }

    abbrev next : State
    next = starts side homes frames fetch requests s p q

    abbrev disk : ℕ
    disk = occupies side homes x

    differ : p ≡ q → ⊥
    differ e = let i = k.away in let j = k.here in grind arith

    disk_known : disk < most_disks
    disk_known = on_disks side homes fetch fit x k.known_in k.known_out

    pub new_in : mark next p ≡ Here (s.boundary + fetch)
    unfolding after
    new_in = get_or-set_same (set s.marks q (Away (s.boundary + 1))) p (Here (s.boundary + fetch)) (Away 0)
        (omega (arith, length-set s.marks q (Away (s.boundary + 1)), h.tells_it.size_marks, fit.few, k.known_in))

    new_out : mark next q ≡ Away (s.boundary + 1)
    unfolding after
    new_out = get_or-set_other (set s.marks q (Away (s.boundary + 1))) p q (Here (s.boundary + fetch)) (Away 0) (λ e. differ (sym e))
        ∙ get_or-set_same s.marks q (Away (s.boundary + 1)) (Away 0) (omega (arith, h.tells_it.size_marks, fit.few, k.known_out))

    pub new_other : (b : ℕ) → (b ≡ p → ⊥) → (b ≡ q → ⊥) → mark next b ≡ mark s b
    unfolding after
    new_other b i j = get_or-set_other (set s.marks q (Away (s.boundary + 1))) p b (Here (s.boundary + fetch)) (Away 0) i ∙ get_or-set_other s.marks q b (Away (s.boundary + 1)) (Away 0) j

    new_idle : idle_from next disk ≡ s.boundary + fetch
    unfolding after
    new_idle = get_or-set_same s.idle disk (s.boundary + fetch) 0 (omega (arith, h.tells_it.size_idle, disk_known))

    pub other_idle : (d : ℕ) → (d ≡ disk → ⊥) → idle_from next d ≡ idle_from s d
    unfolding after
    other_idle d i = get_or-set_other s.idle disk d (s.boundary + fetch) 0 i

    here_new : (b l : ℕ) → mark next b ≡ Here l → ((b ≡ p) × (l ≡ s.boundary + fetch)) ⊎ (mark s b ≡ Here l)
    here_new b l e = let i = new_in in let j = new_out in let k = new_other b in grind (arith, cases_eq b p, cases_eq b q)

    pub here_old : (b l : ℕ) → mark s b ≡ Here l → s.boundary < l → mark next b ≡ Here l
    here_old b l e m = new_other b
        (λ (i : b ≡ p). let g = k.away in grind arith)
        (λ (i : b ≡ q). let g = k.here in grind (arith, nat_tests))
        ∙ e

    away_new : (b g : ℕ) → mark next b ≡ Away g → (g ≡ s.boundary + 1) ⊎ (mark s b ≡ Away g)
    away_new b g e = let i = new_in in let j = new_out in let k = new_other b in grind (arith, cases_eq b p, cases_eq b q)

    idle_cases : (d : ℕ) → ((idle_from next d ≡ s.boundary + fetch) × (idle_from s d ≤ s.boundary)) ⊎ (idle_from next d ≡ idle_from s d)
    idle_cases d = let i = new_idle in let j = other_idle d in let m = k.idle in grind (arith, cases_eq d disk)

    pub sound_trades : Requested requests s.position p → Sound side homes fetch requests o a (s.boundary + 1) next
    unfolding after
    sound_trades asked =
        record {
          tells_it = tells_trades side homes frames fetch requests 0 fit o a s.records s p q h.tells_it k.known_in k.known_out k.away k.here;
          keeps_it = sofar_trades side homes fetch requests o a s.records x fit.lasts h.keeps_it h.tells_it.boundary h.tells_it.started
              (lawful_from side homes frames fetch requests 0 fit o a s.records s p q h.tells_it k.known_in k.known_out k.away k.here k.idle);
          asks = h.asks;
          some_here = (p, s.boundary + fetch, k.known_in, new_in);
          on_disk = λ b l e. on b l (here_new b l e);
          carries = λ d m. carry d m (idle_cases d);
          gone_by = λ b g e. let i = away_new b g e in let j = h.gone_by b g in grind arith;
          soon = λ d. let i = idle_cases d in let j = h.soon d in grind arith;
          requested = λ b l e m. req b l m (here_new b l e);
          last = λ m. (p, new_in);
        }
      where
        on : (b l : ℕ) → ((b ≡ p) × (l ≡ s.boundary + fetch)) ⊎ (mark s b ≡ Here l) → (d : ℕ) × (l ≤ idle_from next d)
        on b l (inl i) = (disk, omega (arith, new_idle, i.1))
        on b l (inr e) = let j = h.on_disk b l e in (j.0, let i = idle_cases j.0 in let m = j.1 in grind arith)

        carry : (d : ℕ) → s.boundary + 1 ≤ idle_from next d → ((idle_from next d ≡ s.boundary + fetch) × (idle_from s d ≤ s.boundary)) ⊎ (idle_from next d ≡ idle_from s d) →
            (b : ℕ) × (b < length homes) × (mark next b ≡ Here (idle_from next d))
        carry d m (inl i) = (p, k.known_in, subst (λ (n : ℕ). mark next p ≡ Here n) (sym i.0) new_in)
        carry d m (inr i) =
            let j = h.carries d (omega arith) in
            (j.0, j.1, subst (λ (n : ℕ). mark next j.0 ≡ Here n) (sym i) (here_old j.0 (idle_from s d) j.2 (omega arith)))

        req : (b l : ℕ) → s.boundary < l → ((b ≡ p) × (l ≡ s.boundary + fetch)) ⊎ (mark s b ≡ Here l) → Requested requests s.position b
        req b l m (inl i) = subst (λ (n : ℕ). Requested requests s.position n) (sym i.0) asked
        req b l m (inr e) = h.requested b l e m

  -- a step that waits
  pub sound_waits : (a : List Act) (s : State) → Sound side homes fetch requests o a (s.boundary + 1) s →
      Sound side homes fetch requests o (a ++ (Wait ∷ [])) (s.boundary + 1) (after side homes frames fetch requests 0 s Waits)
  unfolding after
  sound_waits a s h =
      record {
        tells_it = tells_waits side homes frames fetch requests 0 fit o a s.records s h.tells_it;
        keeps_it = sofar_act side homes fetch requests o a s.records Wait h.keeps_it (λ e. absurd (cc));
        asks = h.asks;
        some_here = h.some_here;
        on_disk = h.on_disk;
        carries = h.carries;
        gone_by = h.gone_by;
        soon = h.soon;
        requested = λ b l e m. h.requested b l e (omega arith);
        last = λ m. h.last (omega arith);
      }

  -- a step that serves
  pub sound_serves : (a : List Act) (s : State) → Sound side homes fetch requests o a (s.boundary + 1) s → s.position < length requests →
      is_here_at (mark s (get_or requests s.position 0)) s.boundary ≡ true →
      Sound side homes fetch requests o (a ++ (Serve ∷ [])) (s.boundary + 1) (after side homes frames fetch requests 0 s Serves)
  unfolding after
  sound_serves a s h left can =
      record {
        tells_it = tells_serves side homes frames fetch requests 0 fit o a s.records s h.tells_it;
        keeps_it = sofar_act side homes fetch requests o a s.records Serve h.keeps_it (λ e. served_now);
        asks = omega arith;
        some_here = h.some_here;
        on_disk = h.on_disk;
        carries = h.carries;
        gone_by = h.gone_by;
        soon = h.soon;
        requested = λ b l e m. still b l e (omega arith) (h.requested b l e (omega arith));
        last = λ m. h.last (omega arith);
      }
    where
      c : ℕ
      c = get_or requests s.position 0

      served_now : ResidentDuring fetch o s.records (get_or requests (served a) 0) (length a)
      served_now = subst (λ (n : ℕ). ResidentDuring fetch o s.records (get_or requests n 0) (length a)) h.tells_it.position
          (subst (λ (n : ℕ). ResidentDuring fetch o s.records (get_or requests s.position 0) n) h.tells_it.boundary
          (here_resident fetch o s.records s.boundary c (mark s c) h.tells_it.started (h.tells_it.marks c) can).2)

      -- a block in flight is not the one served
      still : (b l : ℕ) → mark s b ≡ Here l → s.boundary < l → Requested requests s.position b → Requested requests (s.position + 1) b
      still b l e m r = record { at = r.at; from = let i = r.from in let j = r.is in let k = can in grind (arith, nat_tests, cases_eq r.at s.position); within = r.within; is = r.is }
