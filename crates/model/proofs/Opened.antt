-- The state of a pass after its opening.
use Rattle.std.proofs.Common.{◌≡◌, ℕ, ◌+◌, ◌<◌, ◌≤◌, ◌⊎◌, List, [], ◌∷◌, ◌++◌, length, get_or, set, sym, refl, subst, inr, arith}
use Rattle.std.proofs.lemmas.List.{append_assoc, append-nil, get_or-set_same, get_or-set_other}
use Rattle.std.proofs.lemmas.Bool.{cases_eq}
use Rattle.model.specs.Timetable.{Exchange, Side}
use Rattle.model.specs.PlanBytes.{Opens}
use Rattle.model.specs.Verdict.{Away, Here, State, begin, after, blank_marks, blank_idle, most_blocks, most_disks}
use Rattle.model.specs.Statements.{Fit}
use Rattle.model.specs.Pass.{opens}
use Rattle.model.proofs.Progress.{Tells, tells_begin, tells_opens, each_push, get_or_blank}
use Rattle.model.proofs.Accepts.{Sofar}
use Rattle.model.proofs.Picked.{Rising, rising_room, rising_from}
use Rattle.model.proofs.Seeing.{mark, idle_from}
use Rattle.model.proofs.Sound.{Sound}

module _ (side : Side) (homes : List ℕ) (frames fetch : ℕ) (requests : List ℕ) (fit : Fit homes fetch) where
  -- a state in its opening, with the blocks o listed so far
  record Filled (o : List ℕ) (s : State) : Type 0 where
    tells_it : Tells side homes fetch o [] [] s
    here_or : (b : ℕ) → (mark s b ≡ Here 0) ⊎ (mark s b ≡ Away 0)
    some : 0 < length o → (b : ℕ) × (b < length homes) × (mark s b ≡ Here 0)
    idle : (d : ℕ) → idle_from s d ≡ 0
    landing : s.landing ≡ 0
    boundary : s.boundary ≡ 0
    position : s.position ≡ 0
    records : s.records ≡ []

  filled_begin : Filled [] begin
  unfolding blank_marks blank_idle
  filled_begin = record {
    tells_it = tells_begin side homes fetch;
    here_or = λ b. inr (get_or_blank most_blocks b (Away 0));
    some = λ l. absurd (omega arith);
    idle = λ d. get_or_blank most_disks d 0;
    landing = refl;
    boundary = refl;
    position = refl;
    records = refl;
  }

  filled_opens : (o : List ℕ) (s : State) (b : ℕ) → Filled o s → s.floor ≤ b → b < length homes → Filled (o ++ (b ∷ [])) (after side homes frames fetch requests 0 s (Opens b))
  unfolding after
  filled_opens o s b h low known = record {
    tells_it = tells_opens side homes frames fetch requests 0 fit o s b h.tells_it low known;
    here_or = λ c. let k = h.here_or c in let i = get_or-set_other s.marks b c (Here 0) (Away 0) in grind (arith, here, cases_eq c b);
    some = λ l. (b, known, here);
    idle = h.idle;
    landing = h.landing;
    boundary = h.boundary;
    position = h.position;
    records = h.records;
  }
    where
      here : get_or (set s.marks b (Here 0)) b (Away 0) ≡ Here 0
      here = get_or-set_same s.marks b (Here 0) (Away 0) (omega (arith, h.tells_it.size_marks, fit.few))

  filled_all : (bs o : List ℕ) (s : State) (low : ℕ) → Filled o s → Rising low (length homes) bs → ((i : ℕ) → i < length o → get_or o i 0 < low) → Filled (o ++ bs) (opens side homes frames fetch requests bs s)
  unfolding opens
  filled_all [] o s low h r above = subst (λ (p : List ℕ). Filled p s) (sym (append-nil o)) h
  filled_all (b ∷ bs) o s low h r above =
      let room = rising_room (b + 1) (length homes) bs r.1 in
      subst (λ (p : List ℕ). Filled p (opens side homes frames fetch requests bs (after side homes frames fetch requests 0 s (Opens b)))) (append_assoc o (b ∷ []) bs)
      (filled_all bs (o ++ (b ∷ [])) (after side homes frames fetch requests 0 s (Opens b)) (b + 1)
      (filled_opens o s b h (h.tells_it.floor_low b (λ i l. omega (arith, above i l, r.0))) (omega arith))
      r.1
      (each_push o b 0 (λ _ n. n < b + 1) (λ i l. omega (arith, above i l, r.0)) (omega arith)))

  pub sound_opened : (o : List ℕ) → 0 < length o → ((i : ℕ) → i < length o → get_or o i 0 < length homes) → ((i j : ℕ) → i < j → j < length o → get_or o i 0 < get_or o j 0) →
      Sound side homes fetch requests o [] (opens side homes frames fetch requests o begin).boundary (opens side homes frames fetch requests o begin)
      × ((opens side homes frames fetch requests o begin).boundary ≡ 0) × ((opens side homes frames fetch requests o begin).position ≡ 0)
  sound_opened o nonempty exist rise = (
    record {
      tells_it = subst (λ (xs : List Exchange). Tells side homes fetch o [] xs s) (sym h.records) h.tells_it;
      keeps_it = subst (λ (xs : List Exchange). Sofar side homes fetch requests o [] xs) (sym h.records)
          (record { exist = exist; rise = rise; in_order = λ i j k l. absurd (omega arith); lawful = λ i l. absurd (omega arith); serves = λ t l. absurd (omega arith) });
      asks = omega (arith, h.position);
      some_here = let b = h.some nonempty in (b.0, 0, b.1, b.2);
      on_disk = λ b l e. (0, let k = h.here_or b in grind arith);
      carries = λ d m. let b = h.some nonempty in (b.0, b.1, subst (λ (n : ℕ). mark s b.0 ≡ Here n) (sym (h.idle d)) b.2);
      gone_by = λ b g e. let k = h.here_or b in grind arith;
      soon = λ d. omega (arith, h.idle d, fit.lasts);
      requested = λ b l e m. let k = h.here_or b in absurd (grind arith);
      last = λ m. absurd (omega (arith, h.landing));
    },
    h.boundary,
    h.position,
  )
    where
      s : State
      s = opens side homes frames fetch requests o begin

      h : Filled o s
      h = filled_all o [] begin 0 filled_begin (rising_from 0 (length homes) o (omega arith) (λ i l. omega arith) exist rise) (λ i l. absurd (omega arith))

  opens_records : (bs : List ℕ) (s : State) → (opens side homes frames fetch requests bs s).records ≡ s.records
  unfolding opens after
  opens_records [] s = refl
  opens_records (b ∷ bs) s = opens_records bs (after side homes frames fetch requests 0 s (Opens b))

  pub opened_records : (o : List ℕ) → (opens side homes frames fetch requests o begin).records ≡ []
  opened_records o = opens_records o begin
