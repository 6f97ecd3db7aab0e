-- What is accepted is the bytes of a plan that keeps the model.
use Rattle.std.proofs.Common.{◌≡◌, ℕ, zero, suc, ◌+◌, ◌-◌, ◌<◌, ◌≤◌, true, false, ◌⊎◌, List, [], ◌∷◌, ◌++◌, length, get_or, take, drop, sym, refl, ap, ◌∙◌, subst, inl, inr, arith}
use Rattle.std.specs.List.{flat_map}
use Rattle.std.proofs.lemmas.List.{append_assoc, append-nil, length-append, length_push, length-drop, take-append-le, take_at, get_or_append_left, get_or-append-add, flat_map_more}
use Rattle.std.proofs.lemmas.Bool.Decides.{nat_tests}
use Rattle.std.proofs.lemmas.Bool.{false≢true, eqb-true, leb-true, ltb-true}
use Rattle.model.specs.Timetable.{Exchange, none, Act, Serve, Wait, Side, Plan, Keeps, Lawful, ResidentDuring, wanted, served, waited, occupies}
use Rattle.model.specs.PlanBytes.{Command, Opens, Trades, Serves, Waits, Ends, command_bytes, plan_bytes, plan_commands, plan_limit, so_far}
use Rattle.model.specs.Verdict.{Accepted, Outcome, Cause, State, Phase, Filling, Standing, Starting, Over, is_over, in_place, Known, size, Turn, Goes, Stops, step, run, onward, after, accepted, refused, within_limit, begin, verdict, Away, tests_of}
use Rattle.model.specs.Statements.{Fit, WrittenBy, plan_outcome}
use Rattle.model.proofs.Counting.{served_append}
use Rattle.model.proofs.Marks.{Started, here_resident, landed_late, early_late, out_of}
use Rattle.model.proofs.Progress.{PhaseIs, Tells, tells_begin, tells_opens, tells_trades, tells_serves, tells_waits, lawful_from, each_push}
use Rattle.model.proofs.Reading.{Bytes, AllPass, reads_back, size_some}
use Rattle.model.proofs.Writing.{so_far_none, so_far_opens, so_far_trades, so_far_act, so_far_ends}
use Rattle.model.proofs.Turns.{step_goes, run_more, over_accepts}
use Rattle.model.proofs.Comes.{Comes, comes_first, comes_on}

-- A plan read so far keeps the model as far as it goes.
pub record Sofar (side : Side) (homes : List ℕ) (fetch : ℕ) (requests : List ℕ) (o : List ℕ) (a : List Act) (xs : List Exchange) : Type 0 where
  pub exist : (i : ℕ) → i < length o → get_or o i 0 < length homes
  pub rise : (i j : ℕ) → i < j → j < length o → get_or o i 0 < get_or o j 0
  pub in_order : (i j : ℕ) → i < j → j < length xs → (get_or xs i none).start ≤ (get_or xs j none).start
  pub lawful : (i : ℕ) → i < length xs → Lawful side homes fetch o (take i xs) (get_or xs i none)
  pub serves : (t : ℕ) → t < length a → get_or a t Wait ≡ Serve → ResidentDuring fetch o xs (wanted requests a t) t

sofar_begin : (side : Side) (homes : List ℕ) (fetch : ℕ) (requests : List ℕ) → Sofar side homes fetch requests [] [] []
sofar_begin side homes fetch requests =
    record { exist = λ i l. absurd (omega arith); rise = λ i j k l. absurd (omega arith); in_order = λ i j k l. absurd (omega arith); lawful = λ i l. absurd (omega arith); serves = λ t l. absurd (omega arith) }

module _ (side : Side) (homes : List ℕ) (fetch : ℕ) (requests : List ℕ) where
  sofar_opens : (o : List ℕ) (b : ℕ) → Sofar side homes fetch requests o [] [] → b < length homes → ((i : ℕ) → i < length o → get_or o i 0 < b) →
      Sofar side homes fetch requests (o ++ (b ∷ [])) [] []
  sofar_opens o b h known above =
      record {
        exist = each_push o b 0 (λ _ n. n < length homes) h.exist known;
        rise = λ i j k l. each_push o b 0 (λ m n. (i : ℕ) → i < m → get_or (o ++ (b ∷ [])) i 0 < n) (λ m l' i' k'. old m l' i' k') (λ i' k'. new i' k') j l i k;
        in_order = λ i j k l. absurd (omega arith);
        lawful = λ i l. absurd (omega arith);
        serves = λ t l. absurd (omega arith);
      }
    where
      old : (m : ℕ) → m < length o → (i : ℕ) → i < m → get_or (o ++ (b ∷ [])) i 0 < get_or o m 0
      old m l i k = let l' : i < length o = omega arith in omega (arith, get_or_append_left o (b ∷ []) 0 i l', h.rise i m k l)

      new : (i : ℕ) → i < length o → get_or (o ++ (b ∷ [])) i 0 < b
      new i k = omega (arith, get_or_append_left o (b ∷ []) 0 i k, above i k)

  pub sofar_trades : (o : List ℕ) (a : List Act) (xs : List Exchange) (x : Exchange) → 0 < fetch → Sofar side homes fetch requests o a xs → x.start ≡ length a → Started xs x.start →
      Lawful side homes fetch o xs x → Sofar side homes fetch requests o a (xs ++ (x ∷ []))
  sofar_trades o a xs x f h e started law =
      record {
        exist = h.exist;
        rise = h.rise;
        in_order = λ i j k l. each_push xs x none (λ m y. (i : ℕ) → i < m → (get_or (xs ++ (x ∷ [])) i none).start ≤ y.start) old new j l i k;
        lawful = each_push xs x none (λ m y. Lawful side homes fetch o (take m (xs ++ (x ∷ []))) y) before after;
        serves = λ t l s. during (wanted requests a t) t l (h.serves t l s);
      }
    where
      old : (m : ℕ) → m < length xs → (i : ℕ) → i < m → (get_or (xs ++ (x ∷ [])) i none).start ≤ (get_or xs m none).start
      old m l i k = let l' : i < length xs = omega arith in omega (arith, ap (λ (y : Exchange). y.start) (get_or_append_left xs (x ∷ []) none i l'), h.in_order i m k l)

      new : (i : ℕ) → i < length xs → (get_or (xs ++ (x ∷ [])) i none).start ≤ x.start
      new i k = omega (arith, ap (λ (y : Exchange). y.start) (get_or_append_left xs (x ∷ []) none i k), started i k)

      before : (m : ℕ) → m < length xs → Lawful side homes fetch o (take m (xs ++ (x ∷ []))) (get_or xs m none)
      before m l = subst (λ (ys : List Exchange). Lawful side homes fetch o ys (get_or xs m none)) (sym (take-append-le m xs (x ∷ []) (omega arith))) (h.lawful m l)

      after : Lawful side homes fetch o (take (length xs) (xs ++ (x ∷ []))) x
      after = subst (λ (ys : List Exchange). Lawful side homes fetch o ys x) (sym (take_at xs (x ∷ []) (length xs) refl)) law

      during : (b t : ℕ) → t < length a → ResidentDuring fetch o xs b t → ResidentDuring fetch o (xs ++ (x ∷ [])) b t
      during b t l r = omega (arith, landed_late xs x b fetch t (omega arith), early_late out_of xs x b (t + 1) (omega arith))

  pub sofar_act : (o : List ℕ) (a : List Act) (xs : List Exchange) (act : Act) → Sofar side homes fetch requests o a xs →
      (act ≡ Serve → ResidentDuring fetch o xs (get_or requests (served a) 0) (length a)) → Sofar side homes fetch requests o (a ++ (act ∷ [])) xs
  sofar_act o a xs act h now =
      record {
        exist = h.exist;
        rise = h.rise;
        in_order = h.in_order;
        lawful = h.lawful;
        serves = each_push a act Wait (λ t v. v ≡ Serve → ResidentDuring fetch o xs (wanted requests (a ++ (act ∷ [])) t) t) before last;
      }
    where
      before : (t : ℕ) → t < length a → get_or a t Wait ≡ Serve → ResidentDuring fetch o xs (wanted requests (a ++ (act ∷ [])) t) t
      before t l e = subst (λ (b : List Act). ResidentDuring fetch o xs (get_or requests (served b) 0) t) (sym (take-append-le t a (act ∷ []) (omega arith))) (h.serves t l e)

      last : act ≡ Serve → ResidentDuring fetch o xs (wanted requests (a ++ (act ∷ [])) (length a)) (length a)
      last e = subst (λ (b : List Act). ResidentDuring fetch o xs (get_or requests (served b) 0) (length a)) (sym (take_at a (act ∷ []) (length a) refl)) (now e)

-- What a plan read so far counts: its opening, its requests, its list, its bytes.
pub record Counted (frames : ℕ) (requests : List ℕ) (room total : ℕ) (o : List ℕ) (a : List Act) (xs : List Exchange) (rest : List ℕ) : Type 0 where
  pub fits : length o ≤ frames
  pub filled : ((a ≡ []) × (xs ≡ []) → ⊥) → length o ≡ frames
  pub asked : served a ≤ length requests
  pub listed : length xs ≤ room
  pub within : plan_limit < total → total - length rest ≤ plan_limit

within_more : (total : ℕ) (rest : List ℕ) (n : ℕ) → within_limit total (total - length rest) n ≡ true → n ≤ length rest → length rest ≤ total → plan_limit < total → total - length (drop n rest) ≤ plan_limit
within_more total rest n h l m k = let e = length-drop n rest in grind (arith, nat_tests)

-- only an opening command is in place in the opening alone
pub filling : (ph : Phase) (b : ℕ) (a : List Act) (xs : List Exchange) → in_place ph (Opens b) ≡ true → PhaseIs ph a xs → (a ≡ []) × (xs ≡ [])
filling Filling b a xs e h = h
filling Standing b a xs e h = absurd (false≢true e)
filling Starting b a xs e h = absurd (false≢true e)
filling Over b a xs e h = absurd (false≢true e)

-- the end is in place where nothing has started
pub resting : (ph : Phase) (a : List Act) (xs : List Exchange) → in_place ph Ends ≡ true → PhaseIs ph a xs → (j : ℕ) → j < length xs → (get_or xs j none).start < length a
resting Filling a xs e h j l = absurd (omega (arith, ap (λ (ys : List Exchange). length ys) h.1))
resting Standing a xs e h j l = h.0 j l
resting Starting a xs e h j l = absurd (false≢true e)
resting Over a xs e h j l = absurd (false≢true e)

limit_kept : (total left : ℕ) → within_limit total (total - left) 1 ≡ true → left ≡ 1 → left ≤ total → total ≤ plan_limit
limit_kept total left h e l = grind (arith, nat_tests)

bytes_more : (bytes : List ℕ) (cs ds : List Command) (c : Command) (rest rest' : List ℕ) → bytes ≡ flat_map command_bytes cs ++ rest → rest ≡ command_bytes c ++ rest' → ds ≡ cs ++ (c ∷ []) →
    bytes ≡ flat_map command_bytes ds ++ rest'
bytes_more bytes cs ds c rest rest' e f g =
    let h : flat_map command_bytes cs ++ command_bytes c ≡ flat_map command_bytes (cs ++ (c ∷ [])) = flat_map_more command_bytes [] cs c in
    let i = append_assoc (flat_map command_bytes cs) (command_bytes c) rest' in
    cc

bytes_rest : (bytes pre rest : List ℕ) → Bytes bytes → bytes ≡ pre ++ rest → Bytes rest
bytes_rest bytes pre rest h e i l =
    let g = get_or-append-add pre rest i 0 in
    let k : get_or (pre ++ rest) (length pre + i) 0 < 256 = subst (λ (ys : List ℕ). Bytes ys) e h (length pre + i) (omega (arith, length-append pre rest)) in
    omega arith

pub accepts_as : (s : State) (o : List ℕ) (a : List Act) (xs : List Exchange) → s.boundary ≡ length a → s.waits ≡ waited a → s.records ≡ xs → accepted s ≡ plan_outcome (record { opening = o; acts = a; exchanges = xs })
accepts_as s o a xs e f g =
    let h : length s.records ≡ length xs = ap (λ (ys : List Exchange). length ys) g in
    λ i. record { answer = Accepted (e i) (f i) (h i); records = g i }

counted_begin : (frames : ℕ) (requests : List ℕ) (room : ℕ) (bytes : List ℕ) → Counted frames requests room (length bytes) [] [] [] bytes
unfolding served
counted_begin frames requests room bytes = record { fits = omega arith; filled = λ i. absurd (i (refl, refl)); asked = omega arith; listed = omega arith; within = λ l. omega arith }

-- Where reading ends, with outcome `out`: at a stop, or past the end of a plan.
pub record StoppedAt (side : Side) (homes : List ℕ) (frames fetch : ℕ) (requests : List ℕ) (room : ℕ) (bytes : List ℕ) (out : Outcome) : Type 0 where
  pub o : List ℕ
  pub a : List Act
  pub xs : List Exchange
  pub s : State
  pub rest : List ℕ
  pub cause : Cause
  pub place : ℕ
  pub tells_it : Tells side homes fetch o a xs s
  pub keeps_it : Sofar side homes fetch requests o a xs
  pub counts_it : Counted frames requests room (length bytes) o a xs rest
  pub not_over : is_over s.phase ≡ false
  pub read : bytes ≡ flat_map command_bytes (so_far o a xs) ++ rest
  pub stop : step side homes frames fetch requests room (length bytes) s rest ≡ Stops cause place
  pub said : out ≡ refused s cause place

pub record EndedAt (side : Side) (homes : List ℕ) (frames fetch : ℕ) (requests : List ℕ) (room : ℕ) (bytes : List ℕ) (out : Outcome) : Type 0 where
  pub o : List ℕ
  pub a : List Act
  pub xs : List Exchange
  pub s : State
  pub rest : List ℕ
  pub n : ℕ
  pub tells_it : Tells side homes fetch o a xs s
  pub keeps_it : Sofar side homes fetch requests o a xs
  pub counts_it : Counted frames requests room (length bytes) o a xs rest
  pub read : bytes ≡ flat_map command_bytes (so_far o a xs) ++ rest
  pub passed : AllPass (tests_of side homes frames fetch requests room s (length bytes) rest (Known Ends))
  pub front : rest ≡ command_bytes Ends ++ drop 1 rest
  pub enough : length (drop 1 rest) < n
  pub come : Comes side homes frames fetch requests room bytes (after side homes frames fetch requests room s Ends) (drop 1 rest)
  pub said : run side homes frames fetch requests room n (length bytes) (after side homes frames fetch requests room s Ends) (drop 1 rest) ≡ out

module _ (side : Side) (homes : List ℕ) (frames fetch : ℕ) (requests : List ℕ) (room : ℕ) (fit : Fit homes fetch) (bytes : List ℕ) (small : Bytes bytes)
    (out : Outcome) where
  abbrev Result : Type 0
  Result = StoppedAt side homes frames fetch requests room bytes out ⊎ EndedAt side homes frames fetch requests room bytes out

  -- read so far, and on from here
  abbrev Reads : ℕ → Type 0
  Reads n = (o : List ℕ) (a : List Act) (xs : List Exchange) (s : State) (rest : List ℕ) → Tells side homes fetch o a xs s → Sofar side homes fetch requests o a xs → Counted frames requests room (length bytes) o a xs rest → is_over s.phase ≡ false →
      bytes ≡ flat_map command_bytes (so_far o a xs) ++ rest → length rest < n → Comes side homes frames fetch requests room bytes s rest → run side homes frames fetch requests room n (length bytes) s rest ≡ out → Result

  by_command : (n : ℕ) → Reads n → (o : List ℕ) (a : List Act) (xs : List Exchange) (s : State) (rest : List ℕ) → Tells side homes fetch o a xs s → Sofar side homes fetch requests o a xs → Counted frames requests room (length bytes) o a xs rest → length rest ≤ length bytes →
      bytes ≡ flat_map command_bytes (so_far o a xs) ++ rest → (c : Command) → AllPass (tests_of side homes frames fetch requests room s (length bytes) rest (Known c)) → rest ≡ command_bytes c ++ drop (size c) rest → length (drop (size c) rest) < n →
      Comes side homes frames fetch requests room bytes (after side homes frames fetch requests room s c) (drop (size c) rest) → run side homes frames fetch requests room n (length bytes) (after side homes frames fetch requests room s c) (drop (size c) rest) ≡ out → Result
  unfolding after plan_bytes served
  by_command n more o a xs s rest h k t u b (Opens d) p f m i r =
      let e = filling s.phase d a xs p.1.0 h.phase in
      let h' : Tells side homes fetch o [] [] s = subst (λ (ys : List Exchange). Tells side homes fetch o [] ys s) e.1 (subst (λ (v : List Act). Tells side homes fetch o v xs s) e.0 h) in
      let k' : Sofar side homes fetch requests o [] [] = subst (λ (ys : List Exchange). Sofar side homes fetch requests o [] ys) e.1 (subst (λ (v : List Act). Sofar side homes fetch requests o v xs) e.0 k) in
      let b' : bytes ≡ flat_map command_bytes (so_far o [] []) ++ rest = subst (λ (ys : List Exchange). bytes ≡ flat_map command_bytes (so_far o [] ys) ++ rest) e.1 (subst (λ (v : List Act). bytes ≡ flat_map command_bytes (so_far o v xs) ++ rest) e.0 b) in
      let low : s.floor ≤ d = leb-true s.floor d p.1.1.1.1.0 in
      let known : d < length homes = ltb-true d (length homes) p.1.1.1.1.1.0 in
      more (o ++ (d ∷ [])) [] [] (after side homes frames fetch requests room s (Opens d)) (drop 3 rest)
      (tells_opens side homes frames fetch requests room fit o s d h' low known)
      (sofar_opens side homes fetch requests o d k' known (λ i l. omega (arith, h'.over_floor i l)))
      (record {
        fits = omega (arith, length_push o d, h.opened, ltb-true s.opened frames p.1.1.1.0);
        filled = λ i. absurd (i (refl, refl));
        asked = subst (λ (v : List Act). served v ≤ length requests) e.0 t.asked;
        listed = omega arith;
        within = within_more (length bytes) rest 3 p.0 (leb-true 3 (length rest) p.1.1.0) u;
      })
      refl
      (bytes_more bytes (so_far o [] []) (so_far (o ++ (d ∷ [])) [] []) (Opens d) rest (drop 3 rest) b' f (so_far_opens o d))
      m i r
  by_command n more o a xs s rest h k t u b (Trades d g) p f m i r =
      let x : Exchange = record { brings = d; sends = g; start = s.boundary } in
      let kp : d < length homes = ltb-true d (length homes) p.1.1.1.1.0 in
      let kq : g < length homes = ltb-true g (length homes) p.1.1.1.1.1.1.0 in
      let free : get_or s.idle (occupies side homes x) 0 ≤ s.boundary = leb-true (get_or s.idle (occupies side homes x) 0) s.boundary p.1.1.1.1.1.1.1.1.0 in
      more o a (xs ++ (x ∷ [])) (after side homes frames fetch requests room s (Trades d g)) (drop 5 rest)
      (tells_trades side homes frames fetch requests room fit o a xs s d g h kp kq p.1.1.1.1.1.0 p.1.1.1.1.1.1.1.0)
      (sofar_trades side homes fetch requests o a xs x fit.lasts k h.boundary h.started
      (lawful_from side homes frames fetch requests room fit o a xs s d g h kp kq p.1.1.1.1.1.0 p.1.1.1.1.1.1.1.0 free))
      (record {
        fits = t.fits;
        filled = λ _. sym h.opened ∙ eqb-true s.opened frames p.1.1.1.0;
        asked = t.asked;
        listed = omega (arith, length_push xs x, ap (λ (v : List Exchange). length v) h.records, ltb-true (length s.records) room p.1.1.1.1.1.1.1.1.1.0);
        within = within_more (length bytes) rest 5 p.0 (leb-true 5 (length rest) p.1.1.0) u;
      })
      refl
      (bytes_more bytes (so_far o a xs) (so_far o a (xs ++ (x ∷ []))) (Trades d g) rest (drop 5 rest) b f (so_far_trades o a xs x h.boundary))
      m i r
  by_command n more o a xs s rest h k t u b Serves p f m i r =
      let e = here_resident fetch o xs s.boundary (get_or requests s.position 0) (get_or s.marks (get_or requests s.position 0) (Away 0)) h.started (h.marks (get_or requests s.position 0)) p.1.1.1.1.1.0 in
      let g : ResidentDuring fetch o xs (get_or requests (served a) 0) (length a) =
      subst (λ (v : ℕ). ResidentDuring fetch o xs (get_or requests v 0) (length a)) h.position (subst (λ (v : ℕ). ResidentDuring fetch o xs (get_or requests s.position 0) v) h.boundary e.2) in
      more o (a ++ (Serve ∷ [])) xs (after side homes frames fetch requests room s Serves) (drop 1 rest)
      (tells_serves side homes frames fetch requests room fit o a xs s h)
      (sofar_act side homes fetch requests o a xs Serve k (λ _. g))
      (record {
        fits = t.fits;
        filled = λ _. sym h.opened ∙ eqb-true s.opened frames p.1.1.1.0;
        asked = omega (arith, served_append a (Serve ∷ []), h.position, ltb-true s.position (length requests) p.1.1.1.1.0);
        listed = t.listed;
        within = within_more (length bytes) rest 1 p.0 (leb-true 1 (length rest) p.1.1.0) u;
      })
      refl
      (bytes_more bytes (so_far o a xs) (so_far o (a ++ (Serve ∷ [])) xs) Serves rest (drop 1 rest) b f (so_far_act o a xs Serve (λ j l. omega (arith, h.started j l, h.boundary))))
      m i r
  by_command n more o a xs s rest h k t u b Waits p f m i r =
      more o (a ++ (Wait ∷ [])) xs (after side homes frames fetch requests room s Waits) (drop 1 rest)
      (tells_waits side homes frames fetch requests room fit o a xs s h)
      (sofar_act side homes fetch requests o a xs Wait k (λ e. absurd (cc)))
      (record {
        fits = t.fits;
        filled = λ _. sym h.opened ∙ eqb-true s.opened frames p.1.1.1.0;
        asked = omega (arith, served_append a (Wait ∷ []), t.asked);
        listed = t.listed;
        within = within_more (length bytes) rest 1 p.0 (leb-true 1 (length rest) p.1.1.0) u;
      })
      refl
      (bytes_more bytes (so_far o a xs) (so_far o (a ++ (Wait ∷ [])) xs) Waits rest (drop 1 rest) b f (so_far_act o a xs Wait (λ j l. omega (arith, h.started j l, h.boundary))))
      m i r
  by_command n more o a xs s rest h k t u b Ends p f m i r =
      inr (record { o = o; a = a; xs = xs; s = s; rest = rest; n = n; tells_it = h; keeps_it = k; counts_it = t; read = b; passed = p; front = f; enough = m; come = i; said = r })

  reads_step : (n : ℕ) → Reads n → Reads (suc n)
  reads_step n more o a xs s rest h k t over b m come e =
      by_turn (step side homes frames fetch requests room (length bytes) s rest) refl (sym (run_more side homes frames fetch requests room (length bytes) n s rest over) ∙ e)
    where
      by_turn : (v : Turn) → step side homes frames fetch requests room (length bytes) s rest ≡ v → onward (λ t more. run side homes frames fetch requests room n (length bytes) t more) s v ≡ out → Result
      by_turn (Stops cause place) i r =
          inl (record { o = o; a = a; xs = xs; s = s; rest = rest; cause = cause; place = place; tells_it = h; keeps_it = k; counts_it = t; not_over = over; read = b; stop = i; said = sym r })
      by_turn (Goes s' rest') i r =
          let w = step_goes side homes frames fetch requests room (length bytes) s rest s' rest' over i in
          let c : Command = w.0 in
          let l : size c ≤ length rest = leb-true (size c) (length rest) w.1.passes.1.1.0 in
          let back : rest ≡ command_bytes c ++ drop (size c) rest = reads_back rest c (bytes_rest bytes (flat_map command_bytes (so_far o a xs)) rest small b) w.1.finds l in
          let total : length bytes ≡ length (flat_map command_bytes (so_far o a xs)) + length rest = ap (λ (ys : List ℕ). length ys) b ∙ length-append (flat_map command_bytes (so_far o a xs)) rest in
          by_command n more o a xs s rest h k t (omega arith) b c w.1.passes back
          (omega (arith, length-drop (size c) rest, size_some c))
          (subst (λ (t : State). Comes side homes frames fetch requests room bytes t (drop (size c) rest)) w.1.state
          (subst (λ (ys : List ℕ). Comes side homes frames fetch requests room bytes s' ys) w.1.rests (comes_on side homes frames fetch requests room bytes s rest s' rest' come i)))
          (subst (λ (t : State). run side homes frames fetch requests room n (length bytes) t (drop (size c) rest) ≡ out) w.1.state
          (subst (λ (ys : List ℕ). run side homes frames fetch requests room n (length bytes) s' ys ≡ out) w.1.rests r))

  reads : (n : ℕ) → Reads n
  reads zero = λ o a xs s rest h k t over b m come e. absurd (omega arith)
  reads (suc n) = reads_step n (reads n)

  pub reads_bytes : verdict side homes frames fetch requests room bytes ≡ out → Result
  unfolding verdict
  reads_bytes e = reads (suc (length bytes)) [] [] [] begin bytes (tells_begin side homes fetch) (sofar_begin side homes fetch requests) (counted_begin frames requests room bytes) refl (sym (ap (λ (cs : List Command). flat_map command_bytes cs ++ bytes) so_far_none)) (omega arith) (comes_first side homes frames fetch requests room bytes) e

-- What is read to its end, with nothing or something left after it, keeps the model.
module _ (side : Side) (homes : List ℕ) (frames fetch : ℕ) (requests : List ℕ) (room : ℕ) (bytes : List ℕ) (out : Outcome) (e : EndedAt side homes frames fetch requests room bytes out) where
  abbrev pub ended_plan : Plan
  ended_plan = record { opening = e.o; acts = e.a; exchanges = e.xs }

  pub ended_keeps : Keeps side homes frames fetch requests ended_plan
  ended_keeps =
      let h = e.tells_it in
      let k = e.keeps_it in
      let p = e.passed in
      let landing : e.s.landing ≤ e.s.boundary = leb-true e.s.landing e.s.boundary p.1.1.1.1.1.0 in
      record {
        fills = sym h.opened ∙ eqb-true e.s.opened frames p.1.1.1.0;
        exist = k.exist;
        rise = k.rise;
        in_order = k.in_order;
        lawful = k.lawful;
        serves = k.serves;
        all_served = sym h.position ∙ eqb-true e.s.position (length requests) p.1.1.1.1.0;
        all_land = λ i l. omega (arith, h.landing_over i l, landing, h.boundary);
      }

  pub ended_read : bytes ≡ plan_bytes ended_plan ++ drop 1 e.rest
  unfolding plan_bytes
  ended_read = bytes_more bytes (so_far e.o e.a e.xs) (plan_commands ended_plan) Ends e.rest (drop 1 e.rest) e.read e.front
      (so_far_ends e.o e.a e.xs (resting e.s.phase e.a e.xs e.passed.1.0 e.tells_it.phase))

  pub ended_within : plan_limit < length bytes → length bytes - length (drop 1 e.rest) ≤ plan_limit
  ended_within =
      let total : length bytes ≡ length (flat_map command_bytes (so_far e.o e.a e.xs)) + length e.rest = ap (λ (ys : List ℕ). length ys) e.read ∙ length-append (flat_map command_bytes (so_far e.o e.a e.xs)) e.rest in
      within_more (length bytes) e.rest 1 e.passed.0 (leb-true 1 (length e.rest) e.passed.1.1.0) (omega arith)

  pub ended_accepted : (T W N : ℕ) → out.answer ≡ Accepted T W N → (plan : Plan) × WrittenBy side homes frames fetch requests bytes plan × (out ≡ plan_outcome plan)
  unfolding after
  ended_accepted T W N acc =
      let s' : State = after side homes frames fetch requests room e.s Ends in
      let v = over_accepts side homes frames fetch requests room (length bytes) e.n s' (drop 1 e.rest) T W N refl (ap (λ (u : Outcome). u.answer) e.said ∙ acc) in
      let written : bytes ≡ plan_bytes ended_plan = ended_read ∙ (ap (λ (ys : List ℕ). plan_bytes ended_plan ++ ys) v.0 ∙ append-nil (plan_bytes ended_plan)) in
      let one : length e.rest ≡ 1 = ap (λ (ys : List ℕ). length ys) e.front ∙ ap (λ (ys : List ℕ). suc (length ys)) v.0 in
      let total : length bytes ≡ length (flat_map command_bytes (so_far e.o e.a e.xs)) + length e.rest = ap (λ (ys : List ℕ). length ys) e.read ∙ length-append (flat_map command_bytes (so_far e.o e.a e.xs)) e.rest in (
        ended_plan,
        record { keeps = ended_keeps; written = written; within = limit_kept (length bytes) (length e.rest) e.passed.0 one (omega (arith, total)) },
        sym e.said ∙ (v.1 ∙ accepts_as s' e.o e.a e.xs e.tells_it.boundary e.tells_it.waits e.tells_it.records),
      )

pub accepted_plan : (side : Side) (homes : List ℕ) (frames fetch : ℕ) (requests : List ℕ) (room : ℕ) → Fit homes fetch → (bytes : List ℕ) → Bytes bytes → (out : Outcome) (T W N : ℕ) → out.answer ≡ Accepted T W N →
    verdict side homes frames fetch requests room bytes ≡ out → (plan : Plan) × WrittenBy side homes frames fetch requests bytes plan × (out ≡ plan_outcome plan)
accepted_plan side homes frames fetch requests room fit bytes small out T W N acc r = go (reads_bytes side homes frames fetch requests room fit bytes small out r)
  where
    go : StoppedAt side homes frames fetch requests room bytes out ⊎ EndedAt side homes frames fetch requests room bytes out → (plan : Plan) × WrittenBy side homes frames fetch requests bytes plan × (out ≡ plan_outcome plan)
    go (inl e) = let f = ap (λ (u : Outcome). u.answer) e.said in absurd (cc)
    go (inr e) = ended_accepted side homes frames fetch requests room bytes out e T W N acc
