-- The commands of a plan that keeps the model as far as it is read are all gone on from.
use Rattle.std.proofs.Common.{◌≡◌, ℕ, zero, suc, ◌+◌, ◌-◌, ◌<◌, ◌≤◌, true, false, ◌&&◌, eqb, ltb, leb, List, [], ◌∷◌, ◌++◌, length, get_or, take, sym, refl, ap, ◌∙◌, subst, arith}
use Rattle.std.specs.List.{flat_map}
use Rattle.std.proofs.lemmas.List.{append_assoc, length-append, length_push, take-append-le, take_at, get_or_append_left, get_or_push, flat_map_more}
use Rattle.std.proofs.lemmas.Bool.{false≢true, le-leb, lt-ltb, le-ltb, lt-leb, eq-eqb, and_right}
use Rattle.model.specs.Timetable.{Exchange, none, Act, Serve, Wait, Side, Plan, Lawful, ResidentDuring, wanted, served, occupies, Keeps}
use Rattle.model.specs.PlanBytes.{Command, Opens, Trades, Serves, Waits, Ends, command_bytes, plan_commands, plan_bytes, plan_limit, so_far}
use Rattle.model.specs.Verdict.{Outcome, State, Phase, Standing, Starting, Over, is_over, in_place, Known, size, Turn, run, onward, after, within_limit, begin, verdict, Away, tests_of, own_tests}
use Rattle.model.specs.Refusals.{KeepsSoFar}
use Rattle.model.specs.Statements.{Fit}
use Rattle.model.proofs.Counting.{count_append, count_none, served_append}
use Rattle.model.proofs.Marks.{resident_here}
use Rattle.model.proofs.Progress.{Tells, tells_begin, tells_opens, tells_trades, tells_serves, tells_waits, tells_ends, lawful_tests, each_front, each_last}
use Rattle.model.proofs.Reading.{AllPass, found_front, drop_front, length_front}
use Rattle.model.proofs.Turns.{goes_step, run_more}
use Rattle.model.proofs.Accepts.{filling}
use Rattle.model.proofs.Gather.{gather, extends, FormsTo, closed_to, gather_so_far, so_far_forms}
use Rattle.model.proofs.Writing.{so_far_ends}
use Rattle.model.proofs.Once.{keeps_form}
use Rattle.model.proofs.Refuses.{limit_passes, place_passes}

-- exchanges that start after a step change nothing for it
pub during_front : (fetch : ℕ) (o : List ℕ) (xs ys : List Exchange) (b t : ℕ) → ((j : ℕ) → j < length ys → t + 1 ≤ (get_or ys j none).start) → ResidentDuring fetch o (xs ++ ys) b t → ResidentDuring fetch o xs b t
during_front fetch o xs ys b t h r =
    let e = count_append (λ x. eqb x.brings b && leb (x.start + fetch) t) xs ys in
    let f = count_append (λ x. eqb x.sends b && ltb x.start (t + 1)) xs ys in
    let g = count_none (λ x. eqb x.brings b && leb (x.start + fetch) t) ys (λ j l. and_right (eqb (get_or ys j none).brings b) (leb ((get_or ys j none).start + fetch) t) (lt-leb ((get_or ys j none).start + fetch) t (omega (arith, h j l)))) in
    let i = count_none (λ x. eqb x.sends b && ltb x.start (t + 1)) ys (λ j l. and_right (eqb (get_or ys j none).sends b) (ltb (get_or ys j none).start (t + 1)) (le-ltb (get_or ys j none).start (t + 1) (h j l))) in
    omega arith

pub not_over : (ph : Phase) (c : Command) → in_place ph c ≡ true → is_over ph ≡ false
not_over ph c e = grind arith

-- a list with one more element is not empty
some_push : {X : Type 0} (xs : List X) (x : X) (m : List X) → (xs ++ (x ∷ [])) ++ m ≡ [] → ⊥
some_push xs x m e = omega (arith, length-append (xs ++ (x ∷ [])) m, length_push xs x, ap length e)

module _ (side : Side) (homes : List ℕ) (frames fetch : ℕ) (requests : List ℕ) (room : ℕ) (fit : Fit homes fetch) (total : ℕ) (rest : List ℕ) (short : plan_limit < total → total - length rest ≤ plan_limit) where
  abbrev Whole : Plan → Type 0
  Whole p = KeepsSoFar side homes frames fetch requests room p.opening p.acts p.exchanges

  -- the state after the commands of a plan so far
  pub record Arrived (p : Plan) (out : Outcome) : Type 0 where
    pub s : State
    pub n : ℕ
    pub tells_it : Tells side homes fetch p.opening p.acts p.exchanges s
    pub before_end : is_over s.phase ≡ false
    pub enough : length rest < n
    pub comes : out ≡ run side homes frames fetch requests room n total s rest

  limit_front : (c : Command) (more : List ℕ) → length (command_bytes c ++ more) ≤ total → length rest ≤ length more → within_limit total (total - length (command_bytes c ++ more)) (size c) ≡ true
  limit_front c more h l = limit_passes total (total - length (command_bytes c ++ more)) (size c) (λ i j. omega (arith, short i, length_front c more))

  run_on : (n : ℕ) (s : State) (c : Command) (more : List ℕ) → length (command_bytes c ++ more) ≤ total → length rest ≤ length more → in_place s.phase c ≡ true → AllPass (own_tests side homes frames fetch requests room s c) →
      run side homes frames fetch requests room (suc n) total s (command_bytes c ++ more) ≡ run side homes frames fetch requests room n total (after side homes frames fetch requests room s c) more
  run_on n s c more u v e h =
      let over = not_over s.phase c e in
      let pass : AllPass (tests_of side homes frames fetch requests room s total (command_bytes c ++ more) (Known c)) =
      (limit_front c more u v, (e, (le-leb (size c) (length (command_bytes c ++ more)) (omega (arith, length_front c more)), h))) in
      let g = goes_step side homes frames fetch requests room total s (command_bytes c ++ more) c over (found_front c more) pass in
      run_more side homes frames fetch requests room total n s (command_bytes c ++ more) over
      ∙ (ap (λ (v : Turn). onward (λ t more. run side homes frames fetch requests room n total t more) s v) g
      ∙ ap (λ (ys : List ℕ). run side homes frames fetch requests room n total (after side homes frames fetch requests room s c) ys) (drop_front c more))

  abbrev Arrives : List Command → List ℕ → List Act → List Exchange → State → Type 0
  Arrives cs o a xs s = (n : ℕ) → Tells side homes fetch o a xs s → FormsTo s.phase cs → Whole (gather o a xs cs) → length (flat_map command_bytes cs ++ rest) < n → length (flat_map command_bytes cs ++ rest) ≤ total →
      Arrived (gather o a xs cs) (run side homes frames fetch requests room n total s (flat_map command_bytes cs ++ rest))

  long : (cs : List Command) → length rest ≤ length (flat_map command_bytes cs ++ rest)
  long cs = omega (arith, length-append (flat_map command_bytes cs) rest)

  -- arrived from the next state, arrived from this one
  onto : (n : ℕ) (s : State) (c : Command) (cs : List Command) (p : Plan) → length (command_bytes c ++ (flat_map command_bytes cs ++ rest)) ≤ total → in_place s.phase c ≡ true → AllPass (own_tests side homes frames fetch requests room s c) →
      Arrived p (run side homes frames fetch requests room n total (after side homes frames fetch requests room s c) (flat_map command_bytes cs ++ rest)) → Arrived p (run side homes frames fetch requests room (suc n) total s (command_bytes c ++ (flat_map command_bytes cs ++ rest)))
  onto n s c cs p u e h r =
      record { s = r.s; n = r.n; tells_it = r.tells_it; before_end = r.before_end; enough = r.enough; comes = run_on n s c (flat_map command_bytes cs ++ rest) u (long cs) e h ∙ r.comes }

  arrives_opens : (b : ℕ) (cs : List Command) (o : List ℕ) (s : State) → Arrives cs (o ++ (b ∷ [])) [] [] (after side homes frames fetch requests room s (Opens b)) → Arrives (Opens b ∷ cs) o [] [] s
  unfolding after
  arrives_opens b cs o s more zero h f k l u = absurd (omega arith)
  arrives_opens b cs o s more (suc n) h f k l u =
      let e = extends cs (o ++ (b ∷ [])) [] [] in
      let plan : Plan = gather (o ++ (b ∷ [])) [] [] cs in
      let size_is : length plan.opening ≡ length (o ++ (b ∷ [])) + length e.more_opening = ap (λ (v : List ℕ). length v) e.opens ∙ length-append (o ++ (b ∷ [])) e.more_opening in
      let exist : (i : ℕ) → i < length ((o ++ (b ∷ [])) ++ e.more_opening) → get_or ((o ++ (b ∷ [])) ++ e.more_opening) i 0 < length homes =
      subst (λ (v : List ℕ). (i : ℕ) → i < length v → get_or v i 0 < length homes) e.opens k.exist in
      let rise : (i j : ℕ) → i < j → j < length ((o ++ (b ∷ [])) ++ e.more_opening) → get_or ((o ++ (b ∷ [])) ++ e.more_opening) i 0 < get_or ((o ++ (b ∷ [])) ++ e.more_opening) j 0 =
      subst (λ (v : List ℕ). (i j : ℕ) → i < j → j < length v → get_or v i 0 < get_or v j 0) e.opens k.rise in
      let known : b < length homes = each_last o b 0 (λ _ m. m < length homes) (each_front (o ++ (b ∷ [])) e.more_opening 0 (λ _ m. m < length homes) exist) in
      let low : s.floor ≤ b = h.floor_low b (above b e.more_opening rise) in
      onto n s (Opens b) cs plan u f.0
      (lt-ltb s.opened frames (omega (arith, h.opened, k.fits, size_is, length_push o b)), (le-leb s.floor b low, (lt-ltb b (length homes) known, tt)))
      (more n (tells_opens side homes frames fetch requests room fit o s b h low known) f.1 k (omega arith) (omega arith))
    where
      above : (b : ℕ) (m : List ℕ) → ((i j : ℕ) → i < j → j < length ((o ++ (b ∷ [])) ++ m) → get_or ((o ++ (b ∷ [])) ++ m) i 0 < get_or ((o ++ (b ∷ [])) ++ m) j 0) → (i : ℕ) → i < length o → get_or o i 0 < b
      above b m h i l =
          let p = length_push o b in
          let q = length-append (o ++ (b ∷ [])) m in
          let u : i < length (o ++ (b ∷ [])) = omega arith in
          let v : length o < length (o ++ (b ∷ [])) = omega arith in
          omega (arith, h i (length o) l (omega arith), get_or_append_left (o ++ (b ∷ [])) m 0 i u, get_or_append_left o (b ∷ []) 0 i l, get_or_append_left (o ++ (b ∷ [])) m 0 (length o) v, get_or_push o b 0 (length o) refl)

  lawful_at : (plan : Plan) (o : List ℕ) (xs : List Exchange) (x : Exchange) (ys : List Exchange) → plan.opening ≡ o → plan.exchanges ≡ (xs ++ (x ∷ [])) ++ ys → Whole plan → Lawful side homes fetch o xs x
  lawful_at plan o xs x ys e f k =
      let zs : List Exchange = (xs ++ (x ∷ [])) ++ ys in
      let p = length_push xs x in
      let q = length-append (xs ++ (x ∷ [])) ys in
      let here : length xs < length (xs ++ (x ∷ [])) = omega arith in
      let law : (i : ℕ) → i < length zs → Lawful side homes fetch o (take i zs) (get_or zs i none) =
      subst (λ (v : List Exchange). (i : ℕ) → i < length v → Lawful side homes fetch o (take i v) (get_or v i none)) f
      (subst (λ (v : List ℕ). (i : ℕ) → i < length plan.exchanges → Lawful side homes fetch v (take i plan.exchanges) (get_or plan.exchanges i none)) e k.lawful) in
      let t : take (length xs) zs ≡ xs = take-append-le (length xs) (xs ++ (x ∷ [])) ys (omega arith) ∙ take_at xs (x ∷ []) (length xs) refl in
      let g : get_or zs (length xs) none ≡ x = get_or_append_left (xs ++ (x ∷ [])) ys none (length xs) here ∙ get_or_push xs x none (length xs) refl in
      subst (λ (v : List Exchange). Lawful side homes fetch o v x) t (subst (λ (v : Exchange). Lawful side homes fetch o (take (length xs) zs) v) g (law (length xs) (omega arith)))

  arrives_trades : (p q : ℕ) (cs : List Command) (o : List ℕ) (a : List Act) (xs : List Exchange) (s : State) →
      Arrives cs o a (xs ++ (record { brings = p; sends = q; start = s.boundary } ∷ [])) (after side homes frames fetch requests room s (Trades p q)) → Arrives (Trades p q ∷ cs) o a xs s
  unfolding after
  arrives_trades p q cs o a xs s more zero h f k l u = absurd (omega arith)
  arrives_trades p q cs o a xs s more (suc n) h f k l u =
      let at : ℕ → Plan = λ t. gather o a (xs ++ (record { brings = p; sends = q; start = t } ∷ [])) cs in
      let x : Exchange = record { brings = p; sends = q; start = s.boundary } in
      let same : at (length a) ≡ at s.boundary = ap at (sym h.boundary) in
      let k' : Whole (at s.boundary) = subst (λ (v : Plan). Whole v) same k in
      let e = extends cs o a (xs ++ (x ∷ [])) in
      let c : (at s.boundary).opening ≡ o = closed_to cs Starting o a (xs ++ (x ∷ [])) refl f.1 in
      let law : Lawful side homes fetch o xs x = lawful_at (at s.boundary) o xs x e.more_exchanges c e.trades k' in
      let t = lawful_tests side homes frames fetch requests room fit o a xs s p q h law in
      let many : length (at s.boundary).exchanges ≡ length (xs ++ (x ∷ [])) + length e.more_exchanges = ap (λ (v : List Exchange). length v) e.trades ∙ length-append (xs ++ (x ∷ [])) e.more_exchanges in
      let held : length s.records ≡ length xs = ap (λ (v : List Exchange). length v) h.records in
      let full : s.opened ≡ frames = h.opened ∙ (sym (ap (λ (v : List ℕ). length v) c) ∙ k'.filled (λ i. some_push xs x e.more_exchanges (sym e.trades ∙ i.1))) in
      subst (λ (v : Plan). Arrived v (run side homes frames fetch requests room (suc n) total s (flat_map command_bytes (Trades p q ∷ cs) ++ rest))) (sym same)
      (onto n s (Trades p q) cs (at s.boundary) u f.0
      (eq-eqb s.opened frames full, (lt-ltb p (length homes) law.knows_in, (t.0, (lt-ltb q (length homes) law.knows_out, (t.1, (le-leb (get_or s.idle (occupies side homes x) 0) s.boundary t.2, (lt-ltb (length s.records) room (omega (arith, length_push xs x, k'.listed)), tt)))))))
      (more n (tells_trades side homes frames fetch requests room fit o a xs s p q h law.knows_in law.knows_out t.0 t.1) f.1 k' (omega arith) (omega arith)))

  left_to_serve : (a m : List Act) (position : ℕ) → position ≡ served a → served ((a ++ (Serve ∷ [])) ++ m) ≤ length requests → position < length requests
  unfolding served
  left_to_serve a m position i j = omega (arith, served_append (a ++ (Serve ∷ [])) m, served_append a (Serve ∷ []))

  during_at : (o : List ℕ) (xs : List Exchange) (a m : List Act) (ys : List Exchange) (plan : Plan) → plan.opening ≡ o → plan.acts ≡ (a ++ (Serve ∷ [])) ++ m → plan.exchanges ≡ xs ++ ys →
      ((j : ℕ) → j < length ys → length a + 1 ≤ (get_or ys j none).start) → Whole plan → ResidentDuring fetch o xs (get_or requests (served a) 0) (length a)
  during_at o xs a m ys plan c i j later k =
      let v : List Act = (a ++ (Serve ∷ [])) ++ m in
      let p = length_push a Serve in
      let q = length-append (a ++ (Serve ∷ [])) m in
      let here : length a < length (a ++ (Serve ∷ [])) = omega arith in
      let one : (t : ℕ) → t < length v → get_or v t Wait ≡ Serve → ResidentDuring fetch plan.opening plan.exchanges (wanted requests v t) t =
      subst (λ (w : List Act). (t : ℕ) → t < length w → get_or w t Wait ≡ Serve → ResidentDuring fetch plan.opening plan.exchanges (wanted requests w t) t) i k.serves in
      let g : get_or v (length a) Wait ≡ Serve = get_or_append_left (a ++ (Serve ∷ [])) m Wait (length a) here ∙ get_or_push a Serve Wait (length a) refl in
      let t : take (length a) v ≡ a = take-append-le (length a) (a ++ (Serve ∷ [])) m (omega arith) ∙ take_at a (Serve ∷ []) (length a) refl in
      let two : ResidentDuring fetch plan.opening plan.exchanges (get_or requests (served a) 0) (length a) =
      subst (λ (w : List Act). ResidentDuring fetch plan.opening plan.exchanges (get_or requests (served w) 0) (length a)) t (one (length a) (omega arith) g) in
      let three : ResidentDuring fetch o plan.exchanges (get_or requests (served a) 0) (length a) =
      subst (λ (w : List ℕ). ResidentDuring fetch w plan.exchanges (get_or requests (served a) 0) (length a)) c two in
      let four : ResidentDuring fetch o (xs ++ ys) (get_or requests (served a) 0) (length a) =
      subst (λ (w : List Exchange). ResidentDuring fetch o w (get_or requests (served a) 0) (length a)) j three in
      during_front fetch o xs ys (get_or requests (served a) 0) (length a) later four

  arrives_serves : (cs : List Command) (o : List ℕ) (a : List Act) (xs : List Exchange) (s : State) → Arrives cs o (a ++ (Serve ∷ [])) xs (after side homes frames fetch requests room s Serves) → Arrives (Serves ∷ cs) o a xs s
  unfolding after
  arrives_serves cs o a xs s more zero h f k l u = absurd (omega arith)
  arrives_serves cs o a xs s more (suc n) h f k l u =
      let plan : Plan = gather o (a ++ (Serve ∷ [])) xs cs in
      let e = extends cs o (a ++ (Serve ∷ [])) xs in
      let c : plan.opening ≡ o = closed_to cs Standing o (a ++ (Serve ∷ [])) xs refl f.1 in
      let full : s.opened ≡ frames = h.opened ∙ (sym (ap (λ (v : List ℕ). length v) c) ∙ k.filled (λ i. some_push a Serve e.more_acts (sym e.acts ∙ i.0))) in
      let asked : served ((a ++ (Serve ∷ [])) ++ e.more_acts) ≤ length requests = subst (λ (v : List Act). served v ≤ length requests) e.acts k.asked in
      let there : ResidentDuring fetch o xs (get_or requests (served a) 0) (length a) = during_at o xs a e.more_acts e.more_exchanges plan c e.acts e.trades (λ j m. omega (arith, e.later j m, length_push a Serve)) k in
      let here : ResidentDuring fetch o xs (get_or requests s.position 0) s.boundary =
      subst (λ (v : ℕ). ResidentDuring fetch o xs (get_or requests v 0) s.boundary) (sym h.position) (subst (λ (v : ℕ). ResidentDuring fetch o xs (get_or requests (served a) 0) v) (sym h.boundary) there) in
      onto n s Serves cs plan u f.0 (
        eq-eqb s.opened frames full,
        (
          lt-ltb s.position (length requests) (left_to_serve a e.more_acts s.position h.position asked),
          (resident_here fetch fit.lasts o xs s.boundary (get_or requests s.position 0) (get_or s.marks (get_or requests s.position 0) (Away 0)) h.started (h.marks (get_or requests s.position 0)) here, tt),
        ),
      )
      (more n (tells_serves side homes frames fetch requests room fit o a xs s h) f.1 k (omega arith) (omega arith))

  arrives_waits : (cs : List Command) (o : List ℕ) (a : List Act) (xs : List Exchange) (s : State) → Arrives cs o (a ++ (Wait ∷ [])) xs (after side homes frames fetch requests room s Waits) → Arrives (Waits ∷ cs) o a xs s
  unfolding after
  arrives_waits cs o a xs s more zero h f k l u = absurd (omega arith)
  arrives_waits cs o a xs s more (suc n) h f k l u =
      let plan : Plan = gather o (a ++ (Wait ∷ [])) xs cs in
      let e = extends cs o (a ++ (Wait ∷ [])) xs in
      let c : plan.opening ≡ o = closed_to cs Standing o (a ++ (Wait ∷ [])) xs refl f.1 in
      let full : s.opened ≡ frames = h.opened ∙ (sym (ap (λ (v : List ℕ). length v) c) ∙ k.filled (λ i. some_push a Wait e.more_acts (sym e.acts ∙ i.0))) in
      onto n s Waits cs plan u f.0 (eq-eqb s.opened frames full, tt)
      (more n (tells_waits side homes frames fetch requests room fit o a xs s h) f.1 k (omega arith) (omega arith))

  -- no command follows the end
  ends_nothing : {X : Type 0} (cs : List Command) → FormsTo Over cs → X
  ends_nothing [] f = absurd (false≢true (sym f))
  ends_nothing (c ∷ cs) f = absurd (false≢true f.0)

  arrives : (cs : List Command) (o : List ℕ) (a : List Act) (xs : List Exchange) (s : State) → Arrives cs o a xs s
  arrives [] o a xs s = λ n h f k l u. record { s = s; n = n; tells_it = h; before_end = f; enough = l; comes = refl }
  arrives (Opens b ∷ cs) o a xs s = λ n h f k l u.
      let e = filling s.phase b a xs f.0 h.phase in
      let one : Arrives (Opens b ∷ cs) o [] [] s = arrives_opens b cs o s (arrives cs (o ++ (b ∷ [])) [] [] (after side homes frames fetch requests room s (Opens b))) in
      let two : Arrives (Opens b ∷ cs) o [] xs s = subst (λ (ys : List Exchange). Arrives (Opens b ∷ cs) o [] ys s) (sym e.1) one in
      let three : Arrives (Opens b ∷ cs) o a xs s = subst (λ (v : List Act). Arrives (Opens b ∷ cs) o v xs s) (sym e.0) two in
      three n h f k l u
  arrives (Trades p q ∷ cs) o a xs s = arrives_trades p q cs o a xs s (arrives cs o a (xs ++ (record { brings = p; sends = q; start = s.boundary } ∷ [])) (after side homes frames fetch requests room s (Trades p q)))
  arrives (Serves ∷ cs) o a xs s = arrives_serves cs o a xs s (arrives cs o (a ++ (Serve ∷ [])) xs (after side homes frames fetch requests room s Serves))
  arrives (Waits ∷ cs) o a xs s = arrives_waits cs o a xs s (arrives cs o (a ++ (Wait ∷ [])) xs (after side homes frames fetch requests room s Waits))
  arrives (Ends ∷ cs) o a xs s = λ n h f k l u. ends_nothing cs f.1

-- The verdict on bytes that begin with a plan so far comes to the state after it.
module _ (side : Side) (homes : List ℕ) (frames fetch : ℕ) (requests : List ℕ) (room : ℕ) (fit : Fit homes fetch) (bytes : List ℕ) (o : List ℕ) (a : List Act) (xs : List Exchange) (rest : List ℕ) where
  pub verdict_arrives : KeepsSoFar side homes frames fetch requests room o a xs → bytes ≡ flat_map command_bytes (so_far o a xs) ++ rest → (short : plan_limit < length bytes → length bytes - length rest ≤ plan_limit) →
      Arrived side homes frames fetch requests room fit (length bytes) rest short (record { opening = o; acts = a; exchanges = xs }) (verdict side homes frames fetch requests room bytes)
  unfolding verdict
  verdict_arrives k e short =
      let plan : Plan = record { opening = o; acts = a; exchanges = xs } in
      let same : gather [] [] [] (so_far o a xs) ≡ plan = gather_so_far o a xs k.in_order k.started in
      let k' : KeepsSoFar side homes frames fetch requests room (gather [] [] [] (so_far o a xs)).opening (gather [] [] [] (so_far o a xs)).acts (gather [] [] [] (so_far o a xs)).exchanges =
      subst (λ (p : Plan). KeepsSoFar side homes frames fetch requests room p.opening p.acts p.exchanges) (sym same) k in
      let l : length (flat_map command_bytes (so_far o a xs) ++ rest) ≡ length bytes = sym (ap (λ (v : List ℕ). length v) e) in
      let there = arrives side homes frames fetch requests room fit (length bytes) rest short (so_far o a xs) [] [] [] begin (suc (length bytes)) (tells_begin side homes fetch) (so_far_forms o a xs) k' (omega arith) (omega arith) in
      subst (λ (v : List ℕ). Arrived side homes frames fetch requests room fit (length bytes) rest short plan (run side homes frames fetch requests room (suc (length bytes)) (length bytes) begin v)) (sym e)
      (subst (λ (p : Plan). Arrived side homes frames fetch requests room fit (length bytes) rest short p (run side homes frames fetch requests room (suc (length bytes)) (length bytes) begin (flat_map command_bytes (so_far o a xs) ++ rest))) same there)

-- The end of a plan that keeps the model: the state past it, and what is left.
pub record PastEnd (side : Side) (homes : List ℕ) (frames fetch : ℕ) (requests : List ℕ) (room total : ℕ) (plan : Plan) (rest : List ℕ) (out : Outcome) : Type 0 where
  pub s : State
  pub n : ℕ
  pub tells_it : Tells side homes fetch plan.opening plan.acts plan.exchanges s
  pub over : is_over s.phase ≡ true
  pub enough : length rest < n
  pub comes : out ≡ run side homes frames fetch requests room n total s rest

past_onto : (side : Side) (homes : List ℕ) (frames fetch : ℕ) (requests : List ℕ) (room total : ℕ) (plan : Plan) (rest : List ℕ) (out out' : Outcome) → out ≡ out' →
    PastEnd side homes frames fetch requests room total plan rest out' → PastEnd side homes frames fetch requests room total plan rest out
past_onto side homes frames fetch requests room total plan rest out out' e p = record { s = p.s; n = p.n; tells_it = p.tells_it; over = p.over; enough = p.enough; comes = e ∙ p.comes }

module _ (side : Side) (homes : List ℕ) (frames fetch : ℕ) (requests : List ℕ) (room : ℕ) (fit : Fit homes fetch) (bytes : List ℕ) (plan : Plan) (rest : List ℕ)
    (k : Keeps side homes frames fetch requests plan) (listed : length plan.exchanges ≤ room) (read : bytes ≡ plan_bytes plan ++ rest) (short : plan_limit < length bytes → length bytes - length rest ≤ plan_limit) where
  so_far_kept : KeepsSoFar side homes frames fetch requests room plan.opening plan.acts plan.exchanges
  so_far_kept =
      let form = keeps_form side homes frames fetch requests plan fit.lasts k in
      record {
        fits = omega (arith, k.fills);
        filled = λ _. k.fills;
        exist = k.exist;
        rise = k.rise;
        in_order = k.in_order;
        started = λ i l. omega (arith, form.before_step i l);
        lawful = k.lawful;
        serves = k.serves;
        asked = omega (arith, k.all_served);
        listed = listed;
      }

  before_end_read : bytes ≡ flat_map command_bytes (so_far plan.opening plan.acts plan.exchanges) ++ (69 ∷ rest)
  unfolding plan_bytes
  before_end_read =
      let cs : List Command = so_far plan.opening plan.acts plan.exchanges in
      let form = keeps_form side homes frames fetch requests plan fit.lasts k in
      let e : plan_commands plan ≡ cs ++ (Ends ∷ []) = so_far_ends plan.opening plan.acts plan.exchanges form.before_step in
      let f : flat_map command_bytes cs ++ (69 ∷ []) ≡ flat_map command_bytes (cs ++ (Ends ∷ [])) = flat_map_more command_bytes [] cs Ends in
      read ∙ (ap (λ (v : List ℕ). v ++ rest) (ap (λ (ds : List Command). flat_map command_bytes ds) e ∙ sym f) ∙ append_assoc (flat_map command_bytes cs) (69 ∷ []) rest)

  short_end : plan_limit < length bytes → length bytes - length (69 ∷ rest) ≤ plan_limit
  short_end l = let h = short l in omega arith

  at_end : (n : ℕ) (s : State) → Tells side homes fetch plan.opening plan.acts plan.exchanges s → is_over s.phase ≡ false → length (69 ∷ rest) < n → length (69 ∷ rest) ≤ length bytes →
      PastEnd side homes frames fetch requests room (length bytes) plan rest (run side homes frames fetch requests room n (length bytes) s (69 ∷ rest))
  unfolding after
  at_end zero s h over l m = absurd (omega arith)
  at_end (suc n) s h over l m =
      let form = keeps_form side homes frames fetch requests plan fit.lasts k in
      let full : s.opened ≡ frames = h.opened ∙ k.fills in
      record {
        s = after side homes frames fetch requests room s Ends;
        n = n;
        tells_it = tells_ends side homes frames fetch requests room fit plan.opening plan.acts plan.exchanges s h;
        over = refl;
        enough = omega arith;
        comes = run_on side homes frames fetch requests room fit (length bytes) rest short n s Ends rest m (omega arith) (place_passes s.phase plan.acts plan.exchanges over h.phase Ends form.before_step) (
          eq-eqb s.opened frames full,
          (
            eq-eqb s.position (length requests) (h.position ∙ k.all_served),
            (le-leb s.landing s.boundary (h.landing_low s.boundary (λ j m. omega (arith, k.all_land j m, h.boundary))), tt),
          ),
        );
      }

  pub verdict_ends : PastEnd side homes frames fetch requests room (length bytes) plan rest (verdict side homes frames fetch requests room bytes)
  verdict_ends =
      let r = verdict_arrives side homes frames fetch requests room fit bytes plan.opening plan.acts plan.exchanges (69 ∷ rest) so_far_kept before_end_read short_end in
      let pre : List ℕ = flat_map command_bytes (so_far plan.opening plan.acts plan.exchanges) in
      let total : length bytes ≡ length (pre ++ (69 ∷ rest)) = ap (λ (v : List ℕ). length v) before_end_read in
      let parts = length-append pre (69 ∷ rest) in
      past_onto side homes frames fetch requests room (length bytes) plan rest (verdict side homes frames fetch requests room bytes) (run side homes frames fetch requests room r.n (length bytes) r.s (69 ∷ rest)) r.comes
      (at_end r.n r.s r.tells_it r.before_end r.enough (omega arith))
