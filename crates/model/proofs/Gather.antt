-- A plan gathered from its commands.
use Rattle.std.proofs.Common.{◌≡◌, ℕ, zero, suc, ◌+◌, ◌<◌, ◌≤◌, Bool, true, false, cond, eqb, List, [], ◌∷◌, ◌++◌, map, length, get_or, sym, refl, ap, ◌∙◌, subst, add-zero, zero-add, arith, ◌-◌}
use Rattle.std.proofs.lemmas.List.{append_assoc, append-nil, length_push}
use Rattle.std.proofs.lemmas.Bool.{eqb-true, lt-ltb, le-ltb}
use Rattle.std.proofs.lemmas.Bool.Decides.{nat_tests}
use Rattle.std.proofs.lemmas.Grind.{get_or_head, get_or_tail}
use Rattle.model.specs.Timetable.{Exchange, none, Act, Serve, Wait, Plan}
use Rattle.model.specs.PlanBytes.{Command, Opens, Trades, Serves, Waits, Ends, act_command, trade_command, starting_at, step_commands, plan_commands, so_far}
use Rattle.model.specs.Verdict.{Phase, Filling, Standing, Starting, Over, is_over, in_place}
use Rattle.model.specs.Follows.{before}

abbrev pub gather : List ℕ → List Act → List Exchange → List Command → Plan
gather o a xs [] = record { opening = o; acts = a; exchanges = xs }
gather o a xs (Opens b ∷ cs) = gather (o ++ (b ∷ [])) a xs cs
gather o a xs (Trades p q ∷ cs) = gather o a (xs ++ (record { brings = p; sends = q; start = length a } ∷ [])) cs
gather o a xs (Serves ∷ cs) = gather o (a ++ (Serve ∷ [])) xs cs
gather o a xs (Waits ∷ cs) = gather o (a ++ (Wait ∷ [])) xs cs
gather o a xs (Ends ∷ cs) = gather o a xs cs

-- what is gathered goes on from what there was
pub record Extends (o : List ℕ) (a : List Act) (xs : List Exchange) (plan : Plan) : Type 0 where
  pub more_opening : List ℕ
  pub more_acts : List Act
  pub more_exchanges : List Exchange
  pub opens : plan.opening ≡ o ++ more_opening
  pub acts : plan.acts ≡ a ++ more_acts
  pub trades : plan.exchanges ≡ xs ++ more_exchanges
  pub later : (j : ℕ) → j < length more_exchanges → length a ≤ (get_or more_exchanges j none).start

extends_act : (o : List ℕ) (a : List Act) (xs : List Exchange) (act : Act) (plan : Plan) → Extends o (a ++ (act ∷ [])) xs plan → Extends o a xs plan
extends_act o a xs act plan e =
    record {
      more_opening = e.more_opening;
      more_acts = act ∷ e.more_acts;
      more_exchanges = e.more_exchanges;
      opens = e.opens;
      acts = e.acts ∙ append_assoc a (act ∷ []) e.more_acts;
      trades = e.trades;
      later = λ j l. omega (arith, e.later j l, length_push a act);
    }

pub extends : (cs : List Command) (o : List ℕ) (a : List Act) (xs : List Exchange) → Extends o a xs (gather o a xs cs)
extends [] o a xs =
    record { more_opening = []; more_acts = []; more_exchanges = []; opens = sym (append-nil o); acts = sym (append-nil a); trades = sym (append-nil xs); later = λ j l. absurd (omega arith) }
extends (Opens b ∷ cs) o a xs =
    let e = extends cs (o ++ (b ∷ [])) a xs in
    record { more_opening = b ∷ e.more_opening; more_acts = e.more_acts; more_exchanges = e.more_exchanges; opens = e.opens ∙ append_assoc o (b ∷ []) e.more_opening; acts = e.acts; trades = e.trades; later = e.later }
extends (Trades p q ∷ cs) o a xs =
    let x : Exchange = record { brings = p; sends = q; start = length a } in
    let e = extends cs o a (xs ++ (x ∷ [])) in
    record {
      more_opening = e.more_opening;
      more_acts = e.more_acts;
      more_exchanges = x ∷ e.more_exchanges;
      opens = e.opens;
      acts = e.acts;
      trades = e.trades ∙ append_assoc xs (x ∷ []) e.more_exchanges;
      later = λ j l. let k = e.later (j - 1) in grind (arith, get_or_head x e.more_exchanges j none, get_or_tail x e.more_exchanges j none);
    }
extends (Serves ∷ cs) o a xs = extends_act o a xs Serve (gather o (a ++ (Serve ∷ [])) xs cs) (extends cs o (a ++ (Serve ∷ [])) xs)
extends (Waits ∷ cs) o a xs = extends_act o a xs Wait (gather o (a ++ (Wait ∷ [])) xs cs) (extends cs o (a ++ (Wait ∷ [])) xs)
extends (Ends ∷ cs) o a xs = extends cs o a xs

-- the phase that a command leads to
abbrev pub next : Command → Phase
next (Opens b) = Filling
next (Trades p q) = Starting
next Serves = Standing
next Waits = Standing
next Ends = Over

-- past the opening, nothing is added to it
abbrev pub is_filling : Phase → Bool
is_filling Filling = true
is_filling Standing = false
is_filling Starting = false
is_filling Over = false

opens_only : {X : Type 0} (ph : Phase) (b : ℕ) → is_filling ph ≡ false → in_place ph (Opens b) ≡ true → X
opens_only ph b e h = absurd (grind arith)

-- The commands of a plan give the plan back.
gather_opens : (bs o : List ℕ) (a : List Act) (xs : List Exchange) (cs : List Command) → gather o a xs (map Opens bs ++ cs) ≡ gather (o ++ bs) a xs cs
gather_opens [] o a xs cs = rw (append-nil o)
gather_opens (b ∷ bs) o a xs cs = gather_opens bs (o ++ (b ∷ [])) a xs cs ∙ ap (λ (ps : List ℕ). gather ps a xs cs) (append_assoc o (b ∷ []) bs)

gather_trades : (ys : List Exchange) (o : List ℕ) (a : List Act) (xs : List Exchange) (cs : List Command) → ((j : ℕ) → j < length ys → (get_or ys j none).start ≡ length a) →
    gather o a xs (map trade_command ys ++ cs) ≡ gather o a (xs ++ ys) cs
gather_trades [] o a xs cs h = rw (append-nil xs)
gather_trades (y ∷ ys) o a xs cs h =
    let e : length a ≡ y.start = sym (h 0 (omega arith)) in
    ap (λ (t : ℕ). gather o a (xs ++ (record { brings = y.brings; sends = y.sends; start = t } ∷ [])) (map trade_command ys ++ cs)) e
    ∙ (gather_trades ys o a (xs ++ (y ∷ [])) cs (λ j l. h (suc j) (omega arith)) ∙ ap (λ (zs : List Exchange). gather o a zs cs) (append_assoc xs (y ∷ []) ys))

-- the exchanges that start before a boundary: none, or all
pub before_zero : (xs : List Exchange) → before 0 xs ≡ []
unfolding before
before_zero [] = refl
before_zero (x ∷ xs) = rw (le-ltb x.start 0 (omega arith)) (before_zero xs)

pub before_all : (t : ℕ) (xs : List Exchange) → ((j : ℕ) → j < length xs → (get_or xs j none).start < t) → before t xs ≡ xs
unfolding before
before_all t [] h = refl
before_all t (x ∷ xs) h = rw (lt-ltb x.start t (h 0 (omega arith))) (ap (λ (ys : List Exchange). x ∷ ys) (before_all t xs (λ j l. h (suc j) (omega arith))))

before_none : (t : ℕ) (xs : List Exchange) → ((j : ℕ) → j < length xs → t ≤ (get_or xs j none).start) → before t xs ≡ []
unfolding before
before_none t [] h = refl
before_none t (x ∷ xs) h = rw (le-ltb x.start t (h 0 (omega arith))) (before_none t xs (λ j l. h (suc j) (omega arith)))

abbrev pub Ordered : List Exchange → Type 0
Ordered xs = (i j : ℕ) → i < j → j < length xs → (get_or xs i none).start ≤ (get_or xs j none).start

before_more : (t : ℕ) (xs : List Exchange) → Ordered xs → before (t + 1) xs ≡ before t xs ++ starting_at t xs
unfolding before starting_at
before_more t [] h = refl
before_more t (x ∷ xs) h =
    let e = before_more t xs (λ i j k l. h (suc i) (suc j) (omega arith) (omega arith)) in
    let n = λ (i : x.start ≡ t). before_none t xs (λ j l. omega (arith, h 0 (suc j) (omega arith) (omega arith))) in
    grind (arith, nat_tests)

starting_starts : (t : ℕ) (xs : List Exchange) (j : ℕ) → j < length (starting_at t xs) → (get_or (starting_at t xs) j none).start ≡ t
unfolding starting_at
starting_starts t [] j l = absurd (omega arith)
starting_starts t (x ∷ xs) j l = go (eqb x.start t) refl (λ i k. starting_starts t xs i k) j l
  where
    go : (b : Bool) → eqb x.start t ≡ b → ((i : ℕ) → i < length (starting_at t xs) → (get_or (starting_at t xs) i none).start ≡ t) →
        (i : ℕ) → i < length (cond b (x ∷ starting_at t xs) (starting_at t xs)) → (get_or (cond b (x ∷ starting_at t xs) (starting_at t xs)) i none).start ≡ t
    go true e h zero k = eqb-true x.start t e
    go true e h (suc i) k = h i (omega arith)
    go false e h i k = h i k

gather_steps : (acts : List Act) (o : List ℕ) (a : List Act) (all : List Exchange) (cs : List Command) → Ordered all →
    gather o a (before (length a) all) (step_commands (length a) acts all ++ cs) ≡ gather o (a ++ acts) (before (length a + length acts) all) cs
unfolding step_commands
gather_steps [] o a all cs h = rw (append-nil a, add-zero (length a))
gather_steps (act ∷ acts) o a all cs h = go act (gather_steps acts o (a ++ (act ∷ [])) all cs h)
  where
    tail : Act → List Command
    tail b = step_commands (length a + 1) acts all ++ cs

    trades : (b : Act) → gather o a (before (length a) all) ((map trade_command (starting_at (length a) all) ++ (act_command b ∷ step_commands (length a + 1) acts all)) ++ cs)
        ≡ gather o a (before (length a + 1) all) (act_command b ∷ tail b)
    trades b = ap (λ (ds : List Command). gather o a (before (length a) all) ds) (append_assoc (map trade_command (starting_at (length a) all)) (act_command b ∷ step_commands (length a + 1) acts all) cs)
        ∙ (gather_trades (starting_at (length a) all) o a (before (length a) all) (act_command b ∷ tail b) (starting_starts (length a) all)
        ∙ ap (λ (ys : List Exchange). gather o a ys (act_command b ∷ tail b)) (sym (before_more (length a) all h)))

    onwards : (b : Act) → gather o (a ++ (b ∷ [])) (before (length (a ++ (b ∷ []))) all) (step_commands (length (a ++ (b ∷ []))) acts all ++ cs) ≡ gather o ((a ++ (b ∷ [])) ++ acts) (before (length (a ++ (b ∷ [])) + length acts) all) cs →
        gather o (a ++ (b ∷ [])) (before (length a + 1) all) (tail b) ≡ gather o (a ++ (b ∷ acts)) (before (length a + suc (length acts)) all) cs
    onwards b e =
        let n : length (a ++ (b ∷ [])) ≡ length a + 1 = length_push a b in
        let m : length (a ++ (b ∷ [])) + length acts ≡ length a + suc (length acts) = omega arith in
        let f = append_assoc a (b ∷ []) acts in
        subst (λ (k : ℕ). gather o (a ++ (b ∷ [])) (before k all) (step_commands k acts all ++ cs) ≡ gather o (a ++ (b ∷ acts)) (before (length a + suc (length acts)) all) cs) n
        (e ∙ (ap (λ (k : ℕ). gather o ((a ++ (b ∷ [])) ++ acts) (before k all) cs) m ∙ ap (λ (v : List Act). gather o v (before (length a + suc (length acts)) all) cs) f))

    go : (b : Act) → gather o (a ++ (b ∷ [])) (before (length (a ++ (b ∷ []))) all) (step_commands (length (a ++ (b ∷ []))) acts all ++ cs) ≡ gather o ((a ++ (b ∷ [])) ++ acts) (before (length (a ++ (b ∷ [])) + length acts) all) cs →
        gather o a (before (length a) all) ((map trade_command (starting_at (length a) all) ++ (act_command b ∷ step_commands (length a + 1) acts all)) ++ cs) ≡ gather o (a ++ (b ∷ acts)) (before (length a + suc (length acts)) all) cs
    go Serve e = trades Serve ∙ onwards Serve e
    go Wait e = trades Wait ∙ onwards Wait e

pub gather_plan : (plan : Plan) → Ordered plan.exchanges → ((i : ℕ) → i < length plan.exchanges → (get_or plan.exchanges i none).start < length plan.acts) →
    gather [] [] [] (plan_commands plan) ≡ plan
unfolding plan_commands
gather_plan plan h k =
    gather_opens plan.opening [] [] [] (step_commands 0 plan.acts plan.exchanges ++ (Ends ∷ []))
    ∙ (ap (λ (xs : List Exchange). gather plan.opening [] xs (step_commands 0 plan.acts plan.exchanges ++ (Ends ∷ []))) (sym (before_zero plan.exchanges))
    ∙ (gather_steps plan.acts plan.opening [] plan.exchanges (Ends ∷ []) h
    ∙ ap (λ (xs : List Exchange). gather plan.opening plan.acts xs (Ends ∷ [])) (ap (λ (t : ℕ). before t plan.exchanges) (zero-add (length plan.acts)) ∙ before_all (length plan.acts) plan.exchanges k)))

-- The commands of a plan as far as it is read: they give it back, and each is in place.
pub gather_so_far : (o : List ℕ) (a : List Act) (xs : List Exchange) → Ordered xs → ((i : ℕ) → i < length xs → (get_or xs i none).start ≤ length a) →
    gather [] [] [] (so_far o a xs) ≡ record { opening = o; acts = a; exchanges = xs }
unfolding so_far
gather_so_far o a xs h k =
    gather_opens o [] [] [] (step_commands 0 a xs ++ map trade_command (starting_at (length a) xs))
    ∙ (ap (λ (ys : List Exchange). gather o [] ys (step_commands 0 a xs ++ map trade_command (starting_at (length a) xs))) (sym (before_zero xs))
    ∙ (gather_steps a o [] xs (map trade_command (starting_at (length a) xs)) h
    ∙ (ap (λ (t : ℕ). gather o a (before t xs) (map trade_command (starting_at (length a) xs))) (zero-add (length a))
    ∙ (ap (λ (cs : List Command). gather o a (before (length a) xs) cs) (sym (append-nil (map trade_command (starting_at (length a) xs))))
    ∙ (gather_trades (starting_at (length a) xs) o a (before (length a) xs) [] (starting_starts (length a) xs)
    ∙ ap (λ (ys : List Exchange). gather o a ys []) (sym (before_more (length a) xs h) ∙ before_all (length a + 1) xs (λ j l. omega (arith, k j l))))))))

-- commands each in place, none of them the end
abbrev pub FormsTo : Phase → List Command → Type 0
FormsTo ph [] = is_over ph ≡ false
FormsTo ph (c ∷ cs) = (in_place ph c ≡ true) × FormsTo (next c) cs

pub closed_to : (cs : List Command) (ph : Phase) (o : List ℕ) (a : List Act) (xs : List Exchange) → is_filling ph ≡ false → FormsTo ph cs → (gather o a xs cs).opening ≡ o
closed_to [] ph o a xs e h = refl
closed_to (Opens b ∷ cs) ph o a xs e h = opens_only ph b e h.0
closed_to (Trades p q ∷ cs) ph o a xs e h = closed_to cs Starting o a (xs ++ (record { brings = p; sends = q; start = length a } ∷ [])) refl h.1
closed_to (Serves ∷ cs) ph o a xs e h = closed_to cs Standing o (a ++ (Serve ∷ [])) xs refl h.1
closed_to (Waits ∷ cs) ph o a xs e h = closed_to cs Standing o (a ++ (Wait ∷ [])) xs refl h.1
closed_to (Ends ∷ cs) ph o a xs e h = closed_to cs Over o a xs refl h.1

trades_in_place : (ph : Phase) (x : Exchange) → is_over ph ≡ false → in_place ph (trade_command x) ≡ true
trades_in_place ph x e = grind arith

act_in_place : (ph : Phase) (act : Act) → is_over ph ≡ false → in_place ph (act_command act) ≡ true
act_in_place ph act e = grind arith

trades_to : (ys : List Exchange) (ph : Phase) → is_over ph ≡ false → FormsTo ph (map trade_command ys)
trades_to [] ph e = e
trades_to (y ∷ ys) ph e = (trades_in_place ph y e, trades_to ys Starting refl)

act_to : (ys : List Exchange) (ph : Phase) (act : Act) (cs : List Command) → is_over ph ≡ false → FormsTo Standing cs → FormsTo ph (map trade_command ys ++ (act_command act ∷ cs))
act_to [] ph Serve cs e h = (act_in_place ph Serve e, h)
act_to [] ph Wait cs e h = (act_in_place ph Wait e, h)
act_to (y ∷ ys) ph act cs e h = (trades_in_place ph y e, act_to ys Starting act cs refl h)

steps_to : (acts : List Act) (t : ℕ) (ph : Phase) (xs ys : List Exchange) → is_over ph ≡ false → FormsTo ph (step_commands t acts xs ++ map trade_command ys)
unfolding step_commands
steps_to [] t ph xs ys e = trades_to ys ph e
steps_to (act ∷ acts) t ph xs ys e =
    subst (λ (cs : List Command). FormsTo ph cs) (sym (append_assoc (map trade_command (starting_at t xs)) (act_command act ∷ step_commands (t + 1) acts xs) (map trade_command ys)))
    (act_to (starting_at t xs) ph act (step_commands (t + 1) acts xs ++ map trade_command ys) e (steps_to acts (t + 1) Standing xs ys refl))

opens_to : (bs : List ℕ) (cs : List Command) → FormsTo Filling cs → FormsTo Filling (map Opens bs ++ cs)
opens_to [] cs h = h
opens_to (b ∷ bs) cs h = (refl, opens_to bs cs h)

pub so_far_forms : (o : List ℕ) (a : List Act) (xs : List Exchange) → FormsTo Filling (so_far o a xs)
unfolding so_far
so_far_forms o a xs = opens_to o (step_commands 0 a xs ++ map trade_command (starting_at (length a) xs)) (steps_to a 0 Filling xs (starting_at (length a) xs) refl)
