-- The commands of a plan as far as it is read, one command more at a time; and a plan gathered from its commands.
use Rattle.std.proofs.Common.{◌≡◌, ℕ, suc, ◌+◌, ◌<◌, ◌≤◌, List, [], ◌∷◌, ◌++◌, map, length, get_or, sym, refl, ap, ◌∙◌, subst, add-zero, zero-add, arith}
use Rattle.std.proofs.lemmas.List.{append_assoc, append-nil, map-append, length_push}
use Rattle.std.proofs.lemmas.Bool.{eq-eqb, ne_eqb}
use Rattle.std.proofs.lemmas.Bool.Decides.{nat_tests}
use Rattle.model.specs.Timetable.{Exchange, none, Act}
use Rattle.model.specs.PlanBytes.{Command, Opens, Ends, act_command, trade_command, starting_at, step_commands, plan_commands, so_far}

pub starting_append : (t : ℕ) (xs ys : List Exchange) → starting_at t (xs ++ ys) ≡ starting_at t xs ++ starting_at t ys
unfolding starting_at
starting_append t [] ys = refl
starting_append t (x ∷ xs) ys = let e = starting_append t xs ys in grind (arith, nat_tests)

pub starting_one : (t : ℕ) (x : Exchange) → x.start ≡ t → starting_at t (x ∷ []) ≡ x ∷ []
unfolding starting_at
starting_one t x e = rw (eq-eqb x.start t e)

pub starting_not : (t : ℕ) (x : Exchange) → (x.start ≡ t → ⊥) → starting_at t (x ∷ []) ≡ []
unfolding starting_at
starting_not t x e = rw (ne_eqb x.start t e)

pub starting_none : (t : ℕ) (xs : List Exchange) → ((j : ℕ) → j < length xs → (get_or xs j none).start ≡ t → ⊥) → starting_at t xs ≡ []
unfolding starting_at
starting_none t [] h = refl
starting_none t (x ∷ xs) h = rw (ne_eqb x.start t (h 0 (omega arith))) (starting_none t xs (λ j l. h (suc j) (omega arith)))

-- an exchange that starts after the steps adds nothing to them
pub steps_late : (t : ℕ) (a : List Act) (xs : List Exchange) (x : Exchange) → t + length a ≤ x.start → step_commands t a (xs ++ (x ∷ [])) ≡ step_commands t a xs
unfolding step_commands
steps_late t [] xs x h = refl
steps_late t (act ∷ a) xs x h =
    let e : starting_at t (xs ++ (x ∷ [])) ≡ starting_at t xs =
    starting_append t xs (x ∷ []) ∙ (ap (λ (ys : List Exchange). starting_at t xs ++ ys) (starting_not t x (λ (e : x.start ≡ t). omega arith)) ∙ append-nil (starting_at t xs)) in
    let f = steps_late (t + 1) a xs x (omega arith) in
    cc

-- the steps of one list of acts after those of another
pub steps_append : (a b : List Act) (t : ℕ) (xs : List Exchange) → step_commands t (a ++ b) xs ≡ step_commands t a xs ++ step_commands (t + length a) b xs
unfolding step_commands
steps_append [] b t xs = rw (add-zero t)
steps_append (act ∷ a) b t xs =
    let e = steps_append a b (t + 1) xs in
    let n : (t + 1) + length a ≡ t + suc (length a) = omega arith in
    let g : step_commands (t + 1) (a ++ b) xs ≡ step_commands (t + 1) a xs ++ step_commands (t + suc (length a)) b xs =
    subst (λ (k : ℕ). step_commands (t + 1) (a ++ b) xs ≡ step_commands (t + 1) a xs ++ step_commands k b xs) n e in
    let f = append_assoc (map trade_command (starting_at t xs)) (act_command act ∷ step_commands (t + 1) a xs) (step_commands (t + suc (length a)) b xs) in
    cc

-- one step more
steps_push : (t : ℕ) (a : List Act) (act : Act) (xs : List Exchange) →
    step_commands t (a ++ (act ∷ [])) xs ≡ step_commands t a xs ++ (map trade_command (starting_at (t + length a) xs) ++ (act_command act ∷ []))
unfolding step_commands
steps_push t a act xs = steps_append a (act ∷ []) t xs

pub so_far_none : so_far [] [] [] ≡ []
unfolding so_far step_commands starting_at
so_far_none = refl

pub so_far_opens : (o : List ℕ) (b : ℕ) → so_far (o ++ (b ∷ [])) [] [] ≡ so_far o [] [] ++ (Opens b ∷ [])
unfolding so_far step_commands starting_at
so_far_opens o b = append-nil (map Opens (o ++ (b ∷ []))) ∙ (map-append Opens o (b ∷ []) ∙ ap (λ (cs : List Command). cs ++ (Opens b ∷ [])) (sym (append-nil (map Opens o))))

pub so_far_trades : (o : List ℕ) (a : List Act) (xs : List Exchange) (x : Exchange) → x.start ≡ length a →
    so_far o a (xs ++ (x ∷ [])) ≡ so_far o a xs ++ (trade_command x ∷ [])
unfolding so_far
so_far_trades o a xs x e =
    let f = steps_late 0 a xs x (omega arith) in
    let g : starting_at (length a) (xs ++ (x ∷ [])) ≡ starting_at (length a) xs ++ (x ∷ []) =
    starting_append (length a) xs (x ∷ []) ∙ ap (λ (ys : List Exchange). starting_at (length a) xs ++ ys) (starting_one (length a) x e) in
    let h = map-append trade_command (starting_at (length a) xs) (x ∷ []) in
    let i = append_assoc (step_commands 0 a xs) (map trade_command (starting_at (length a) xs)) (trade_command x ∷ []) in
    let j = append_assoc (map Opens o) (step_commands 0 a xs ++ map trade_command (starting_at (length a) xs)) (trade_command x ∷ []) in
    cc

pub so_far_act : (o : List ℕ) (a : List Act) (xs : List Exchange) (act : Act) → ((j : ℕ) → j < length xs → (get_or xs j none).start ≤ length a) →
    so_far o (a ++ (act ∷ [])) xs ≡ so_far o a xs ++ (act_command act ∷ [])
unfolding so_far
so_far_act o a xs act s =
    let f = steps_push 0 a act xs in
    let n : 0 + length a ≡ length a = zero-add (length a) in
    let e : starting_at (length (a ++ (act ∷ []))) xs ≡ [] = starting_none (length (a ++ (act ∷ []))) xs (λ j l k. omega (arith, s j l, length_push a act)) in
    let h = append_assoc (step_commands 0 a xs) (map trade_command (starting_at (length a) xs)) (act_command act ∷ []) in
    let i = append_assoc (map Opens o) (step_commands 0 a xs ++ map trade_command (starting_at (length a) xs)) (act_command act ∷ []) in
    let j = append-nil (step_commands 0 (a ++ (act ∷ [])) xs) in
    cc

-- at a boundary where nothing has started, the end completes the plan
pub so_far_ends : (o : List ℕ) (a : List Act) (xs : List Exchange) → ((j : ℕ) → j < length xs → (get_or xs j none).start < length a) →
    plan_commands (record { opening = o; acts = a; exchanges = xs }) ≡ so_far o a xs ++ (Ends ∷ [])
unfolding so_far plan_commands
so_far_ends o a xs s =
    let e : starting_at (length a) xs ≡ [] = starting_none (length a) xs (λ j l k. omega (arith, s j l)) in
    let h = append_assoc (step_commands 0 a xs) (map trade_command (starting_at (length a) xs)) (Ends ∷ []) in
    let i = append_assoc (map Opens o) (step_commands 0 a xs ++ map trade_command (starting_at (length a) xs)) (Ends ∷ []) in
    cc
