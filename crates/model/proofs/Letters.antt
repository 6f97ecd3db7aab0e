-- Where the letter of a step stands in the bytes of a plan, and how many bytes a plan has.
use Rattle.std.proofs.Common.{◌≡◌, ℕ, suc, ◌+◌, ◌*◌, ◌<◌, eqb, ltb, leb, List, [], ◌∷◌, ◌++◌, map, length, get_or, take, drop, sym, refl, ap, ◌∙◌, add-zero, arith}
use Rattle.std.specs.List.{flat_map}
use Rattle.std.proofs.lemmas.List.{append_assoc, length-append, length-take-le, take-append-drop, drop_more, get_or_at}
use Rattle.std.proofs.lemmas.Bool.{le-ltb, lt-ltb}
use Rattle.std.proofs.lemmas.List.Concat.{flat_map-append}
use Rattle.std.proofs.lemmas.Bool.Decides.{nat_tests}
use Rattle.model.specs.Timetable.{Exchange, none, bit, count, Act, Serve, Wait, Plan}
use Rattle.model.specs.PlanBytes.{Command, Opens, Ends, command_bytes, act_command, trade_command, starting_at, step_commands, plan_commands, plan_bytes}
use Rattle.model.specs.Layout.{letter, letter_at, PlanSize}
use Rattle.model.proofs.Counting.{count_none, count_split, count_each}
use Rattle.model.proofs.Writing.{steps_append}

length_opens : (bs : List ℕ) → length (flat_map command_bytes (map Opens bs)) ≡ 3 * length bs
length_opens [] = refl
length_opens (b ∷ bs) = let e = length_opens bs in omega arith

length_trades : (xs : List Exchange) → length (flat_map command_bytes (map trade_command xs)) ≡ 5 * length xs
length_trades [] = refl
length_trades (x ∷ xs) = let e = length_trades xs in omega arith

length_starting : (t : ℕ) (xs : List Exchange) → length (starting_at t xs) ≡ count (λ x. eqb x.start t) xs
unfolding starting_at count
length_starting t [] = refl
length_starting t (x ∷ xs) = let e = length_starting t xs in grind (arith, nat_tests)

-- counts of starts: before a boundary, at it, up to it
at_or_before : (s t : ℕ) → bit (ltb s t) + bit (eqb s t) ≡ bit (leb s t)
at_or_before s t = grind (arith, nat_tests)

before_next : (s t : ℕ) → bit (ltb s t) + bit (eqb s t) ≡ bit (ltb s (t + 1))
before_next s t = grind (arith, nat_tests)

abbrev starts_before : List Exchange → ℕ → ℕ
starts_before xs t = count (λ x. ltb x.start t) xs

length_steps : (acts : List Act) (t : ℕ) (xs : List Exchange) → length (flat_map command_bytes (step_commands t acts xs)) + 5 * starts_before xs t ≡ length acts + 5 * starts_before xs (t + length acts)
unfolding step_commands
length_steps [] t xs = rw (add-zero t) (omega arith)
length_steps (act ∷ acts) t xs =
    let rest : List Command = step_commands (t + 1) acts xs in
    let a : length (flat_map command_bytes (map trade_command (starting_at t xs) ++ (act_command act ∷ rest))) ≡ length (flat_map command_bytes (map trade_command (starting_at t xs)) ++ flat_map command_bytes (act_command act ∷ rest)) =
    ap (λ (bs : List ℕ). length bs) (flat_map-append command_bytes (map trade_command (starting_at t xs)) (act_command act ∷ rest)) in
    let b = length-append (flat_map command_bytes (map trade_command (starting_at t xs))) (flat_map command_bytes (act_command act ∷ rest)) in
    let c = length_trades (starting_at t xs) in
    let d = length_starting t xs in
    let e = one act rest in
    let f = count_split (λ x. ltb x.start t) (λ x. eqb x.start t) (λ x. ltb x.start (t + 1)) xs (λ j l. before_next (get_or xs j none).start t) in
    let g = length_steps acts (t + 1) xs in
    let n : t + suc (length acts) ≡ (t + 1) + length acts = omega arith in
    let h : starts_before xs (t + suc (length acts)) ≡ starts_before xs ((t + 1) + length acts) = ap (λ (k : ℕ). starts_before xs k) n in
    omega arith
  where
    one : (b : Act) (cs : List Command) → length (flat_map command_bytes (act_command b ∷ cs)) ≡ 1 + length (flat_map command_bytes cs)
    one Serve cs = omega arith
    one Wait cs = omega arith

-- The commands before the letter of step t, the letter and the rest.
module _ (plan : Plan) (t : ℕ) (l : t < length plan.acts) where
  front : List Command
  front = map Opens plan.opening ++ (step_commands 0 (take t plan.acts) plan.exchanges ++ map trade_command (starting_at t plan.exchanges))

  rest : List Command
  rest = step_commands (t + 1) (drop (t + 1) plan.acts) plan.exchanges ++ (Ends ∷ [])

  cut : plan_commands plan ≡ front ++ (act_command (get_or plan.acts t Wait) ∷ rest)
  unfolding plan_commands step_commands front rest
  cut =
      let xs : List Exchange = plan.exchanges in
      let act : Act = get_or plan.acts t Wait in
      let a : List Act = take t plan.acts in
      let b : List Act = drop (t + 1) plan.acts in
      let n : 0 + length a ≡ t = omega (arith, length-take-le t plan.acts (omega arith)) in
      let parts : plan.acts ≡ a ++ (act ∷ b) = sym (take-append-drop t plan.acts) ∙ ap (λ (c : List Act). a ++ c) (drop_more plan.acts t Wait l) in
      let steps : step_commands 0 plan.acts xs ≡ step_commands 0 a xs ++ step_commands t (act ∷ b) xs =
      ap (λ (c : List Act). step_commands 0 c xs) parts ∙ (steps_append a (act ∷ b) 0 xs ∙ ap (λ (k : ℕ). step_commands 0 a xs ++ step_commands k (act ∷ b) xs) n) in
      ap (λ (cs : List Command). map Opens plan.opening ++ (cs ++ (Ends ∷ []))) steps
      ∙ (simp append_assoc)

  length_before : length (flat_map command_bytes front) ≡ letter_at plan t
  unfolding front count
  length_before =
      let xs : List Exchange = plan.exchanges in
      let o : List Command = map Opens plan.opening in
      let a : List Command = step_commands 0 (take t plan.acts) xs in
      let b : List Command = map trade_command (starting_at t xs) in
      let n = length-take-le t plan.acts (omega arith) in
      let c : length (flat_map command_bytes (o ++ (a ++ b))) ≡ length (flat_map command_bytes o ++ flat_map command_bytes (a ++ b)) = ap (λ (bs : List ℕ). length bs) (flat_map-append command_bytes o (a ++ b)) in
      let d : length (flat_map command_bytes (a ++ b)) ≡ length (flat_map command_bytes a ++ flat_map command_bytes b) = ap (λ (bs : List ℕ). length bs) (flat_map-append command_bytes a b) in
      let e : starts_before xs (0 + length (take t plan.acts)) ≡ starts_before xs t = ap (λ (k : ℕ). starts_before xs k) up in
      let f : starts_before xs 0 ≡ 0 = count_none (λ x. ltb x.start 0) xs (λ j m. le-ltb (get_or xs j none).start 0 (omega arith)) in
      let g = count_split (λ x. ltb x.start t) (λ x. eqb x.start t) (λ x. leb x.start t) xs (λ j m. at_or_before (get_or xs j none).start t) in
      omega (arith, length-append (flat_map command_bytes o) (flat_map command_bytes (a ++ b)), length-append (flat_map command_bytes a) (flat_map command_bytes b), length_opens plan.opening, length_steps (take t plan.acts) 0 xs, length_trades (starting_at t xs), length_starting t xs)
    where
      up : 0 + length (take t plan.acts) ≡ t
      up = omega (arith, length-take-le t plan.acts (omega arith))

  pub step_letter : get_or (plan_bytes plan) (letter_at plan t) 0 ≡ letter (get_or plan.acts t Wait)
  unfolding plan_bytes
  step_letter =
      let act : Act = get_or plan.acts t Wait in
      let e : flat_map command_bytes (plan_commands plan) ≡ flat_map command_bytes front ++ (letter act ∷ flat_map command_bytes rest) =
      ap (λ (cs : List Command). flat_map command_bytes cs) cut ∙ (flat_map-append command_bytes front (act_command act ∷ rest) ∙ ap (λ (bs : List ℕ). flat_map command_bytes front ++ bs) (one act)) in
      ap (λ (bs : List ℕ). get_or bs (letter_at plan t) 0) e ∙ get_or_at (flat_map command_bytes front) (letter act) (flat_map command_bytes rest) 0 (letter_at plan t) length_before
    where
      one : (b : Act) → flat_map command_bytes (act_command b ∷ rest) ≡ letter b ∷ flat_map command_bytes rest
      one Serve = refl
      one Wait = refl

-- How many bytes a plan has.
pub plan_size : PlanSize
unfolding plan_bytes plan_commands
plan_size plan formed =
    let xs : List Exchange = plan.exchanges in
    let o : List Command = map Opens plan.opening in
    let s : List Command = step_commands 0 plan.acts xs in
    let a : length (flat_map command_bytes (o ++ (s ++ (Ends ∷ [])))) ≡ length (flat_map command_bytes o ++ flat_map command_bytes (s ++ (Ends ∷ []))) = ap (λ (bs : List ℕ). length bs) (flat_map-append command_bytes o (s ++ (Ends ∷ []))) in
    let b : length (flat_map command_bytes (s ++ (Ends ∷ []))) ≡ length (flat_map command_bytes s ++ (69 ∷ [])) = ap (λ (bs : List ℕ). length bs) (flat_map-append command_bytes s (Ends ∷ [])) in
    let c : starts_before xs 0 ≡ 0 = count_none (λ x. ltb x.start 0) xs (λ j l. le-ltb (get_or xs j none).start 0 (omega arith)) in
    let d : starts_before xs (0 + length plan.acts) ≡ length xs = count_each (λ x. ltb x.start (0 + length plan.acts)) xs (λ j l. lt-ltb (get_or xs j none).start (0 + length plan.acts) (omega (arith, formed.before_step j l))) in
    omega (arith, length-append (flat_map command_bytes o) (flat_map command_bytes (s ++ (Ends ∷ []))), length-append (flat_map command_bytes s) (69 ∷ []), length_opens plan.opening, length_steps plan.acts 0 xs)
