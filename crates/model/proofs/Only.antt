-- At most one plan follows a rule.
use Rattle.std.proofs.Common.{◌≡◌, ℕ, zero, suc, ◌+◌, ◌<◌, ◌≤◌, Bool, true, ◌&&◌, eqb, ltb, leb, ◌⊎◌, List, [], ◌∷◌, ◌++◌, length, get_or, take, sym, refl, ap, ◌∙◌, subst, inl, inr, add-one, arith}
use Rattle.std.proofs.lemmas.List.{take_more, take_all}
use Rattle.std.proofs.lemmas.Bool.{ltb-true, leb-true, cases_order, and_parts}
use Rattle.std.proofs.lemmas.Bool.Decides.{nat_tests}
use Rattle.model.specs.Timetable.{Exchange, Act, Serve, Wait, Side, Plan, count, home, landed, left, served, wanted, ResidentDuring}
use Rattle.model.specs.Rules.{Rule}
use Rattle.model.specs.Follows.{before, with_answers, Follows}
use Rattle.model.proofs.Gather.{before_zero, before_all}

-- a test that passes only before boundary u counts the same before it
count_before : (p : Exchange → Bool) (u : ℕ) → ((x : Exchange) → p x ≡ true → x.start < u) → (xs : List Exchange) → count p (before u xs) ≡ count p xs
unfolding count before
count_before p u h [] = refl
count_before p u h (x ∷ xs) = let e = count_before p u h xs in let k = h x in grind (arith, nat_tests)

-- what is resident during step t is told by the exchanges that start up to it
pub during_before : (fetch : ℕ) (o : List ℕ) (xs : List Exchange) (b t : ℕ) →
    (home o b + landed fetch (before (t + 1) xs) b t ≡ home o b + landed fetch xs b t) × (left (before (t + 1) xs) b (t + 1) ≡ left xs b (t + 1))
during_before fetch o xs b t = (
  ap (λ (n : ℕ). home o b + n) (count_before (λ x. eqb x.brings b && leb (x.start + fetch) t) (t + 1) (λ x e. omega (arith, leb-true (x.start + fetch) t (and_parts (eqb x.brings b) (leb (x.start + fetch) t) e).1)) xs),
  count_before (λ x. eqb x.sends b && ltb x.start (t + 1)) (t + 1) (λ x e. ltb-true x.start (t + 1) (and_parts (eqb x.sends b) (ltb x.start (t + 1)) e).1) xs,
)

pub during_up : (fetch : ℕ) (o : List ℕ) (xs : List Exchange) (b t : ℕ) → ResidentDuring fetch o (before (t + 1) xs) b t → ResidentDuring fetch o xs b t
during_up fetch o xs b t r = let e = during_before fetch o xs b t in omega (arith, e.0, e.1)

pub during_down : (fetch : ℕ) (o : List ℕ) (xs : List Exchange) (b t : ℕ) → ResidentDuring fetch o xs b t → ResidentDuring fetch o (before (t + 1) xs) b t
during_down fetch o xs b t r = let e = during_before fetch o xs b t in omega (arith, e.0, e.1)

module _ (side : Side) (homes : List ℕ) (frames fetch : ℕ) (requests o : List ℕ) (rule : Rule) (p q : Plan)
    (f : Follows side homes frames fetch requests o rule p) (g : Follows side homes frames fetch requests o rule q) where
  record Agree (t : ℕ) : Type 0 where
    acts : take t p.acts ≡ take t q.acts
    starts : before t p.exchanges ≡ before t q.exchanges

  same_act : (x y : Act) → (x ≡ Serve → y ≡ Serve) → (y ≡ Serve → x ≡ Serve) → x ≡ y
  same_act x y h k = grind arith

  agree : (t : ℕ) → t ≤ length p.acts → t ≤ length q.acts → Agree t
  agree zero i j = record { acts = refl; starts = before_zero p.exchanges ∙ sym (before_zero q.exchanges) }
  agree (suc t) i j = subst (λ (n : ℕ). Agree n) (add-one t) (go (agree t (omega arith) (omega arith)))
    where
      k : t < length p.acts
      k = omega arith

      l : t < length q.acts
      l = omega arith

      go : Agree t → Agree (t + 1)
      go h = record { acts = more; starts = same }
        where
          position : served (take t p.acts) ≡ served (take t q.acts)
          position = ap (λ (a : List Act). served a) h.acts

          same : before (t + 1) p.exchanges ≡ before (t + 1) q.exchanges
          same = f.starts_so t k ∙ (ap (λ (xs : List Exchange). with_answers side homes frames fetch requests o rule xs t (served (take t p.acts))) h.starts
              ∙ (ap (λ (n : ℕ). with_answers side homes frames fetch requests o rule (before t q.exchanges) t n) position ∙ sym (g.starts_so t l)))

          across : (x y : Plan) → before (t + 1) x.exchanges ≡ before (t + 1) y.exchanges → served (take t x.acts) ≡ served (take t y.acts) →
              ResidentDuring fetch o x.exchanges (wanted requests x.acts t) t → ResidentDuring fetch o y.exchanges (wanted requests y.acts t) t
          across x y e n r = during_up fetch o y.exchanges (wanted requests y.acts t) t
              (subst (λ (m : ℕ). ResidentDuring fetch o (before (t + 1) y.exchanges) (get_or requests m 0) t) n
              (subst (λ (xs : List Exchange). ResidentDuring fetch o xs (wanted requests x.acts t) t) e (during_down fetch o x.exchanges (wanted requests x.acts t) t r)))

          one : get_or p.acts t Wait ≡ get_or q.acts t Wait
          one = same_act (get_or p.acts t Wait) (get_or q.acts t Wait)
              (λ a. g.serves_if t l (across p q same position (f.serves_only t k a)))
              (λ b. f.serves_if t k (across q p (sym same) (sym position) (g.serves_only t l b)))

          more : take (t + 1) p.acts ≡ take (t + 1) q.acts
          more = take_more p.acts t Wait k ∙ (ap (λ (a : List Act). a ++ (get_or p.acts t Wait ∷ [])) h.acts
              ∙ (ap (λ (x : Act). take t q.acts ++ (x ∷ [])) one ∙ sym (take_more q.acts t Wait l)))

  -- one is not shorter than the other
  not_shorter : length p.acts < length q.acts → ⊥
  not_shorter l =
      let h = agree (length p.acts) (omega arith) (omega arith) in
      let e : take (length p.acts) q.acts ≡ p.acts = sym h.acts ∙ take_all (length p.acts) p.acts (omega arith) in
      omega (arith, g.goes_on (length p.acts) l, ap (λ (a : List Act). served a) e, f.ends_so)

  same_when : length p.acts ≡ length q.acts → p ≡ q
  same_when e =
      let h = agree (length p.acts) (omega arith) (omega arith) in
      let a : p.acts ≡ q.acts = sym (take_all (length p.acts) p.acts (omega arith)) ∙ (h.acts ∙ take_all (length p.acts) q.acts (omega arith)) in
      let xs : p.exchanges ≡ q.exchanges = sym (before_all (length p.acts) p.exchanges f.formed.before_step)
      ∙ (h.starts ∙ before_all (length p.acts) q.exchanges (λ j l. omega (arith, g.formed.before_step j l))) in
      let os : p.opening ≡ q.opening = f.opens_so ∙ sym g.opens_so in
      λ i. record { opening = os i; acts = a i; exchanges = xs i }

pub only_one : (side : Side) (homes : List ℕ) (frames fetch : ℕ) (requests o : List ℕ) (rule : Rule) (p q : Plan) →
    Follows side homes frames fetch requests o rule p → Follows side homes frames fetch requests o rule q → p ≡ q
only_one side homes frames fetch requests o rule p q f g = go (cases_order (length p.acts) (length q.acts))
  where
    go : (length p.acts ≡ length q.acts) ⊎ ((length p.acts < length q.acts) ⊎ (length q.acts < length p.acts)) → p ≡ q
    go (inl e) = same_when side homes frames fetch requests o rule p q f g e
    go (inr (inl l)) = absurd (not_shorter side homes frames fetch requests o rule p q f g l)
    go (inr (inr l)) = absurd (not_shorter side homes frames fetch requests o rule q p g f l)
