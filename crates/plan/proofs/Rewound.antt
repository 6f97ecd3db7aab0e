-- A list read from its end. Assumes nothing.
use Rattle.std.proofs.Common.{◌≡◌, ℕ, ◌+◌, ◌-◌, ◌<◌, ◌≤◌, ◌⊎◌, List, [], ◌∷◌, ◌++◌, map, reverse, length, get_or, take, sym, refl, ap, ◌∙◌, subst, inl, inr, arith}
use Rattle.std.specs.List.{IsLastAndRest}
use Rattle.std.proofs.lemmas.List.{take-take, take_at, get_or-take, get_or_push, take_all}
use Rattle.std.proofs.lemmas.Bool.{cases_lt}
use Rattle.model.specs.Timetable.{none, Plan}
use Rattle.model.specs.Mirror.{reflected}
use Rattle.model.specs.PlanBytes.{so_far}
use Rattle.model.specs.declared.Command.{Command}
use Rattle.model.specs.declared.Command.TheVariants.{Trades}
use Rattle.model.proofs.MirrorWriting.{trade_more}
use Rattle.model.specs.declared.Exchange.{Exchange}
use Rattle.plan.specs.Rewinds.{Front, last_of, mirror_to}
use Rattle.plan.specs.Writers.{Said}
use Rattle.plan.specs.declared.writer.Writer.{Writer}

pub front_whole : {X : Type 0} (xs : List X) → Front xs xs
front_whole xs = record { long = omega arith; same = sym (take_all (length xs) xs (omega arith)) }

pub front_before : {X : Type 0} (xs ys r : List X) (x : X) → Front xs ys → IsLastAndRest xs x r → Front r ys
front_before xs ys r x f e =
    record {
      long = omega (arith, f.long, e.1);
      same = sym (take_at r (x ∷ []) (length r) refl) ∙ ap (take (length r)) (sym e.0 ∙ f.same) ∙ take-take (length r) (length xs) ys (omega (arith, e.1));
    }

pub front_last : (xs ys : List Exchange) → Front xs ys → 0 < length xs → last_of xs ≡ get_or ys (length xs - 1) none
front_last xs ys f l = ap (λ (zs : List Exchange). get_or zs (length xs - 1) none) f.same ∙ get_or-take (length xs) ys (length xs - 1) none (omega (arith, l))

-- what starts later than a step is left out
abbrev pub Later : ℕ → List Exchange → List Exchange → Type 0
Later step xs ys = (k : ℕ) → length ys ≤ k → k < length xs → step < (get_or xs k none).start

pub later_before : (step : ℕ) (xs ys r : List Exchange) → Front ys xs → Later step xs ys → IsLastAndRest ys (last_of ys) r → step < (last_of ys).start → Later step xs r
later_before step xs ys r f h e l k m i = go (cases_lt k (length ys))
  where
    start : k < length ys → (get_or xs k none).start ≡ (last_of ys).start
    start j =
        let n : length ys - 1 ≡ k = omega (arith, e.1) in
        sym (ap (λ (x : Exchange). x.start) (front_last ys xs f (omega arith)) ∙ ap (λ (u : ℕ). (get_or xs u none).start) n)

    go : (k < length ys) ⊎ (length ys ≤ k) → step < (get_or xs k none).start
    go (inl j) = omega (arith, start j)
    go (inr j) = h k j i

-- the last of a list that another begins with, in the other
at_last : (xs ys r : List Exchange) (x : Exchange) → Front xs ys → IsLastAndRest xs x r → get_or ys (length xs - 1) none ≡ x
at_last xs ys r x f e =
    let n : length xs - 1 ≡ length r = omega (arith, e.1) in
    sym (front_last xs ys f (omega (arith, e.1))) ∙ ap (λ (u : ℕ). get_or xs u none) n ∙ ap (λ (zs : List Exchange). get_or zs (length r) none) e.0 ∙ get_or_push r x none (length r) refl

-- an exchange more of a mirror
pub trade_on : (plan : Plan) (o area : List ℕ) (fetch t boundary : ℕ) (xs r : List Exchange) (x : Exchange) (c : Command) (w : Writer) → Front xs plan.exchanges → IsLastAndRest xs x r → x.start + fetch ≡ boundary →
    t + boundary ≡ length plan.acts → c ≡ Trades x.sends x.brings → Said (mirror_to o fetch plan t (length xs) ++ c ∷ []) area w → Said (mirror_to o fetch plan t (length r)) area w
trade_on plan o area fetch t boundary xs r x c w f e lands at is h =
    let X : ℕ = length plan.exchanges in
    let j : ℕ = length xs - 1 in
    let across : (X - length xs) + j + 1 ≡ X = omega (arith, f.long, e.1) in
    let same = at_last xs plan.exchanges r x f e in
    let start : (get_or plan.exchanges j none).start ≡ x.start = ap (λ (y : Exchange). y.start) same in
    let more = trade_more fetch plan o (X - length xs) j t across (omega (arith, start, lands, at)) in
    let n : X - length xs + 1 ≡ X - length r = omega (arith, f.long, e.1) in
    let told : Trades (get_or plan.exchanges j none).sends (get_or plan.exchanges j none).brings ≡ c = ap (λ (y : Exchange). Trades y.sends y.brings) same ∙ sym is in
    subst (λ (cs : List Command). Said cs area w)
    (ap (λ (d : Command). mirror_to o fetch plan t (length xs) ++ d ∷ []) (sym told) ∙ sym more ∙ ap (λ (i : ℕ). so_far o (take t (reverse plan.acts)) (take i (reverse (map (reflected (length plan.acts) fetch) plan.exchanges)))) n) h

-- what lands at a boundary, of a list and of its front
pub landed_before : (fetch boundary : ℕ) (xs ys r : List Exchange) (x : Exchange) → Front ys xs → IsLastAndRest ys x r → x.start + fetch ≡ boundary →
    ((k : ℕ) → length ys ≤ k → k < length xs → (get_or xs k none).start + fetch ≡ boundary) → (k : ℕ) → length r ≤ k → k < length xs → (get_or xs k none).start + fetch ≡ boundary
landed_before fetch boundary xs ys r x f e l h k m i = go (cases_lt k (length ys))
  where
    go : (k < length ys) ⊎ (length ys ≤ k) → (get_or xs k none).start + fetch ≡ boundary
    go (inl j) =
        let n : length ys - 1 ≡ k = omega (arith, e.1) in
        let same = ap (λ (y : Exchange). y.start) (ap (λ (u : ℕ). get_or xs u none) (sym n) ∙ at_last ys xs r x f e) in
        omega (arith, same, l)
    go (inr j) = h k j i

pub front_of_front : {X : Type 0} (xs ys zs : List X) → Front xs ys → Front ys zs → Front xs zs
front_of_front xs ys zs f g =
    record { long = omega (arith, f.long, g.long); same = f.same ∙ ap (take (length xs)) g.same ∙ take-take (length xs) (length ys) zs f.long }
