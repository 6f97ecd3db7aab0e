-- Pushes, one after the other. Assumes nothing.
use Rattle.std.proofs.Common.{◌≡◌, ℕ, ◌+◌, ◌-◌, ◌≤◌, List, drop, sym, ap, ◌∙◌, arith}
use Rattle.std.proofs.lemmas.List.{drop-drop}
use Rattle.records.specs.Pushed.{OnlyPushed}
use Rattle.records.specs.declared.list.List.{List as Listed}

-- what stands from a place on stands from each later place on
later_on : {T : Type 0} (k m : ℕ) (xs ys : List T) → k ≤ m → drop k xs ≡ drop k ys → drop m xs ≡ drop m ys
later_on k m xs ys l e =
    let d = m - k in
    let back : k + d ≡ m = omega arith in
    ap (λ (n : ℕ). drop n xs) (sym back) ∙ sym (drop-drop d k xs) ∙ ap (drop d) e ∙ drop-drop d k ys ∙ ap (λ (n : ℕ). drop n ys) back

pub pushed_on : {T : Type 0} (a b d : Listed T) → OnlyPushed a b → OnlyPushed b d → OnlyPushed a d
pushed_on a b d p q = record { room = q.room ∙ p.room; grows = omega (arith, p.grows, q.grows); later = q.later ∙ later_on b.len d.len b.slots.now a.slots.now q.grows p.later; lent = q.lent ∙ p.lent }
