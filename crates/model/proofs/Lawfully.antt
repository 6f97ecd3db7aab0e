-- Lawful to a rule and lawful in the model are one.
use Rattle.std.proofs.Common.{◌≡◌, ℕ, ◌+◌, ◌<◌, Bool, true, false, cond, not, ◌&&◌, eqb, List, length, get_or, take, sym, ◌∙◌, subst, arith}
use Rattle.std.proofs.lemmas.Bool.{eqb-true, eq-eqb, ne_eqb, lt-ltb}
use Rattle.std.proofs.lemmas.Bool.Decides.{nat_tests}
use Rattle.model.specs.Timetable.{Exchange, none, Act, Side, occupies, count, home, landed, brought, left, Lawful, Resident, Absent}
use Rattle.model.specs.Verdict.{most_disks}
use Rattle.model.specs.Statements.{Fit}
use Rattle.model.specs.Refusals.{KeepsSoFar}
use Rattle.model.specs.View.{Place, is_absent, is_resident, View, missing, may_go_out, lawful, is_free}
use Rattle.model.specs.Follows.{place_at, named_at, free_at, view_at}
use Rattle.model.specs.ViewLaws.{LawfulExact}
use Rattle.model.proofs.Marks.{Started, comings, goings, early_all, out_of, in_of, landed_brought, early_none, early_before}
use Rattle.model.proofs.Plainly.{early_front, landed_front}
use Rattle.model.proofs.Seeing.{each_at, disk_late}
use Rattle.model.proofs.Choosing.{four_all, lawful_parts}
use Rattle.model.proofs.Progress.{on_disks}
use Rattle.model.proofs.Agreeing.{carried, landed_on, all_landed}

-- two conditions on a place, in one
absent_not : (x y z : Bool) → (is_absent (cond x Place.Resident (cond y Place.Absent Place.InFlight)) && not z) ≡ true → (x ≡ false) × (y ≡ true) × (z ≡ false)
absent_not x y z e = (grind arith, grind arith, grind arith)

resident_not : (x y z : Bool) → (is_resident (cond x Place.Resident (cond y Place.Absent Place.InFlight)) && not z) ≡ true → (x ≡ true) × (z ≡ false)
resident_not x y z e = (grind arith, grind arith)

module _ (side : Side) (homes : List ℕ) (frames fetch : ℕ) (requests : List ℕ) (room : ℕ) (o : List ℕ) (a : List Act) (xs : List Exchange) (fit : Fit homes fetch)
    (keeps : KeepsSoFar side homes frames fetch requests room o a xs) (position : ℕ) where
  abbrev t : ℕ
  t = length a

  abbrev v : View
  v = view_at side homes frames fetch requests o xs t position

  started : Started xs t
  started = keeps.started

  -- not named by this boundary: all was brought in and sent out before
  not_named : (b : ℕ) → named_at xs t b ≡ false → (brought xs b t ≡ comings xs b) × (left xs b t ≡ goings xs b)
  not_named b e = let p = early_all in_of xs b t started in let q = early_all out_of xs b t started in (grind (arith, nat_tests), grind (arith, nat_tests))

  un_named : (b : ℕ) → brought xs b t ≡ comings xs b → left xs b t ≡ goings xs b → named_at xs t b ≡ false
  un_named b e f = let p = early_all in_of xs b t started in let q = early_all out_of xs b t started in grind (arith, nat_tests)

  -- an absent block was not sent out at this boundary, a resident one not brought in
  absent_stays : (b : ℕ) → Absent o xs b t → (j : ℕ) → j < length xs → (get_or xs j none).start ≡ t → (get_or xs j none).sends ≡ b → ⊥
  absent_stays b e j l i k =
      let r : Resident fetch o (take j xs) b t = subst (λ (c : ℕ). Resident fetch o (take j xs) c t) k (subst (λ (n : ℕ). Resident fetch o (take j xs) (get_or xs j none).sends n) i (keeps.lawful j l).goes.resident) in
      let p : landed fetch (take j xs) b t ≡ landed fetch xs b t = subst (λ (n : ℕ). landed fetch (take j xs) b n ≡ landed fetch xs b n) i (landed_front xs keeps.in_order j l fetch fit.lasts b) in
      let q : left (take j xs) b t ≡ left xs b t = subst (λ (n : ℕ). left (take j xs) b n ≡ left xs b n) i (early_front xs keeps.in_order j l out_of b) in
      omega (arith, landed_brought fetch fit.lasts xs b t)

  resident_stays : (b : ℕ) → Resident fetch o xs b t → (j : ℕ) → j < length xs → (get_or xs j none).start ≡ t → (get_or xs j none).brings ≡ b → ⊥
  resident_stays b e j l i k =
      let r : Absent o (take j xs) b t = subst (λ (c : ℕ). Absent o (take j xs) c t) k (subst (λ (n : ℕ). Absent o (take j xs) (get_or xs j none).brings n) i (keeps.lawful j l).comes) in
      let p : brought (take j xs) b t ≡ brought xs b t = subst (λ (n : ℕ). brought (take j xs) b n ≡ brought xs b n) i (early_front xs keeps.in_order j l in_of b) in
      let q : left (take j xs) b t ≡ left xs b t = subst (λ (n : ℕ). left (take j xs) b n ≡ left xs b n) i (early_front xs keeps.in_order j l out_of b) in
      omega (arith, landed_brought fetch fit.lasts xs b t)

  place_at_lem : (b : ℕ) → b < length homes → get_or v.places b Place.Absent ≡ place_at fetch o xs t b
  place_at_lem b l = each_at (place_at fetch o xs t) (length homes) b Place.Absent l

  named_at_lem : (b : ℕ) → b < length homes → get_or v.named b false ≡ named_at xs t b
  named_at_lem b l = each_at (named_at xs t) (length homes) b false l

  abbrev resident_test : ℕ → Bool
  resident_test b = eqb (home o b + landed fetch xs b t) (left xs b t + 1)

  abbrev absent_test : ℕ → Bool
  absent_test b = eqb (home o b + brought xs b t) (left xs b t)

  missing_is : (b : ℕ) → b < length homes → missing v b ≡ (is_absent (cond (resident_test b) Place.Resident (cond (absent_test b) Place.Absent Place.InFlight)) && not (named_at xs t b))
  missing_is b l = rw (place_at_lem b l, named_at_lem b l)

  out_is : (b : ℕ) → b < length homes → may_go_out v b ≡ (is_resident (cond (resident_test b) Place.Resident (cond (absent_test b) Place.Absent Place.InFlight)) && not (named_at xs t b))
  out_is b l = rw (lt-ltb b (length homes) l, place_at_lem b l, named_at_lem b l)

  free_is : (d : ℕ) → d < most_disks → is_free v d ≡ eqb (count (carried side homes fetch t d) xs) 0
  free_is d l = each_at (free_at side homes frames fetch requests o xs t) most_disks d false l

  said : (p q : ℕ) → lawful v p q ≡ true → Lawful side homes fetch o xs (record { brings = p; sends = q; start = t })
  said p q e =
      let k = lawful_parts v p q e in
      let x = absent_not (resident_test p) (absent_test p) (named_at xs t p) (sym (missing_is p k.known_in) ∙ k.comes) in
      let y = resident_not (resident_test q) (absent_test q) (named_at xs t q) (sym (out_is q k.known_out) ∙ k.goes) in
      let d : ℕ = occupies side homes (record { brings = p; sends = q; start = 0 }) in
      let free : count (carried side homes fetch t d) xs ≡ 0 = eqb-true (count (carried side homes fetch t d) xs) 0 (sym (free_is d (on_disks side homes fetch fit (record { brings = p; sends = q; start = 0 }) k.known_in k.known_out)) ∙ k.on_free) in
      record {
        knows_in = k.known_in;
        knows_out = k.known_out;
        comes = eqb-true (home o p + brought xs p t) (left xs p t) x.1;
        alone = early_none in_of xs p t (not_named p x.2).0;
        goes = record { resident = eqb-true (home o q + landed fetch xs q t) (left xs q t + 1) y.0; kept = early_none out_of xs q t (not_named q y.1).1 };
        disk_free = λ j l i. landed_on side homes fetch xs t d free j l (i ∙ disk_late side homes p q t 0);
      }

  meant : (p q : ℕ) → Lawful side homes fetch o xs (record { brings = p; sends = q; start = t }) → lawful v p q ≡ true
  meant p q k =
      let d : ℕ = occupies side homes (record { brings = p; sends = q; start = 0 }) in
      four_all _ _ _ _ (lt-ltb p (length homes) k.knows_in)
      (missing_is p k.knows_in ∙ come (resident_test p) (absent_test p) (named_at xs t p) (ne_eqb (home o p + landed fetch xs p t) (left xs p t + 1) not_here) (eq-eqb (home o p + brought xs p t) (left xs p t) k.comes)
      (un_named p (early_before in_of xs p t started k.alone) (early_before out_of xs p t started (absent_stays p k.comes))))
      (out_is q k.knows_out ∙ go (resident_test q) (absent_test q) (named_at xs t q) (eq-eqb (home o q + landed fetch xs q t) (left xs q t + 1) k.goes.resident)
      (un_named q (early_before in_of xs q t started (resident_stays q k.goes.resident)) (early_before out_of xs q t started k.goes.kept)))
      (free_is d (on_disks side homes fetch fit (record { brings = p; sends = q; start = 0 }) k.knows_in k.knows_out) ∙ eq-eqb (count (carried side homes fetch t d) xs) 0 (all_landed side homes fetch xs t d (λ j l i. k.disk_free j l (i ∙ disk_late side homes p q 0 t))))
    where
      not_here : home o p + landed fetch xs p t ≡ left xs p t + 1 → ⊥
      not_here e = omega (arith, k.comes, landed_brought fetch fit.lasts xs p t)

      come : (x y z : Bool) → x ≡ false → y ≡ true → z ≡ false → (is_absent (cond x Place.Resident (cond y Place.Absent Place.InFlight)) && not z) ≡ true
      come x y z e f g = rw (e, f, g)

      go : (x y z : Bool) → x ≡ true → z ≡ false → (is_resident (cond x Place.Resident (cond y Place.Absent Place.InFlight)) && not z) ≡ true
      go x y z e g = rw (e, g)

pub lawful_exact : LawfulExact
lawful_exact side homes frames fetch requests room o a xs fit keeps position p q =
    record { said = said side homes frames fetch requests room o a xs fit keeps position p q; meant = meant side homes frames fetch requests room o a xs fit keeps position p q }
