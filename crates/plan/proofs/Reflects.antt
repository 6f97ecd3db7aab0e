-- What mirroring gives is exact, and mirrored again it is the first plan. Assumes nothing.
use Rattle.std.proofs.Common.{◌≡◌, ℕ, ◌<◌, ◌≤◌, leb, List, [], ◌∷◌, ◌++◌, length, get_or, take, drop, Ok, Err, sym, refl, ap, ◌∙◌, subst, arith}
use Rattle.std.proofs.lemmas.List.{take_all, append-nil, length-drop}
use Rattle.std.proofs.lemmas.Bool.{le-leb, lt-leb}
use Rattle.records.specs.Records.{written_over}
use Rattle.model.specs.Sheet.{Sheet, turned}
use Rattle.model.specs.Timetable.{Side, opposite, Plan, waited}
use Rattle.model.specs.PlanBytes.{plan_bytes}
use Rattle.model.specs.Statements.{Fit, plan_outcome}
use Rattle.model.specs.Verdict.{Accepted, Outcome}
use Rattle.model.specs.declared.Exchange.{Exchange}
use Rattle.model.proofs.Mirroring.{mirror_alike}
use Rattle.model.proofs.Sizes.{mirror_size, mirror_written}
use Rattle.model.proofs.Twice.{mirror_twice}
use Rattle.model.proofs.Written.{written_accepted}
use Rattle.sheet.specs.Sheets.{meant}
use Rattle.sheet.specs.declared.view.Sheet.{Sheet as Lent}
use Rattle.plan.specs.declared.counts.Counts.{Counts}
use Rattle.plan.specs.declared.mirror_fault.MirrorFault.TheVariants.{AreaTooShort}
use Rattle.plan.specs.Checks.{WrittenFor}
use Rattle.plan.specs.Mirrors.{mirror_of, image, granted_if, left_for, mirror_for, counts_of, MirrorsBack, MirrorsExactly}
use Rattle.plan.specs.Plans.{plan_in}
use Rattle.plan.specs.Steps.{verdict_for}
use Rattle.plan.specs.Writers.{filled}
use Rattle.plan.proofs.Ends.{plan_back}
use Rattle.plan.proofs.Exactness.{rack_fit, checks_exactly}

-- bytes in an area that is long enough, and in one that is not
filled_whole : (bytes area : List ℕ) → length bytes ≤ length area → filled bytes area ≡ written_over bytes area
filled_whole bytes area l = ap (λ (xs : List ℕ). xs ++ drop (length bytes) area) (take_all (length area) bytes l)

empty : {X : Type 0} (xs : List X) → length xs ≡ 0 → xs ≡ []
empty [] e = refl
empty (x ∷ xs) e = absurd (omega arith)

filled_part : (bytes area : List ℕ) → length area < length bytes → filled bytes area ≡ take (length area) bytes
filled_part bytes area l = ap (λ (xs : List ℕ). take (length area) bytes ++ xs) (empty (drop (length bytes) area) (omega (arith, length-drop (length bytes) area, l))) ∙ append-nil (take (length area) bytes)

module _ (side : Side) (sheet : Sheet) (fit : Fit sheet.rack.homes sheet.rack.fetch) (bytes : List ℕ) (plan : Plan) (w : WrittenFor side sheet bytes plan) where
  said : (room : ℕ) → length plan.exchanges ≤ room → verdict_for side sheet room bytes ≡ plan_outcome plan
  said room l = written_accepted side sheet.rack.homes sheet.rack.frames sheet.rack.fetch sheet.requests room bytes plan fit w l

  its_image : image sheet bytes ≡ plan_bytes (mirror_of sheet plan)
  its_image = ap (λ (p : Plan). plan_bytes (mirror_of sheet p)) (plan_back side sheet bytes plan fit.lasts w)

  -- the answer to accepted bytes, and what it leaves
  comes_to : (slots : List Exchange) (area : List ℕ) → length plan.exchanges ≤ length slots →
      mirror_for side sheet bytes slots area ≡ record { answer = granted_if (leb (length (plan_bytes (mirror_of sheet plan))) (length area)) (counts_of plan); slots = written_over plan.exchanges slots; area = filled (plan_bytes (mirror_of sheet plan)) area }
  comes_to slots area l =
      ap (left_for sheet bytes slots area) (said (length slots) l)
      ∙ ap (λ (bs : List ℕ). record { answer = granted_if (leb (length bs) (length area)) (counts_of plan); slots = written_over plan.exchanges slots; area = filled bs area }) its_image

  pub grants : (slots : List Exchange) (area : List ℕ) → length plan.exchanges ≤ length slots → length (plan_bytes (mirror_of sheet plan)) ≤ length area →
      mirror_for side sheet bytes slots area ≡ record { answer = Ok (counts_of plan); slots = written_over plan.exchanges slots; area = written_over (plan_bytes (mirror_of sheet plan)) area }
  grants slots area l m =
      let bs = plan_bytes (mirror_of sheet plan) in
      let fits = le-leb (length bs) (length area) m in
      let whole = filled_whole bs area m in
      comes_to slots area l ∙ (λ i. record { answer = granted_if (fits i) (counts_of plan); slots = written_over plan.exchanges slots; area = whole i })

  pub cuts : (slots : List Exchange) (area : List ℕ) → length plan.exchanges ≤ length slots → length area < length (plan_bytes (mirror_of sheet plan)) →
      mirror_for side sheet bytes slots area ≡ record { answer = Err AreaTooShort; slots = written_over plan.exchanges slots; area = take (length area) (plan_bytes (mirror_of sheet plan)) }
  cuts slots area l m =
      let bs = plan_bytes (mirror_of sheet plan) in
      let short = lt-leb (length bs) (length area) m in
      let part = filled_part bs area m in
      comes_to slots area l ∙ (λ i. record { answer = granted_if (short i) (counts_of plan); slots = written_over plan.exchanges slots; area = part i })

  -- its mirror, as bytes for the opposite side of the turned sheet
  pub reflected_for : WrittenFor (opposite side) (turned sheet) (plan_bytes (mirror_of sheet plan)) (mirror_of sheet plan)
  reflected_for = mirror_written side sheet.rack.homes sheet.rack.frames sheet.rack.fetch sheet.requests bytes plan fit.lasts w

  alike : counts_of (mirror_of sheet plan) ≡ counts_of plan
  alike = let a = mirror_alike (length sheet.rack.homes) sheet.rack.fetch plan in (λ i. record { steps = a.steps i; waits = a.waits i; exchanges = a.trades i })

module _ (side : Side) (sheet : Sheet) (fit : Fit sheet.rack.homes sheet.rack.fetch) (bytes : List ℕ) (small : (i : ℕ) → i < length bytes → get_or bytes i 0 < 256) (room : ℕ) (counts : Counts)
    (said : (verdict_for side sheet room bytes).answer ≡ Accepted counts.steps counts.waits counts.exchanges) where
  mirrors_back : MirrorsBack side sheet bytes counts
  mirrors_back =
      let r = (checks_exactly side sheet room bytes fit small).only counts.steps counts.waits counts.exchanges said in
      let p : Plan = r.0 in
      let same : p ≡ plan_in bytes = sym (plan_back side sheet bytes p fit.lasts r.1) in
      let w : WrittenFor side sheet bytes (plan_in bytes) = subst (WrittenFor side sheet bytes) same r.1 in
      let told : Accepted counts.steps counts.waits counts.exchanges ≡ (plan_outcome (plan_in bytes)).answer = sym said ∙ ap (λ (o : Outcome). o.answer) (r.2 ∙ ap plan_outcome same) in
      let steps : length (plan_in bytes).acts ≡ counts.steps = cc in
      let waits : waited (plan_in bytes).acts ≡ counts.waits = cc in
      let exchanges : length (plan_in bytes).exchanges ≡ counts.exchanges = cc in
      let counted : counts_of (plan_in bytes) ≡ counts = (λ i. record { steps = steps i; waits = waits i; exchanges = exchanges i }) in
      let other : Plan = mirror_of sheet (plan_in bytes) in
      let k = reflected_for side sheet fit bytes (plan_in bytes) w in
      let fewer : length other.exchanges ≡ counts.exchanges = ap (λ (c : Counts). c.exchanges) (alike side sheet fit bytes (plan_in bytes) w ∙ counted) in
      let twice : plan_bytes (mirror_of (turned sheet) other) ≡ bytes = ap plan_bytes (mirror_twice side sheet.rack.homes sheet.rack.frames sheet.rack.fetch sheet.requests (plan_in bytes) fit.lasts w.keeps) ∙ sym w.written in
      record {
        written = w;
        counted = counted;
        keeps = k;
        as_long = mirror_size side sheet.rack.homes sheet.rack.frames sheet.rack.fetch sheet.requests (plan_in bytes) fit.lasts w.keeps ∙ ap length (sym w.written);
        accepted = λ more l. written_accepted (opposite side) sheet.rack.homes sheet.rack.frames sheet.rack.fetch (turned sheet).requests more (image sheet bytes) other fit k (omega (arith, fewer, l))
            ∙ ap (λ (c : Counts). record { answer = Accepted c.steps c.waits c.exchanges; records = other.exchanges }) (alike side sheet fit bytes (plan_in bytes) w ∙ counted);
        back = λ slots area l m. grants (opposite side) (turned sheet) fit (image sheet bytes) other k slots area (omega (arith, fewer, l)) (omega (arith, ap length twice, m))
            ∙ (λ i. record { answer = Ok ((alike side sheet fit bytes (plan_in bytes) w ∙ counted) i); slots = written_over other.exchanges slots; area = written_over (twice i) area });
      }

pub mirrors_exactly : (side : Side) (sheet : Lent) (bytes : List ℕ) → ((i : ℕ) → i < length bytes → get_or bytes i 0 < 256) → MirrorsExactly side (meant sheet) bytes
mirrors_exactly side sheet bytes small =
    let fit = rack_fit sheet.rack.now in
    record {
      grants = λ plan slots area w l m. grants side (meant sheet) fit bytes plan w slots area l m;
      cuts = λ plan slots area w l m. cuts side (meant sheet) fit bytes plan w slots area l m;
      mirrors_back = λ room steps waits exchanges said. mirrors_back side (meant sheet) fit bytes small room (record { steps = steps; waits = waits; exchanges = exchanges }) said;
    }
