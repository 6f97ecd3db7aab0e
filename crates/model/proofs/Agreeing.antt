-- What a rule sees of a state of the pass is what it sees of the plan so far, told by counting.
use Rattle.std.proofs.Common.{◌≡◌, ℕ, zero, suc, ◌+◌, ◌-◌, ◌<◌, ◌≤◌, Bool, false, ◌&&◌, eqb, ltb, leb, List, [], ◌∷◌, map, length, get_or, sym, refl, ap, ◌∙◌, arith}
use Rattle.std.proofs.lemmas.List.{get_or-map, length-map, ext_get_or}
use Rattle.std.proofs.lemmas.Bool.Decides.{nat_tests}
use Rattle.model.specs.Timetable.{Exchange, none, Act, Side, occupies, count}
use Rattle.model.specs.Verdict.{Mark, Away, Here, State, most_disks}
use Rattle.model.specs.Pass.{each, place_by, named_by, seen}
use Rattle.model.specs.Follows.{place_at, named_at, free_at, view_at}
use Rattle.model.proofs.Counting.{count_none}
use Rattle.model.proofs.Marks.{Started, MarkIs, HereFrom, early_all, out_of, in_of, landed_brought, early_some, AwayFrom}
use Rattle.model.proofs.Progress.{Tells}
use Rattle.model.proofs.Seeing.{mark, idle_from, each_at, each_length}
use Rattle.model.proofs.Steady.{landed_started}

each_same : {X : Type 0} (f g : ℕ → X) (n : ℕ) → ((b : ℕ) → b < n → f b ≡ g b) → each f n ≡ each g n
unfolding each
each_same f g zero h = refl
each_same f g (suc n) h = let e = each_same f g n (λ b l. h b (omega arith)) in let k = h n (omega arith) in cc

module _ (fetch : ℕ) (lasts : 0 < fetch) (o : List ℕ) (xs : List Exchange) (t b : ℕ) (started : Started xs t) where
  -- a block that is away, and one that is here or is to land
  place_away : (g : ℕ) → AwayFrom fetch o xs t b g → place_by fetch t (Away g) ≡ place_at fetch o xs t b
  place_away g h = let out = h.out in let came = h.came in let gone = h.gone in let going = h.going in let down = h.down t (omega arith) in grind (arith, nat_tests)

  place_here : (l : ℕ) → HereFrom fetch o xs t b l → l ≤ t + fetch → place_by fetch t (Here l) ≡ place_at fetch o xs t b
  place_here l h top =
      let u : ℕ = t + fetch - 1 in
      let eve = landed_started fetch xs b t u (omega arith) in
      let one = h.one in let stays = h.stays in
      let lands = h.lands t (omega arith) in let lands_next = h.lands u (omega arith) in
      let flies = h.flies t (omega arith) in let flies_next = h.flies u (omega arith) in
      grind (arith, nat_tests)

  named_away : (g : ℕ) → AwayFrom fetch o xs t b g → named_by fetch t (Away g) ≡ named_at xs t b
  named_away g h =
      let ins = early_all in_of xs b t started in let outs = early_all out_of xs b t started in
      let came = h.came in let gone = h.gone in let going = h.going in
      grind (arith, nat_tests)

  named_here : (l : ℕ) → HereFrom fetch o xs t b l → l ≤ t + fetch → named_by fetch t (Here l) ≡ named_at xs t b
  named_here l h top =
      let u : ℕ = t + fetch - 1 in
      let eve = landed_started fetch xs b t u (omega arith) in
      let ins = early_all in_of xs b t started in let outs = early_all out_of xs b t started in
      let least = landed_brought fetch lasts xs b t in let most = early_some in_of xs b t in
      let one = h.one in let stays = h.stays in
      let lands = h.lands t (omega arith) in let lands_next = h.lands u (omega arith) in let flies_next = h.flies u (omega arith) in
      grind (arith, nat_tests)

  place_same : (m : Mark) → MarkIs fetch o xs t b m → ((l : ℕ) → m ≡ Here l → l ≤ t + fetch) → place_by fetch t m ≡ place_at fetch o xs t b
  place_same (Away g) h top = place_away g h
  place_same (Here l) h top = place_here l h (top l refl)

  named_same : (m : Mark) → MarkIs fetch o xs t b m → ((l : ℕ) → m ≡ Here l → l ≤ t + fetch) → named_by fetch t m ≡ named_at xs t b
  named_same (Away g) h top = named_away g h
  named_same (Here l) h top = named_here l h (top l refl)

pub count_zero : (p : Exchange → Bool) (xs : List Exchange) → count p xs ≡ 0 → (j : ℕ) → j < length xs → p (get_or xs j none) ≡ false
unfolding count
count_zero p [] e j l = absurd (omega arith)
count_zero p (x ∷ xs) e zero l = grind arith
count_zero p (x ∷ xs) e (suc j) l = count_zero p xs (omega arith) j (omega arith)

-- An exchange that is under way on a disk at a boundary.
abbrev pub carried : Side → List ℕ → ℕ → ℕ → ℕ → Exchange → Bool
carried side homes fetch t d x = eqb (occupies side homes x) d && ltb t (x.start + fetch)

-- none is, exactly if all of that disk have landed
module _ (side : Side) (homes : List ℕ) (fetch : ℕ) (xs : List Exchange) (t d : ℕ) where
  pub landed_on : count (carried side homes fetch t d) xs ≡ 0 → (j : ℕ) → j < length xs → occupies side homes (get_or xs j none) ≡ d → (get_or xs j none).start + fetch ≤ t
  landed_on e j l i = let c = count_zero (carried side homes fetch t d) xs e j l in grind (arith, nat_tests)

  pub all_landed : ((j : ℕ) → j < length xs → occupies side homes (get_or xs j none) ≡ d → (get_or xs j none).start + fetch ≤ t) → count (carried side homes fetch t d) xs ≡ 0
  all_landed h = count_none (carried side homes fetch t d) xs (λ j l. let m = h j l in grind (arith, nat_tests))

module _ (side : Side) (homes : List ℕ) (frames fetch : ℕ) (requests : List ℕ) (lasts : 0 < fetch) (o : List ℕ) (a : List Act) (s : State)
    (h : Tells side homes fetch o a s.records s) where
  free_same : (d : ℕ) → leb (idle_from s d) s.boundary ≡ free_at side homes frames fetch requests o s.records s.boundary d
  free_same d =
      let none_late = landed_on side homes fetch s.records s.boundary d in
      let low = h.idle_low d s.boundary in
      let all = λ (m : idle_from s d ≤ s.boundary). all_landed side homes fetch s.records s.boundary d (λ j l i. omega (arith, h.idle_over j l, ap (λ (n : ℕ). idle_from s n) i)) in
      let free = λ (e : count (carried side homes fetch s.boundary d) s.records ≡ 0). low (none_late e) in
      grind (arith, nat_tests)

  frees_same : map (λ f. leb f s.boundary) s.idle ≡ each (free_at side homes frames fetch requests o s.records s.boundary) most_disks
  frees_same = ext_get_or false (map (λ f. leb f s.boundary) s.idle) (each (free_at side homes frames fetch requests o s.records s.boundary) most_disks)
      (length-map s.idle (λ f. leb f s.boundary) ∙ (h.size_idle ∙ sym (each_length (free_at side homes frames fetch requests o s.records s.boundary) most_disks)))
      (λ i l. at i (omega (arith, length-map s.idle (λ f. leb f s.boundary))))
    where
      at : (i : ℕ) → i < length s.idle → get_or (map (λ f. leb f s.boundary) s.idle) i false ≡ get_or (each (free_at side homes frames fetch requests o s.records s.boundary) most_disks) i false
      at i l = get_or-map (λ f. leb f s.boundary) s.idle i 0 false l ∙ (free_same i ∙ sym (each_at (free_at side homes frames fetch requests o s.records s.boundary) most_disks i false (omega (arith, h.size_idle))))

  pub view_same : ((b l : ℕ) → mark s b ≡ Here l → l ≤ s.boundary + fetch) → seen side homes frames fetch requests s ≡ view_at side homes frames fetch requests o s.records s.boundary s.position
  view_same top =
      let p = each_same (λ b. place_by fetch s.boundary (mark s b)) (place_at fetch o s.records s.boundary) (length homes)
      (λ b l. place_same fetch lasts o s.records s.boundary b h.started (mark s b) (h.marks b) (top b)) in
      let n = each_same (λ b. named_by fetch s.boundary (mark s b)) (named_at s.records s.boundary) (length homes)
      (λ b l. named_same fetch lasts o s.records s.boundary b h.started (mark s b) (h.marks b) (top b)) in
      λ i. record { side = side; homes = homes; frames = frames; requests = requests; position = s.position; places = p i; named = n i; free = frees_same i }
