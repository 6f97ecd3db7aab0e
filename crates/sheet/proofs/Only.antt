-- Only the bytes of a sheet within the limits are read as a sheet, and what a refusal leaves. Assumes nothing.
use Rattle.std.proofs.Common.{◌≡◌, ℕ, zero, suc, ◌+◌, ◌-◌, ◌*◌, ◌/◌, ◌%◌, ◌<◌, ◌≤◌, true, false, cond, eqb, ltb, leb, List, [], ◌∷◌, ◌++◌, length, get_or, take, drop, Some, None, Option, sym, refl, ap, ◌∙◌, subst, ⊎_elim, append_assoc, append-nil, arith, length-append, length-drop, length-set, take-append-drop, length-take, get_or-set_other, get_or-set_same, get_or-drop, drop-cons}
use Rattle.std.specs.List.{flat_map}
use Rattle.std.proofs.lemmas.List.{get_or_past, flat_map_more, take_more_set, drop-drop, drop-set-lt, get_or_append_left, get_or_push, get_or-take, length-take-le, nil_from_length}
use Rattle.std.proofs.lemmas.Bool.{cond_both, leb-true, ltb-true, ltb-false, eqb-true, and_parts, or_cases, cases_eq}
use Rattle.records.specs.Records.{written_over}
use Rattle.model.specs.Sheet.{Fits, Between, sheet_bytes, name_bytes, rack_bytes, geometry_bytes, disk_bytes, request_bytes, end_bytes}
use Rattle.sheet.specs.declared.fault.SheetCause.TheVariants.{RanOut, OutOfPlace, OutsideLimits, NotThere, TooMany, TooFewBlocks, NoSlotLeft}
use Rattle.sheet.specs.declared.stage.Stage.{Stage}
use Rattle.sheet.specs.declared.stage.Stage.TheVariants.{Name, Geometry, Blocks, Requests, Nothing}
use Rattle.sheet.specs.Commands.{Said, front_of}
use Rattle.sheet.specs.Reading.{SoFar, takes, rack_said, sheet_said, named, geared, housed, asked, ended, within_limits, Took, kept, refused, took, Turn, proceeds, stops, fault, after_taking, after_parsing, turn, is_nothing, complete, nothing_yet, Verdict, fit, unfit, Outcome, onward, run, reading}
use Rattle.sheet.proofs.Fronts.{by_N, by_G, by_D, by_R, by_E}
use Rattle.sheet.specs.Numbers.{SheetFault}
use Rattle.sheet.specs.Exact.{bytes_said, Reached, start, more, RefusedAt}

-- numbers that are bytes
abbrev pub Bytes : List ℕ → Type 0
Bytes xs = (i : ℕ) → get_or xs i 0 < 256

bytes_take : (n : ℕ) (xs : List ℕ) → Bytes xs → Bytes (take n xs)
bytes_take n xs h i = grind (arith, get_or-take, get_or_past, length-take, h i)

bytes_drop : (n : ℕ) (xs : List ℕ) → Bytes xs → Bytes (drop n xs)
bytes_drop n xs h i = rw (get_or-drop n xs i 0) (h (n + i))

-- Bytes taken off the front.

shape₁ : (xs : List ℕ) → 1 ≤ length xs → xs ≡ get_or xs 0 0 ∷ drop 1 xs
shape₁ xs l = drop-cons xs 0 0 l

shape₂ : (xs : List ℕ) → 2 ≤ length xs → xs ≡ get_or xs 0 0 ∷ get_or xs 1 0 ∷ drop 2 xs
shape₂ xs l = shape₁ xs (omega arith) ∙ ap (λ (ys : List ℕ). get_or xs 0 0 ∷ ys) (drop-cons xs 1 0 l)

shape₃ : (xs : List ℕ) → 3 ≤ length xs → xs ≡ get_or xs 0 0 ∷ get_or xs 1 0 ∷ get_or xs 2 0 ∷ drop 3 xs
shape₃ xs l = shape₂ xs (omega arith) ∙ ap (λ (ys : List ℕ). get_or xs 0 0 ∷ get_or xs 1 0 ∷ ys) (drop-cons xs 2 0 l)

shape₄ : (xs : List ℕ) → 4 ≤ length xs → xs ≡ get_or xs 0 0 ∷ get_or xs 1 0 ∷ get_or xs 2 0 ∷ get_or xs 3 0 ∷ drop 4 xs
shape₄ xs l = shape₃ xs (omega arith) ∙ ap (λ (ys : List ℕ). get_or xs 0 0 ∷ get_or xs 1 0 ∷ get_or xs 2 0 ∷ ys) (drop-cons xs 3 0 l)

-- Parts of the bytes, put together in two ways.

regroup_disk : (a b c d : List ℕ) → (a ++ ((b ++ c) ++ [])) ++ d ≡ (a ++ (b ++ [])) ++ (c ++ d)
regroup_disk a b c d = simp (append_assoc, append-nil)

regroup_request : (a b c d e : List ℕ) → (a ++ (b ++ (c ++ d))) ++ e ≡ (a ++ (b ++ c)) ++ (d ++ e)
regroup_request a b c d e = simp append_assoc

-- What holds between two commands.

abbrev Titled : SoFar → Type 0
Titled s = (length s.name ≡ 16) × Bytes s.name

abbrev Geared : SoFar → Type 0
Geared s = Between 1 8 s.disks × Between 1 64 s.frames × Between 1 64 s.fetch

abbrev AtStage : Stage → SoFar → Type 0
AtStage Name s = (s.homes ≡ []) × (s.count ≡ 0)
AtStage Geometry s = Titled s × (s.homes ≡ []) × (s.count ≡ 0)
AtStage Blocks s = Titled s × Geared s × (s.count ≡ 0)
AtStage Requests s = Titled s × Geared s × (s.frames ≤ length s.homes)
AtStage Nothing s = Titled s × Geared s × (s.frames ≤ length s.homes)

pub record Sound (slots : List ℕ) (s : SoFar) : Type 0 where
  pub room : length s.slots ≡ length slots
  pub later : drop s.count s.slots ≡ drop s.count slots
  pub inside : s.count ≤ length s.slots
  pub few : s.count ≤ 4096
  pub known : (i : ℕ) → i < s.count → get_or s.slots i 0 < length s.homes
  pub blocks : length s.homes ≤ 1024
  pub homes : (b : ℕ) → b < length s.homes → get_or s.homes b 0 < s.disks
  pub stage : AtStage s.stage s

-- the next command led from stage g with `rest` left to t with `after` left
record Next (slots : List ℕ) (g : Stage) (s : SoFar) (rest : List ℕ) (t : SoFar) (after : List ℕ) : Type 0 where
  sound : Sound slots t
  same : bytes_said t.stage (sheet_said t) ++ after ≡ bytes_said g (sheet_said s) ++ rest
  small : Bytes after
  fewer : length after < length rest

module _ (slots : List ℕ) (s : SoFar) (rest : List ℕ) (h : Sound slots s) (small : Bytes rest) where
  next_name : get_or rest 0 0 ≡ 78 → 17 ≤ length rest → AtStage Name s → Next slots Name s rest (named (take 16 (drop 1 rest)) s) (drop 16 (drop 1 rest))
  next_name e l g = record {
    sound = record {
      room = h.room;
      later = h.later;
      inside = h.inside;
      few = h.few;
      known = h.known;
      blocks = h.blocks;
      homes = h.homes;
      stage = ((simp (length-take, length-drop) (omega arith), bytes_take 16 (drop 1 rest) (bytes_drop 1 rest small)), g.0, g.1);
    };
    same = ap (λ (c : ℕ). c ∷ (take 16 (drop 1 rest) ++ drop 16 (drop 1 rest))) (sym e) ∙ ap (λ (xs : List ℕ). get_or rest 0 0 ∷ xs) (take-append-drop 16 (drop 1 rest)) ∙ sym (shape₁ rest (omega arith));
    small = bytes_drop 16 (drop 1 rest) (bytes_drop 1 rest small);
    fewer = simp length-drop (omega arith);
  }

  -- no request yet
  none : s.count ≡ 0 → take s.count s.slots ≡ []
  none e = ap (λ (k : ℕ). take k s.slots) e

  limits : (d k f : ℕ) → within_limits d k f ≡ true → Between 1 8 d × Between 1 64 k × Between 1 64 f
  limits d k f e =
      let a = and_parts (leb 1 d) _ e in
      let b = and_parts (leb d 8) _ a.1 in
      let c = and_parts (leb 1 k) _ b.1 in
      let m = and_parts (leb k 64) _ c.1 in
      let n = and_parts (leb 1 f) _ m.1 in
      ((leb-true 1 d a.0, leb-true d 8 b.0), (leb-true 1 k c.0, leb-true k 64 m.0), (leb-true 1 f n.0, leb-true f 64 n.1))

  next_geometry : (d k f : ℕ) → rest ≡ geometry_bytes d k f ++ drop 4 rest → 4 ≤ length rest → within_limits d k f ≡ true → AtStage Geometry s → Next slots Geometry s rest (geared d k f s) (drop 4 rest)
  next_geometry d k f e l w g =
      let title = name_bytes s.name in
      record {
        sound = record {
          room = h.room;
          later = h.later;
          inside = h.inside;
          few = h.few;
          known = h.known;
          blocks = h.blocks;
          homes = λ b m. absurd (omega (arith, ap length g.1));
          stage = (g.0, limits d k f w, g.2);
        };
        same =
            ap (λ (rs : List ℕ). (title ++ ((geometry_bytes d k f ++ flat_map disk_bytes s.homes) ++ flat_map request_bytes rs)) ++ drop 4 rest) (none g.2)
            ∙ ap (λ (hs : List ℕ). (title ++ ((geometry_bytes d k f ++ flat_map disk_bytes hs) ++ [])) ++ drop 4 rest) g.1
            ∙ append_assoc title (geometry_bytes d k f) (drop 4 rest)
            ∙ ap (λ (r : List ℕ). title ++ r) (sym e);
        small = bytes_drop 4 rest small;
        fewer = simp length-drop (omega arith);
      }

  next_disk : (b : ℕ) → rest ≡ disk_bytes b ++ drop 2 rest → 2 ≤ length rest → length s.homes < 1024 → b < s.disks → AtStage Blocks s → Next slots Blocks s rest (housed b s) (drop 2 rest)
  next_disk b e l fewer-blocks there g =
      let title = name_bytes s.name in
      let gear = geometry_bytes s.disks s.frames s.fetch in
      let hs = s.homes in
      let after = drop 2 rest in
      record {
        sound = record {
          room = h.room;
          later = h.later;
          inside = h.inside;
          few = h.few;
          known = λ i m. absurd (omega (arith, g.2));
          blocks = simp length-append (omega arith);
          homes = λ k m. ⊎_elim
              (λ (same : k ≡ length hs). let p = get_or_push hs b 0 k (sym same) in rw p there)
              (λ (other : k ≡ length hs → ⊥). let long = length-append hs (b ∷ []) in let m' : k < length hs = omega arith in let p = get_or_append_left hs (b ∷ []) 0 k m' in rw p (h.homes k m'))
              (cases_eq k (length hs));
          stage = (g.0, g.1, g.2);
        };
        same =
            ap (λ (rs : List ℕ). (title ++ ((gear ++ flat_map disk_bytes (hs ++ b ∷ [])) ++ flat_map request_bytes rs)) ++ after) (none g.2)
            ∙ ap (λ (bs : List ℕ). (title ++ (bs ++ [])) ++ after) (sym (flat_map_more disk_bytes gear hs b))
            ∙ regroup_disk title (gear ++ flat_map disk_bytes hs) (disk_bytes b) after
            ∙ ap (λ (r : List ℕ). (title ++ ((gear ++ flat_map disk_bytes hs) ++ [])) ++ r) (sym e)
            ∙ ap (λ (rs : List ℕ). (title ++ ((gear ++ flat_map disk_bytes hs) ++ flat_map request_bytes rs)) ++ rest) (sym (none g.2));
        small = bytes_drop 2 rest small;
        fewer = simp length-drop (omega arith);
      }

  next_request : (g : Stage) (b : ℕ) → rest ≡ request_bytes b ++ drop 3 rest → 3 ≤ length rest → s.count < 4096 → b < length s.homes → s.count < length s.slots → Titled s → Geared s → s.frames ≤ length s.homes → bytes_said g (sheet_said s) ≡ bytes_said Requests (sheet_said s) → Next slots g s rest (asked b s) (drop 3 rest)
  next_request g b e l few there room titled gear enough body =
      let title = name_bytes s.name in
      let rack = rack_bytes (rack_said s) in
      let rs = take s.count s.slots in
      let after = drop 3 rest in
      record {
        sound = record {
          room = length-set s.slots s.count b ∙ h.room;
          later = drop-set-lt (s.count + 1) s.slots s.count b (omega arith) ∙ sym (drop-drop 1 s.count s.slots) ∙ ap (drop 1) h.later ∙ drop-drop 1 s.count slots;
          inside = rw (length-set s.slots s.count b) (omega arith);
          few = omega arith;
          known = λ i m. ⊎_elim
              (λ (same : i ≡ s.count). let p = get_or-set_same s.slots s.count b 0 room in rw (same, p) there)
              (λ (other : i ≡ s.count → ⊥). let p = get_or-set_other s.slots s.count i b 0 other in rw p (h.known i (omega arith)))
              (cases_eq i s.count);
          blocks = h.blocks;
          homes = h.homes;
          stage = (titled, gear, enough);
        };
        same =
            ap (λ (xs : List ℕ). (title ++ (rack ++ flat_map request_bytes xs)) ++ after) (take_more_set s.slots s.count b room)
            ∙ ap (λ (bs : List ℕ). (title ++ (rack ++ bs)) ++ after) (sym (flat_map_more request_bytes [] rs b))
            ∙ regroup_request title rack (flat_map request_bytes rs) (request_bytes b) after
            ∙ ap (λ (r : List ℕ). (title ++ (rack ++ flat_map request_bytes rs)) ++ r) (sym e)
            ∙ ap (λ (bs : List ℕ). bs ++ rest) (sym body);
        small = bytes_drop 3 rest small;
        fewer = simp length-drop (omega arith);
      }

  next_end : (g : Stage) → rest ≡ end_bytes ++ drop 1 rest → 1 ≤ length rest → Titled s → Geared s → s.frames ≤ length s.homes → bytes_said g (sheet_said s) ≡ bytes_said Requests (sheet_said s) → Next slots g s rest (ended s) (drop 1 rest)
  next_end g e l titled gear enough body =
      let title = name_bytes s.name in
      let rack = rack_bytes (rack_said s) in
      let rs = take s.count s.slots in
      record {
        sound = record {
          room = h.room;
          later = h.later;
          inside = h.inside;
          few = h.few;
          known = h.known;
          blocks = h.blocks;
          homes = h.homes;
          stage = (titled, gear, enough);
        };
        same =
            regroup_request title rack (flat_map request_bytes rs) end_bytes (drop 1 rest)
            ∙ ap (λ (r : List ℕ). (title ++ (rack ++ flat_map request_bytes rs)) ++ r) (sym e)
            ∙ ap (λ (bs : List ℕ). bs ++ rest) (sym body);
        small = bytes_drop 1 rest small;
        fewer = simp length-drop (omega arith);
      }

-- Whatever command comes next.

abbrev Good : List ℕ → Stage → SoFar → List ℕ → Turn → Type 0
Good slots g s rest (proceeds t after) = Next slots g s rest t after
Good slots g s rest (stops f) = Unit {0}

module _ (total place : ℕ) (slots : List ℕ) (s : SoFar) (rest : List ℕ) (h : Sound slots s) (small : Bytes rest) where
  taking : Stage → List ℕ → Took → Type 0
  taking g after t = Good slots g s rest (after_taking place after t)

  on_front : (g : Stage) (n : ℕ) (x : Said) (after : List ℕ) → (n ≤ length rest → Good slots g s rest (after_taking place after (took x s))) → Good slots g s rest (after_parsing total place s (cond (leb n (length rest)) (Some (x, after)) None))
  on_front g n x after k =
      cond_both (leb n (length rest)) (Some (x, after)) None (λ o. Good slots g s rest (after_parsing total place s o)) (λ e. k (leb-true n (length rest) e)) (λ e. tt)

  at_front : (g : Stage) (o : Option (Said × List ℕ)) → front_of rest ≡ o → Good slots g s rest (after_parsing total place s o) → Good slots g s rest (after_parsing total place s (front_of rest))
  at_front g o e k = subst (λ o. Good slots g s rest (after_parsing total place s o)) (sym e) k

  on_name : get_or rest 0 0 ≡ 78 → AtStage Name s → Good slots Name s rest (after_parsing total place s (front_of rest))
  on_name e g = at_front Name _ (by_N rest e) (on_front Name 17 _ _ (λ l. next_name slots s rest h small e l g))

  on_geometry : get_or rest 0 0 ≡ 71 → AtStage Geometry s → Good slots Geometry s rest (after_parsing total place s (front_of rest))
  unfolding taking
  on_geometry e g =
      let d = get_or rest 1 0 in
      let k = get_or rest 2 0 in
      let f = get_or rest 3 0 in
      at_front Geometry _ (by_G rest e) (on_front Geometry 4 _ _ (λ l.
      cond_both (within_limits d k f) (kept (geared d k f s)) (refused OutsideLimits) (taking Geometry (drop 4 rest))
      (λ w. next_geometry slots s rest h small d k f (shape₄ rest l ∙ ap (λ (c : ℕ). c ∷ d ∷ k ∷ f ∷ drop 4 rest) e) l w g)
      (λ w. tt)))

  on_disk : get_or rest 0 0 ≡ 68 → AtStage Blocks s → Good slots Blocks s rest (after_parsing total place s (front_of rest))
  unfolding taking
  on_disk e g =
      let b = get_or rest 1 0 in
      at_front Blocks _ (by_D rest e) (on_front Blocks 2 _ _ (λ l.
      cond_both (ltb (length s.homes) 1024) _ (refused TooMany) (taking Blocks (drop 2 rest))
      (λ few. cond_both (ltb b s.disks) (kept (housed b s)) (refused NotThere) (taking Blocks (drop 2 rest))
      (λ there. next_disk slots s rest h small b (shape₂ rest l ∙ ap (λ (c : ℕ). c ∷ b ∷ drop 2 rest) e) l (ltb-true _ _ few) (ltb-true _ _ there) g)
      (λ there. tt))
      (λ few. tt)))

  on_request : (g : Stage) → get_or rest 0 0 ≡ 82 → Titled s → Geared s → bytes_said g (sheet_said s) ≡ bytes_said Requests (sheet_said s) → Good slots g s rest (after_parsing total place s (front_of rest))
  unfolding taking
  on_request g e titled gear body =
      let low = get_or rest 1 0 in
      let high = get_or rest 2 0 in
      let b = low + 256 * high in
      let byte = small 1 in
      let low_is : low ≡ b % 256 = omega arith in
      let high_is : high ≡ b / 256 = omega arith in
      let P = taking g (drop 3 rest) in
      at_front g _ (by_R rest e) (on_front g 3 _ _ (λ l.
      cond_both (ltb (length s.homes) s.frames) (refused TooFewBlocks) _ P (λ enough. tt) (λ enough.
      cond_both (ltb s.count 4096) _ (refused TooMany) P (λ few.
      cond_both (ltb b (length s.homes)) _ (refused NotThere) P (λ there.
      cond_both (ltb s.count (length s.slots)) (kept (asked b s)) (refused NoSlotLeft) P
      (λ room. next_request slots s rest h small g b (shape₃ rest l ∙ (λ i. e i ∷ low_is i ∷ high_is i ∷ drop 3 rest)) l (ltb-true _ _ few) (ltb-true _ _ there) (ltb-true _ _ room) titled gear (ltb-false _ _ enough) body)
      (λ room. tt))
      (λ there. tt))
      (λ few. tt))))

  on_end : (g : Stage) → get_or rest 0 0 ≡ 69 → Titled s → Geared s → bytes_said g (sheet_said s) ≡ bytes_said Requests (sheet_said s) → Good slots g s rest (after_parsing total place s (front_of rest))
  unfolding taking
  on_end g e titled gear body =
      at_front g _ (by_E rest e) (on_front g 1 _ _ (λ l.
      cond_both (ltb (length s.homes) s.frames) (refused TooFewBlocks) (kept (ended s)) (taking g (drop 1 rest))
      (λ enough. tt)
      (λ enough. next_end slots s rest h small g (shape₁ rest l ∙ ap (λ (c : ℕ). c ∷ drop 1 rest) e) l titled gear (ltb-false _ _ enough) body)))

  by_stage : (g : Stage) → AtStage g s → Good slots g s rest (cond (takes g (get_or rest 0 0)) (after_parsing total place s (front_of rest)) (stops (fault OutOfPlace place)))
  by_stage Name a = cond_both _ _ _ (Good slots Name s rest) (λ e. on_name (eqb-true _ 78 e) a) (λ e. tt)
  by_stage Geometry a = cond_both _ _ _ (Good slots Geometry s rest) (λ e. on_geometry (eqb-true _ 71 e) a) (λ e. tt)
  by_stage Blocks a =
      cond_both _ _ _ (Good slots Blocks s rest)
      (λ e. ⊎_elim (λ d. on_disk (eqb-true _ 68 d) a) (λ m. ⊎_elim (λ r. on_request Blocks (eqb-true _ 82 r) a.0 a.1 refl) (λ n. on_end Blocks (eqb-true _ 69 n) a.0 a.1 refl) (or_cases _ _ m)) (or_cases _ _ e))
      (λ e. tt)
  by_stage Requests a =
      cond_both _ _ _ (Good slots Requests s rest)
      (λ e. ⊎_elim (λ r. on_request Requests (eqb-true _ 82 r) a.0 a.1 refl) (λ n. on_end Requests (eqb-true _ 69 n) a.0 a.1 refl) (or_cases _ _ e))
      (λ e. tt)
  by_stage Nothing a = tt

turn_good : (total : ℕ) (slots : List ℕ) (s : SoFar) (rest : List ℕ) → Sound slots s → Bytes rest → Good slots s.stage s rest (turn total rest s)
unfolding turn
turn_good total slots s rest h small =
    cond_both (eqb (length rest) 0) (stops (fault RanOut total)) _ (Good slots s.stage s rest) (λ e. tt) (λ e. by_stage total (total - length rest) slots s rest h small s.stage h.stage)

-- The whole run.

-- the slots, written over
written : (slots : List ℕ) (s : SoFar) → Sound slots s → s.slots ≡ written_over (take s.count s.slots) slots
written slots s h =
    sym (take-append-drop s.count s.slots)
    ∙ ap (λ (xs : List ℕ). take s.count s.slots ++ xs) (h.later ∙ ap (λ (k : ℕ). drop k slots) (sym (length-take-le s.count s.slots h.inside)))

-- the end is read
at_end : (g : Stage) (s : SoFar) → is_nothing g ≡ true → AtStage g s → (Titled s × Geared s × (s.frames ≤ length s.homes)) × (bytes_said g (sheet_said s) ≡ sheet_bytes (sheet_said s))
at_end Name s e a = let z : ◌≡◌ {A = ℕ} 0 1 = cc in absurd (omega arith)
at_end Geometry s e a = let z : ◌≡◌ {A = ℕ} 0 1 = cc in absurd (omega arith)
at_end Blocks s e a = let z : ◌≡◌ {A = ℕ} 0 1 = cc in absurd (omega arith)
at_end Requests s e a = let z : ◌≡◌ {A = ℕ} 0 1 = cc in absurd (omega arith)
at_end Nothing s e a = (a, refl)

fits_at_end : (slots : List ℕ) (s : SoFar) → Sound slots s → Titled s × Geared s × (s.frames ≤ length s.homes) → Fits (sheet_said s)
fits_at_end slots s h a =
    let long = length-take-le s.count s.slots h.inside in
    record {
      name = a.0.0;
      letters = a.0.1;
      rack = record { disks = a.1.0; frames = a.1.1; fetch = a.1.2; blocks = (a.2, h.blocks); homes = h.homes };
      few = rw long h.few;
      known = λ i l. let l' : i < s.count = omega arith in rw (get_or-take s.count s.slots i 0 l') (h.known i l');
    }

-- what a run tells of the bytes
abbrev pub Told : List ℕ → List ℕ → Verdict → List ℕ → Type 0
Told bytes slots (fit x) after = Fits x × (sheet_bytes x ≡ bytes) × (length x.requests ≤ length slots) × (after ≡ written_over x.requests slots)
Told bytes slots (unfit f) after = RefusedAt bytes slots f after

abbrev Tells : List ℕ → List ℕ → Outcome → Type 0
Tells bytes slots o = Told bytes slots o.verdict o.slots

module _ (bytes slots : List ℕ) where
  ends : (s : SoFar) (rest : List ℕ) → Sound slots s → bytes_said s.stage (sheet_said s) ++ rest ≡ bytes → complete rest s ≡ true → Told bytes slots (fit (sheet_said s)) s.slots
  ends s rest h same e =
      let parts = and_parts (is_nothing s.stage) _ e in
      let empty : rest ≡ [] = nil_from_length rest (eqb-true (length rest) 0 parts.1) in
      let a = at_end s.stage s parts.0 h.stage in
      let all : sheet_bytes (sheet_said s) ≡ bytes =
      sym (append-nil (sheet_bytes (sheet_said s))) ∙ ap (λ (xs : List ℕ). xs ++ []) (sym a.1) ∙ ap (λ (xs : List ℕ). bytes_said s.stage (sheet_said s) ++ xs) (sym empty) ∙ same in
      let room : length (take s.count s.slots) ≤ length slots = rw (length-take-le s.count s.slots h.inside) (omega (arith, h.room, h.inside)) in
      (fits_at_end slots s h a.0, all, room, written slots s h)

  stopped : (s : SoFar) (rest : List ℕ) (f : SheetFault) → Reached bytes slots s rest → Sound slots s → complete rest s ≡ false → bytes_said s.stage (sheet_said s) ++ rest ≡ bytes → turn (length bytes) rest s ≡ stops f → RefusedAt bytes slots f s.slots
  stopped s rest f at h on same e = record { sofar = s; rest = rest; reached = at; before = same; goes_on = on; next = e; stand = written slots s h }

  tells : (n : ℕ) (s : SoFar) (rest : List ℕ) → Reached bytes slots s rest → Sound slots s → bytes_said s.stage (sheet_said s) ++ rest ≡ bytes → Bytes rest → length rest < n → Tells bytes slots (run n (length bytes) rest s)
  unfolding run
  tells zero s rest at h same small l = absurd (omega arith)
  tells (suc n) s rest at h same small l =
      let total = length bytes in
      let go : (u : Turn) → complete rest s ≡ false → turn total rest s ≡ u → Good slots s.stage s rest u → Tells bytes slots (onward (λ r t. run n total r t) s u) =
      elim [ proceeds t r ↦ λ on e g. tells n t r (more at e) g.sound (g.same ∙ same) g.small (omega (arith, g.fewer)) | stops f ↦ λ on e g. stopped s rest f at h on same e ] in
      cond_both (complete rest s) (record { verdict = fit (sheet_said s); slots = s.slots }) (onward (λ r t. run n total r t) s (turn total rest s)) (Tells bytes slots)
      (λ e. ends s rest h same e)
      (λ e. go (turn total rest s) e refl (turn_good total slots s rest h small))

pub told : (bytes slots : List ℕ) → Bytes bytes → Told bytes slots (reading bytes slots).verdict (reading bytes slots).slots
unfolding reading
told bytes slots small =
    tells bytes slots (suc (length bytes)) (nothing_yet slots) bytes start
    (record {
      room = refl;
      later = refl;
      inside = omega arith;
      few = omega arith;
      known = λ i l. absurd (omega arith);
      blocks = omega arith;
      homes = λ b l. absurd (omega arith);
      stage = (refl, refl);
    })
    refl small (omega arith)
