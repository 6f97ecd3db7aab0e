-- The bytes of a sheet within the limits are read as that sheet. Assumes nothing.
use Rattle.std.proofs.Common.{◌≡◌, ℕ, suc, ◌+◌, ◌*◌, ◌/◌, ◌%◌, ◌<◌, ◌≤◌, Bool, true, false, List, [], ◌∷◌, ◌++◌, length, get_or, take, set, Some, Option, sym, refl, ap, ◌∙◌, append_assoc, append-nil, arith, length-append, length-set}
use Rattle.std.specs.List.{flat_map}
use Rattle.std.proofs.lemmas.List.{take_at, drop_at, take_more_set}
use Rattle.std.proofs.lemmas.Bool.{cond-true, lt-ltb, le-ltb, le-leb}
use Rattle.model.specs.Sheet.{Rack, Sheet, RackFits, Fits, sheet_bytes, name_bytes, rack_bytes, geometry_bytes, disk_bytes, request_bytes, end_bytes}
use Rattle.sheet.specs.declared.stage.Stage.TheVariants.{Name, Geometry, Blocks}
use Rattle.sheet.specs.Commands.{Said, name, geometry, disk, request, end, front_of}
use Rattle.sheet.specs.Reading.{SoFar, takes, is_nothing, nothing_yet, named, geared, housed, asked, ended, within_limits, proceeds, turn, sheet_said, fit, run, reading}
use Rattle.sheet.proofs.Fronts.{by_N, by_G, by_D, by_R, by_E}
use Rattle.sheet.proofs.Turns.{turn_taken}
use Rattle.sheet.proofs.Runs.{run_done, run_on, run_more}

-- The command at the front of its own bytes.

front_name : (n tail : List ℕ) → length n ≡ 16 → ◌≡◌ {A = Option (Said × List ℕ)} (front_of (name_bytes n ++ tail)) (Some (name n, tail))
front_name n tail e =
    let long : 17 ≤ length (name_bytes n ++ tail) = simp length-append (omega arith) in
    by_N _ refl ∙ cond-true _ _ _ (le-leb 17 (length (name_bytes n ++ tail)) long) ∙ rw (take_at n tail 16 e, drop_at n tail 16 e)

front_geometry : (d k f : ℕ) (tail : List ℕ) → ◌≡◌ {A = Option (Said × List ℕ)} (front_of (geometry_bytes d k f ++ tail)) (Some (geometry d k f, tail))
front_geometry d k f tail = by_G _ refl ∙ cond-true _ _ _ (le-leb 4 (length (geometry_bytes d k f ++ tail)) (omega arith))

front_disk : (h : ℕ) (tail : List ℕ) → ◌≡◌ {A = Option (Said × List ℕ)} (front_of (disk_bytes h ++ tail)) (Some (disk h, tail))
front_disk h tail = by_D _ refl ∙ cond-true _ _ _ (le-leb 2 (length (disk_bytes h ++ tail)) (omega arith))

front_request : (b : ℕ) (tail : List ℕ) → ◌≡◌ {A = Option (Said × List ℕ)} (front_of (request_bytes b ++ tail)) (Some (request b, tail))
front_request b tail =
    let whole : b % 256 + 256 * (b / 256) ≡ b = omega arith in
    by_R _ refl ∙ cond-true _ _ _ (le-leb 3 (length (request_bytes b ++ tail)) (omega arith)) ∙ ap {B = Option (Said × List ℕ)} (λ (n : ℕ). Some (request n, tail)) whole

front_end : (tail : List ℕ) → ◌≡◌ {A = Option (Said × List ℕ)} (front_of (end_bytes ++ tail)) (Some (end, tail))
front_end tail = by_E _ refl ∙ cond-true _ _ _ (le-leb 1 (length (end_bytes ++ tail)) (omega arith))

-- whether a request, and the end, are in place
abbrev takes_request : SoFar → Bool
takes_request s = takes s.stage 82

abbrev takes_end : SoFar → Bool
takes_end s = takes s.stage 69

-- One command of a fit sheet goes on.

module _ (total : ℕ) (tail : List ℕ) (s : SoFar) where
  turn_name : (n : List ℕ) → length n ≡ 16 → s.stage ≡ Name → turn total (name_bytes n ++ tail) s ≡ proceeds (named n s) tail
  turn_name n e g = turn_taken total (name_bytes n ++ tail) s (omega arith) (rw g) (name n) tail (front_name n tail e)

  turn_geometry : (d k f : ℕ) → within_limits d k f ≡ true → s.stage ≡ Geometry → turn total (geometry_bytes d k f ++ tail) s ≡ proceeds (geared d k f s) tail
  turn_geometry d k f w g =
      turn_taken total (geometry_bytes d k f ++ tail) s (omega arith) (rw g) (geometry d k f) tail (front_geometry d k f tail) ∙ rw w

  turn_disk : (h : ℕ) → length s.homes < 1024 → h < s.disks → s.stage ≡ Blocks → turn total (disk_bytes h ++ tail) s ≡ proceeds (housed h s) tail
  turn_disk h few there g =
      turn_taken total (disk_bytes h ++ tail) s (omega arith) (rw g) (disk h) tail (front_disk h tail)
      ∙ rw (lt-ltb (length s.homes) 1024 few, lt-ltb h s.disks there)

  turn_request : (b : ℕ) → s.frames ≤ length s.homes → s.count < 4096 → b < length s.homes → s.count < length s.slots → takes_request s ≡ true → turn total (request_bytes b ++ tail) s ≡ proceeds (asked b s) tail
  turn_request b enough few there room g =
      turn_taken total (request_bytes b ++ tail) s (omega arith) g (request b) tail (front_request b tail)
      ∙ rw (le-ltb (length s.homes) s.frames enough, lt-ltb s.count 4096 few, lt-ltb b (length s.homes) there, lt-ltb s.count (length s.slots) room)

  turn_end : s.frames ≤ length s.homes → takes_end s ≡ true → turn total (end_bytes ++ tail) s ≡ proceeds (ended s) tail
  turn_end enough g =
      turn_taken total (end_bytes ++ tail) s (omega arith) g end tail (front_end tail) ∙ rw (le-ltb (length s.homes) s.frames enough)

-- Many commands of one kind. As many commands more are allowed as the list has elements.

abbrev more : List ℕ → ℕ → ℕ
more [] n = n
more (x ∷ xs) n = suc (more xs n)

more_is : (xs : List ℕ) (n : ℕ) → more xs n ≡ length xs + n
more_is [] n = omega arith
more_is (x ∷ xs) n = let ih = more_is xs n in omega arith

abbrev with_homes : List ℕ → SoFar → SoFar
with_homes hs s = record { stage = Blocks; name = s.name; disks = s.disks; frames = s.frames; fetch = s.fetch; homes = hs; slots = s.slots; count = s.count }

same_stage : (s : SoFar) → s.stage ≡ Blocks → s ≡ with_homes s.homes s
same_stage s g = λ i. record { stage = g i; name = s.name; disks = s.disks; frames = s.frames; fetch = s.fetch; homes = s.homes; slots = s.slots; count = s.count }

run_homes : (total n : ℕ) (hs tail : List ℕ) (s : SoFar) → s.stage ≡ Blocks → length s.homes + length hs ≤ 1024 → ((i : ℕ) → i < length hs → get_or hs i 0 < s.disks) → run (more hs n) total (flat_map disk_bytes hs ++ tail) s ≡ run n total tail (with_homes (s.homes ++ hs) s)
run_homes total n [] tail s g few there =
    ap (λ (t : SoFar). run n total tail t) (same_stage s g) ∙ ap (λ (xs : List ℕ). run n total tail (with_homes xs s)) (sym (append-nil s.homes))
run_homes total n (h ∷ hs) tail s g few there =
    let one : h < s.disks = there 0 (omega arith) in
    let longer : length (s.homes ++ h ∷ []) + length hs ≤ 1024 = simp length-append (omega arith) in
    run_on total (more hs n) (disk_bytes h ++ (flat_map disk_bytes hs ++ tail)) s (housed h s) (flat_map disk_bytes hs ++ tail) (rw g) (turn_disk total (flat_map disk_bytes hs ++ tail) s h (omega arith) one g)
    ∙ run_homes total n hs tail (housed h s) refl longer (λ i l. there (suc i) (omega arith))
    ∙ ap (λ (xs : List ℕ). run n total tail (with_homes xs s)) (append_assoc s.homes (h ∷ []) hs)

abbrev asked_all : List ℕ → SoFar → SoFar
asked_all [] s = s
asked_all (b ∷ bs) s = asked_all bs (asked b s)

-- requests may come, and the end is not read
abbrev Open : SoFar → Type 0
Open s = (takes_request s ≡ true) × (takes_end s ≡ true) × (is_nothing s.stage ≡ false)

run_requests : (total n : ℕ) (bs tail : List ℕ) (s : SoFar) → Open s → s.frames ≤ length s.homes → s.count + length bs ≤ 4096 → s.count + length bs ≤ length s.slots → ((i : ℕ) → i < length bs → get_or bs i 0 < length s.homes) → run (more bs n) total (flat_map request_bytes bs ++ tail) s ≡ run n total tail (asked_all bs s)
run_requests total n [] tail s g enough few room there = refl
run_requests total n (b ∷ bs) tail s g enough few room there =
    let rest = flat_map request_bytes bs ++ tail in
    let same : length (set s.slots s.count b) ≡ length s.slots = length-set s.slots s.count b in
    run_on total (more bs n) (request_bytes b ++ rest) s (asked b s) rest (rw g.2) (turn_request total rest s b enough (omega arith) (there 0 (omega arith)) (omega arith) g.0)
    ∙ run_requests total n bs tail (asked b s) (refl, refl, refl) enough (omega arith) (omega arith) (λ i l. there (suc i) (omega arith))

-- What many requests leave.

asked_open : (bs : List ℕ) (s : SoFar) → Open s → Open (asked_all bs s)
asked_open [] s g = g
asked_open (b ∷ bs) s g = asked_open bs (asked b s) (refl, refl, refl)

asked_enough : (bs : List ℕ) (s : SoFar) → s.frames ≤ length s.homes → (asked_all bs s).frames ≤ length (asked_all bs s).homes
asked_enough [] s h = h
asked_enough (b ∷ bs) s h = asked_enough bs (asked b s) h

abbrev with_requests : SoFar → List ℕ → Sheet
with_requests s rs = record { name = s.name; rack = (sheet_said s).rack; requests = rs }

asked_sheet : (bs : List ℕ) (s : SoFar) → s.count + length bs ≤ length s.slots → sheet_said (asked_all bs s) ≡ with_requests s (take s.count s.slots ++ bs)
asked_sheet [] s room = rw append-nil
asked_sheet (b ∷ bs) s room =
    let same : length (set s.slots s.count b) ≡ length s.slots = length-set s.slots s.count b in
    asked_sheet bs (asked b s) (omega arith)
    ∙ ap (with_requests s) (ap (λ (xs : List ℕ). xs ++ bs) (take_more_set s.slots s.count b (omega arith)) ∙ append_assoc (take s.count s.slots) (b ∷ []) bs)

-- The whole sheet.

long_homes : (hs : List ℕ) → length (flat_map disk_bytes hs) ≡ 2 * length hs
long_homes [] = refl
long_homes (h ∷ hs) = let ih = long_homes hs in omega arith

long_requests : (bs : List ℕ) → length (flat_map request_bytes bs) ≡ 3 * length bs
long_requests [] = refl
long_requests (b ∷ bs) = let ih = long_requests bs in omega arith

within : (r : Rack) → RackFits r → within_limits r.disks r.frames r.fetch ≡ true
within r h =
    rw (le-leb 1 r.disks h.disks.0, le-leb r.disks 8 h.disks.1, le-leb 1 r.frames h.frames.0, le-leb r.frames 64 h.frames.1, le-leb 1 r.fetch h.fetch.0, le-leb r.fetch 64 h.fetch.1)

module _ (s : Sheet) (slots : List ℕ) (fits : Fits s) (room : length s.requests ≤ length slots) where
  ready : SoFar
  ready = with_homes s.rack.homes (geared s.rack.disks s.rack.frames s.rack.fetch (named s.name (nothing_yet slots)))

  commands : ℕ
  commands = suc (suc (more s.rack.homes (more s.requests 2)))

  whole_run : (total : ℕ) → run commands total (sheet_bytes s) (nothing_yet slots) ≡ record { verdict = fit (sheet_said (asked_all s.requests ready)); slots = (asked_all s.requests ready).slots }
  unfolding ready commands
  whole_run total =
      let r = s.rack in
      let bs = s.requests in
      let start = nothing_yet slots in
      let titled = named s.name start in
      let set-up = geared r.disks r.frames r.fetch titled in
      let asks = flat_map request_bytes bs ++ end_bytes in
      let open_now : Open (asked_all bs ready) = asked_open bs ready (refl, refl, refl) in
      let enough : (asked_all bs ready).frames ≤ length (asked_all bs ready).homes = asked_enough bs ready fits.rack.blocks.0 in
      run_on total (suc (more r.homes (more bs 2))) (name_bytes s.name ++ (rack_bytes r ++ asks)) start titled (rack_bytes r ++ asks) refl (turn_name total (rack_bytes r ++ asks) start s.name fits.name refl)
      ∙ run_on total (more r.homes (more bs 2)) (geometry_bytes r.disks r.frames r.fetch ++ (flat_map disk_bytes r.homes ++ asks)) titled set-up (flat_map disk_bytes r.homes ++ asks) refl (turn_geometry total (flat_map disk_bytes r.homes ++ asks) titled r.disks r.frames r.fetch (within r fits.rack) refl)
      ∙ run_homes total (more bs 2) r.homes asks set-up refl (omega (arith, fits.rack.blocks.1)) fits.rack.homes
      ∙ run_requests total 2 bs end_bytes ready (refl, refl, refl) fits.rack.blocks.0 (omega (arith, fits.few)) (omega arith) fits.known
      ∙ run_on total 1 end_bytes (asked_all bs ready) (ended (asked_all bs ready)) [] (rw open_now.2) (turn_end total [] (asked_all bs ready) enough open_now.1)
      ∙ run_done total 0 [] (ended (asked_all bs ready)) refl

  commands_fit : commands ≤ suc (length (sheet_bytes s))
  unfolding commands
  commands_fit =
      let b = more_is s.rack.homes (more s.requests 2) in
      let c = more_is s.requests 2 in
      let d = long_homes s.rack.homes in
      let e = long_requests s.requests in
      simp length-append (omega arith)

  pub accepted : (reading (sheet_bytes s) slots).verdict ≡ fit s
  unfolding reading ready
  accepted =
      let total = length (sheet_bytes s) in
      let is = whole_run total in
      let sheet_is : sheet_said (asked_all s.requests ready) ≡ s = asked_sheet s.requests ready (omega arith) in
      let fit_is : (run commands total (sheet_bytes s) (nothing_yet slots)).verdict ≡ fit s = ap (λ o. o.verdict) is ∙ ap fit sheet_is in
      ap (λ o. o.verdict) (run_more total commands (suc total) commands_fit (sheet_bytes s) (nothing_yet slots) s fit_is) ∙ fit_is
