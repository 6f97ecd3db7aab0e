-- What a view shows of single blocks and disks, told from where they are. Assumes nothing.
use Rattle.std.proofs.Common.{◌≡◌, ℕ, ◌<◌, ◌≤◌, true, false, eqb, leb, ◌⊎◌, inl, inr, length, get_or, Option, refl, ◌∙◌, arith}
use Rattle.std.specs.List.{slice_get}
use Rattle.std.specs.Option.{unwrap_or}
use Rattle.std.proofs.lemmas.List.{get_or_past, length-map}
use Rattle.std.proofs.lemmas.Option.{unwrap_or-slice_get, slice_get-get_or, slice_get_past}
use Rattle.std.proofs.lemmas.Bool.{lt-ltb, le-ltb, cases_lt}
use Rattle.model.specs.declared.Mark.{Mark}
use Rattle.model.specs.declared.Mark.TheVariants.{Away}
use Rattle.model.specs.Verdict.{is_away_at, is_here_at}
use Rattle.model.specs.View.{Place, missing, may_go_out, next_use, requested_at, wanted_block}
use Rattle.model.specs.Pass.{each, place_by, named_by}
use Rattle.model.proofs.Seeing.{each_length, sees_missing, sees_out, use_requested}
use Rattle.model.proofs.Answering.{first_is}
use Rattle.sheet.specs.Sheets.{meant}
use Rattle.sheet.proofs.Known.{known, few_blocks}
use Rattle.plan.specs.Headings.{side_of}
use Rattle.planner.specs.declared.view.View.{View as Viewed}
use Rattle.planner.specs.Boards.{state_of}
use Rattle.planner.specs.Views.{shows}

module _ (v : Viewed) where
  abbrev mark_of : ℕ → Mark
  mark_of b = get_or v.board.now.places.marks b (Away 0)

  -- a look-up of the code, with the 0 that it gives past the end
  pub home_is : (o : Option ℕ) (b : ℕ) → o ≡ slice_get (meant v.sheet).rack.homes b → unwrap_or o 0 ≡ get_or (shows v).homes b 0
  unfolding shows
  home_is o b e = rw e (unwrap_or-slice_get (meant v.sheet).rack.homes b 0)

  pub wanted_is : (o : Option ℕ) (p : ℕ) → o ≡ slice_get (meant v.sheet).requests v.board.now.position → unwrap_or o 0 ≡ wanted_block (shows v)
  unfolding shows
  wanted_is o p e = rw e (unwrap_or-slice_get (meant v.sheet).requests v.board.now.position 0)

  pub missing_known : (b : ℕ) → b < length (shows v).homes → missing (shows v) b ≡ is_away_at (mark_of b) v.board.now.boundary
  unfolding shows
  missing_known b l = sees_missing (side_of v.heading) (meant v.sheet).rack.homes (meant v.sheet).rack.frames (meant v.sheet).rack.fetch (meant v.sheet).requests (state_of v.board.now) b l

  pub missing_past : (b : ℕ) → length (shows v).homes ≤ b → missing (shows v) b ≡ true
  unfolding shows
  missing_past b l =
      let n = length (meant v.sheet).rack.homes in
      let f = λ (c : ℕ). place_by (meant v.sheet).rack.fetch v.board.now.boundary (mark_of c) in
      let g = λ (c : ℕ). named_by (meant v.sheet).rack.fetch v.board.now.boundary (mark_of c) in
      rw (get_or_past (each f n) b Place.Absent (omega (arith, each_length f n)), get_or_past (each g n) b false (omega (arith, each_length g n))) refl

  pub goes_known : (b : ℕ) → b < length (shows v).homes → may_go_out (shows v) b ≡ is_here_at (mark_of b) v.board.now.boundary
  unfolding shows
  goes_known b l = sees_out (side_of v.heading) (meant v.sheet).rack.homes (meant v.sheet).rack.frames (meant v.sheet).rack.fetch (meant v.sheet).requests (state_of v.board.now) b l

  pub goes_past : (b : ℕ) → length (shows v).homes ≤ b → may_go_out (shows v) b ≡ false
  goes_past b l = rw (le-ltb b (length (shows v).homes) l) refl

  pub use_is : (b n : ℕ) → b < 1024 → n ≡ get_or v.uses.now.next b 0 → n ≡ next_use (shows v) b
  unfolding shows
  use_is b n l e = e ∙ v.told b l

  -- no request is of a block that there is not
  pub use_past : (b : ℕ) → 1024 ≤ b → length (meant v.sheet).requests ≡ next_use (shows v) b
  unfolding shows
  use_past b l = go (cases_lt (next_use (shows v) b) (length (meant v.sheet).requests))
    where
      go : (next_use (shows v) b < length (meant v.sheet).requests) ⊎ (length (meant v.sheet).requests ≤ next_use (shows v) b) → length (meant v.sheet).requests ≡ next_use (shows v) b
      go (inl m) = let r = use_requested (shows v) b m in absurd (omega (arith, known v.sheet r.at r.within, few_blocks v.sheet, r.is))
      go (inr m) = let f = first_is (shows v) (λ r. eqb r b) v.reached in omega (arith, f.within)

  -- the position is no further than the requests, each of a block that there is
  pub reached : (shows v).position ≤ length (shows v).requests
  unfolding shows
  reached = v.reached

  pub asks_known : (i : ℕ) → i < length (shows v).requests → get_or (shows v).requests i 0 < length (shows v).homes
  unfolding shows
  asks_known i l = known v.sheet i l

  pub length_is : (n : ℕ) → n ≡ length (meant v.sheet).requests → n ≡ length (shows v).requests
  unfolding shows
  length_is n e = e

  pub request_is : (o : Option ℕ) (k : ℕ) → o ≡ slice_get (meant v.sheet).requests k → o ≡ requested_at (shows v) k
  unfolding shows
  request_is o k e = e ∙ go (cases_lt k (length (meant v.sheet).requests))
    where
      go : (k < length (meant v.sheet).requests) ⊎ (length (meant v.sheet).requests ≤ k) → slice_get (meant v.sheet).requests k ≡ requested_at (shows v) k
      go (inl l) = rw (lt-ltb k (length (meant v.sheet).requests) l) (slice_get-get_or (meant v.sheet).requests k 0 l)
      go (inr l) = rw (le-ltb k (length (meant v.sheet).requests) l) (slice_get_past (meant v.sheet).requests k l)

  pub disks_are : (n : ℕ) → n ≡ length v.board.now.places.idle → n ≡ length (shows v).free
  unfolding shows
  disks_are n e = let f = λ (x : ℕ). leb x v.board.now.boundary in omega (arith, length-map v.board.now.places.idle f)
