-- The blocks of an opening, placed one after another. Assumes nothing.
use Rattle.std.proofs.Common.{◌≡◌, ℕ, ◌+◌, ◌<◌, ◌≤◌, List, [], ◌∷◌, length, get_or, drop, set, sym, refl, ◌∙◌}
use Rattle.std.proofs.lemmas.List.{at_drop_more, at_drop_all}
use Rattle.model.specs.declared.Mark.{Mark}
use Rattle.model.specs.declared.Mark.TheVariants.{Here}
use Rattle.model.specs.Sheet.{Sheet}
use Rattle.model.specs.Timetable.{Side}
use Rattle.model.specs.declared.Command.TheVariants.{Opens}
use Rattle.model.specs.Pass.{opens}
use Rattle.model.specs.Verdict.{State, begin, after, blank_marks, blank_idle}
use Rattle.planner.specs.Boards.{Stands}
use Rattle.planner.specs.declared.board.Board.{Board}

-- marks with so many blocks here
abbrev pub placed : List ℕ → List Mark → List Mark
placed [] ms = ms
placed (b ∷ bs) ms = placed bs (set ms b (Here 0))

pub placed_more : (bs : List ℕ) (i : ℕ) (ms : List Mark) → i < length bs → placed (drop i bs) ms ≡ placed (drop (i + 1) bs) (set ms (get_or bs i 0) (Here 0))
placed_more bs i ms l = at_drop_more (λ (cs : List ℕ). placed cs ms) bs i 0 l

pub record Opened (bs : List ℕ) (s t : State) : Type 0 where
  pub position : t.position ≡ s.position
  pub boundary : t.boundary ≡ s.boundary
  pub marks : t.marks ≡ placed bs s.marks
  pub idle : t.idle ≡ s.idle
  pub records : t.records ≡ s.records

pub opens_placed : (side : Side) (sheet : Sheet) (bs : List ℕ) (s : State) → Opened bs s (opens side sheet.rack.homes sheet.rack.frames sheet.rack.fetch sheet.requests bs s)
unfolding opens after
opens_placed side sheet [] s = record { position = refl; boundary = refl; marks = refl; idle = refl; records = refl }
opens_placed side sheet (b ∷ bs) s =
    let h = opens_placed side sheet bs (after side sheet.rack.homes sheet.rack.frames sheet.rack.fetch sheet.requests 0 s (Opens b)) in
    record { position = h.position; boundary = h.boundary; marks = h.marks; idle = h.idle; records = h.records }

pub stands_opened : (side : Side) (sheet : Sheet) (o : List ℕ) (b : Board) → b.position ≡ 0 → b.boundary ≡ 0 → b.places.marks ≡ placed o blank_marks → b.places.idle ≡ blank_idle →
    Stands b (opens side sheet.rack.homes sheet.rack.frames sheet.rack.fetch sheet.requests o begin)
stands_opened side sheet o b p t m i =
    let h = opens_placed side sheet o begin in
    record { position = h.position ∙ sym p; boundary = h.boundary ∙ sym t; marks = h.marks ∙ sym m; idle = h.idle ∙ sym i }

pub all_placed : (bs : List ℕ) (i : ℕ) (ms all : List Mark) → length bs ≤ i → placed (drop i bs) ms ≡ all → ms ≡ all
all_placed bs i ms all l e = sym (at_drop_all (λ (cs : List ℕ). placed cs ms) bs i l) ∙ e
