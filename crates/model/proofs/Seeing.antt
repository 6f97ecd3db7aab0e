-- What a rule sees of a state, and what the state itself tells: the same.
use Rattle.std.proofs.Common.{◌≡◌, ℕ, zero, suc, ◌<◌, ◌≤◌, true, false, not, ◌&&◌, eqb, leb, List, [], ◌∷◌, length, get_or, drop, sym, refl, ◌∙◌, subst, arith}
use Rattle.std.proofs.lemmas.List.{get_or_append_left, get_or_push, length_push, get_or-map, length-map}
use Rattle.std.proofs.lemmas.Bool.{leb-true, le-leb, eqb-true, lt-ltb, cases_eq}
use Rattle.std.proofs.lemmas.Bool.Decides.{nat_tests}
use Rattle.model.specs.Timetable.{Side, Forward, Backward, occupies}
use Rattle.model.specs.Verdict.{Mark, Away, Here, is_away_at, is_here_at, State}
use Rattle.model.specs.View.{Place, View, is_absent, is_resident, missing, may_go_out, lawful, is_free, disk_of, next_use}
use Rattle.model.specs.Pass.{each, place_by, named_by, seen}
use Rattle.model.proofs.Choosing.{lawful_parts, four_all, free_known}
use Rattle.model.proofs.Answering.{first_at_lem, first_is}

pub each_length : {X : Type 0} (f : ℕ → X) (n : ℕ) → length (each f n) ≡ n
unfolding each
each_length f zero = refl
each_length f (suc n) = let e = each_length f n in omega (arith, length_push (each f n) (f n))

pub each_at : {X : Type 0} (f : ℕ → X) (n b : ℕ) (d : X) → b < n → get_or (each f n) b d ≡ f b
unfolding each
each_at f zero b d l = absurd (omega arith)
each_at f (suc n) b d l =
    let h = λ (m : b < n). each_at f n b d m in
    let e = each_length f n in
    let last = get_or_push (each f n) (f n) d b in
    let front = get_or_append_left (each f n) (f n ∷ []) d b in
    grind (arith, cases_eq b n)

-- the mark of a block, and from when a disk is idle
abbrev pub mark : State → ℕ → Mark
mark s b = get_or s.marks b (Away 0)

abbrev pub idle_from : State → ℕ → ℕ
idle_from s d = get_or s.idle d 0

missing_by : (fetch t : ℕ) (m : Mark) → (is_absent (place_by fetch t m) && not (named_by fetch t m)) ≡ is_away_at m t
missing_by fetch t (Away g) = grind (arith, nat_tests)
missing_by fetch t (Here l) = grind (arith, nat_tests)

resident_by : (fetch t : ℕ) (m : Mark) → (is_resident (place_by fetch t m) && not (named_by fetch t m)) ≡ is_here_at m t
resident_by fetch t (Away g) = grind (arith, nat_tests)
resident_by fetch t (Here l) = grind (arith, nat_tests)

-- a block is requested at or after a position
pub record Requested (requests : List ℕ) (p b : ℕ) : Type 0 where
  pub at : ℕ
  pub from : p ≤ at
  pub within : at < length requests
  pub is : get_or requests at 0 ≡ b

pub use_requested : (v : View) (b : ℕ) → next_use v b < length v.requests → Requested v.requests v.position b
use_requested v b h =
    let l = first_at_lem (λ r. eqb r b) (drop v.position v.requests) v.position in
    let f = first_is v (λ r. eqb r b) (omega (arith, l.is)) in
    record { at = next_use v b; from = f.from; within = h; is = eqb-true (get_or v.requests (next_use v b) 0) b (f.passes h) }

-- the disk of an exchange does not depend on its start
pub disk_late : (side : Side) (homes : List ℕ) (p q t u : ℕ) → occupies side homes (record { brings = p; sends = q; start = t }) ≡ occupies side homes (record { brings = p; sends = q; start = u })
disk_late Forward homes p q t u = refl
disk_late Backward homes p q t u = refl

module _ (side : Side) (homes : List ℕ) (frames fetch : ℕ) (requests : List ℕ) (s : State) where
  pub sees_missing : (b : ℕ) → b < length homes → missing (seen side homes frames fetch requests s) b ≡ is_away_at (mark s b) s.boundary
  sees_missing b l =
      rw (each_at (λ c. place_by fetch s.boundary (mark s c)) (length homes) b Place.Absent l, each_at (λ c. named_by fetch s.boundary (mark s c)) (length homes) b false l)
      (missing_by fetch s.boundary (mark s b))

  pub sees_out : (b : ℕ) → b < length homes → may_go_out (seen side homes frames fetch requests s) b ≡ is_here_at (mark s b) s.boundary
  sees_out b l =
      rw (lt-ltb b (length homes) l, each_at (λ c. place_by fetch s.boundary (mark s c)) (length homes) b Place.Absent l, each_at (λ c. named_by fetch s.boundary (mark s c)) (length homes) b false l)
      (resident_by fetch s.boundary (mark s b))

  pub sees_free : (d : ℕ) → d < length s.idle → is_free (seen side homes frames fetch requests s) d ≡ leb (idle_from s d) s.boundary
  sees_free d l = get_or-map (λ f. leb f s.boundary) s.idle d 0 false l

  free_listed : (d : ℕ) → is_free (seen side homes frames fetch requests s) d ≡ true → d < length s.idle
  free_listed d e = omega (arith, free_known (seen side homes frames fetch requests s) d e, length-map s.idle (λ f. leb f s.boundary))

  pub is_free_lem : (d : ℕ) → is_free (seen side homes frames fetch requests s) d ≡ true → idle_from s d ≤ s.boundary
  is_free_lem d e = leb-true (idle_from s d) s.boundary (sym (sees_free d (free_listed d e)) ∙ e)

  -- what a start asks of the state
  pub record Takes (p q : ℕ) : Type 0 where
    pub known_in : p < length homes
    pub known_out : q < length homes
    pub away : is_away_at (mark s p) s.boundary ≡ true
    pub here : is_here_at (mark s q) s.boundary ≡ true
    pub idle : idle_from s (occupies side homes (record { brings = p; sends = q; start = s.boundary })) ≤ s.boundary

  pub lawful_takes : (p q : ℕ) → lawful (seen side homes frames fetch requests s) p q ≡ true → Takes p q
  lawful_takes p q e =
      let k = lawful_parts (seen side homes frames fetch requests s) p q e in
      record {
        known_in = k.known_in;
        known_out = k.known_out;
        away = sym (sees_missing p k.known_in) ∙ k.comes;
        here = sym (sees_out q k.known_out) ∙ k.goes;
        idle = subst (λ (d : ℕ). idle_from s d ≤ s.boundary) (disk_late side homes p q 0 s.boundary) (is_free_lem (disk_of (seen side homes frames fetch requests s) p q) k.on_free);
      }

  pub takes_lawful : (p q : ℕ) → Takes p q → occupies side homes (record { brings = p; sends = q; start = 0 }) < length s.idle → lawful (seen side homes frames fetch requests s) p q ≡ true
  takes_lawful p q k l =
      four_all _ _ _ _ (lt-ltb p (length homes) k.known_in) (sees_missing p k.known_in ∙ k.away) (sees_out q k.known_out ∙ k.here)
      (sees_free _ l ∙ le-leb (idle_from s (occupies side homes (record { brings = p; sends = q; start = 0 }))) s.boundary (subst (λ (d : ℕ). idle_from s d ≤ s.boundary) (disk_late side homes p q s.boundary 0) k.idle))
