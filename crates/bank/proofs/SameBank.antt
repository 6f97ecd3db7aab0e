-- A rebuilt bank beside the image bank of the undamaged recording.
use Rattle.std.proofs.Common.{◌≡◌, ℕ, ◌*◌, ◌<◌, ltb, true, List, length, get_or, Ok, sym, ap, ◌∙◌, arith}
use Rattle.std.proofs.lemmas.Nat.{mod_below}
use Rattle.std.proofs.lemmas.List.{get_or_default}
use Rattle.std.proofs.lemmas.List.Sums.{list_all-from_AllPass}
use Rattle.std.proofs.lemmas.Bool.{and_from, cond-true, lt-ltb, eq-eqb}
use Rattle.bank.specs.declared.layout.Layout.{Layout}
use Rattle.bank.specs.Array.{spread, rebuilt}
use Rattle.bank.specs.ArrayLoad.{array_limits, array_answer, array_loaded}
use Rattle.bank.specs.ArraySound.{length_spread, get_or_spread}
use Rattle.bank.specs.Limits.{all_below}
use Rattle.bank.specs.Meaning.{all_idle}
use Rattle.bank.specs.Recording.{recorded, blocks_of}
use Rattle.bank.specs.RecordingLoad.{recording_limits, recording_answer, recording_loaded}
use Rattle.bank.specs.Undamaged.{LeftOf}
use Rattle.bank.proofs.ArrayLoads as array
use Rattle.bank.proofs.Loads as recording-load
use Rattle.bank.proofs.Recovery.{same_blocks}

all_below_lem : (n : ℕ) (xs : List ℕ) → ((i : ℕ) → i < length xs → get_or xs i 0 < n) → all_below n xs ≡ true
all_below_lem n xs each = list_all-from_AllPass (λ x. ltb x n) xs (λ i d h.
    let same = get_or_default xs i d 0 h in
    let low = each i h in
    lt-ltb _ n (omega arith))

-- the disks that the blocks are spread over are within the limits
spread_fits : (l : Layout) (steps : ℕ) → array_limits l steps ≡ true → recording_limits (spread l) steps ≡ true
unfolding recording_limits
spread_fits l steps e =
    let count = length_spread l in
    and_from _ _ (rw count (array.limits_count l steps e)) (and_from _ _ (array.limits_fetch l steps e) (all_below_lem 8 (spread l) (λ b h.
    let k : b < l.blocks = omega arith in
    let on = get_or_spread l b k in
    let low = mod_below b l.disks (array.limits_some l steps e) in
    let eight = array.limits_eight l steps e in
    omega arith)))

module _ (recording image : List ℕ) (l : Layout) (steps : ℕ) (granted : array_answer image l steps ≡ Ok tt) (left : LeftOf recording image l) where
  limits : array_limits l steps ≡ true
  limits = array.granted_limits image l steps granted

  -- the recording itself would be granted
  recording_granted : recording_answer recording (spread l) steps ≡ Ok tt
  recording_granted =
      let count = length_spread l in
      let whole = left.whole in
      cond-true _ _ _ (spread_fits l steps limits)
      ∙ cond-true _ _ _ (eq-eqb (length recording) (512 * length (spread l)) (omega arith))

  -- bytes, places, fetch time and idle disks: all the same
  same_meaning : rebuilt image l steps all_idle ≡ recorded recording (spread l) steps all_idle
  same_meaning =
      let bytes =
      same_blocks recording image l (array.limits_some l steps limits) (array.granted_matched image l steps granted) left
      ∙ ap (blocks_of recording) (sym (length_spread l)) in
      λ i. record { blocks = bytes i; disks = spread l; fetch = steps; states = all_idle }

  pub same_bank : array_loaded image l steps ≡ recording_loaded recording (spread l) steps
  same_bank =
      sym (array.granted_loaded image l steps granted)
      ∙ (same_meaning ∙ recording-load.granted_loaded recording (spread l) steps recording_granted)
