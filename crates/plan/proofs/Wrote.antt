-- Bytes written one after the other. Assumes nothing.
use Rattle.std.proofs.Common.{◌≡◌, ℕ, ◌+◌, ◌<◌, Bool, true, false, List, [], ◌∷◌, ◌++◌, length, get_or, take, sym, ap, ◌∙◌, subst}
use Rattle.std.proofs.lemmas.List.{append-nil, append_assoc, flat_map_more, take_more}
use Rattle.model.specs.Mirror.{picked}
use Rattle.model.specs.PlanBytes.{command_bytes, so_far}
use Rattle.model.specs.declared.Command.{Command}
use Rattle.model.specs.declared.Command.TheVariants.{Opens}
use Rattle.model.proofs.MirrorWriting.{opens_more}
use Rattle.model.proofs.Writing.{so_far_none}
use Rattle.std.specs.List.{flat_map}
use Rattle.plan.specs.Writers.{Wrote, Said}
use Rattle.plan.specs.declared.writer.Writer.{Writer}

-- one byte more of some
pub wrote_on : (bytes more area : List ℕ) (i : ℕ) (w : Writer) → i < length more → Wrote ((bytes ++ take i more) ++ get_or more i 0 ∷ []) area w → Wrote (bytes ++ take (i + 1) more) area w
wrote_on bytes more area i w l h =
    subst (λ (bs : List ℕ). Wrote bs area w) (append_assoc bytes (take i more) (get_or more i 0 ∷ []) ∙ ap (λ (bs : List ℕ). bytes ++ bs) (sym (take_more more i 0 l))) h

-- one command more
pub said_on : (cs : List Command) (c : Command) (bytes area : List ℕ) (w : Writer) → bytes ≡ command_bytes c → Wrote (flat_map command_bytes cs ++ bytes) area w → Said (cs ++ c ∷ []) area w
said_on cs c bytes area w e h =
    subst (λ (bs : List ℕ). Wrote bs area w) (ap (λ (bs : List ℕ). flat_map command_bytes cs ++ bs) e ∙ flat_map_more command_bytes [] cs c) h

-- one block of an opening more, or none
pub opens_on : (p : ℕ → Bool) (n : ℕ) (area : List ℕ) (w : Writer) → p n ≡ true → Said (so_far (picked p n) [] [] ++ Opens n ∷ []) area w → Said (so_far (picked p (n + 1)) [] []) area w
opens_on p n area w e h = subst (λ (cs : List Command). Said cs area w) (sym (opens_more p n ∙ rw e)) h

skips_on : (p : ℕ → Bool) (n : ℕ) → p n ≡ false → so_far (picked p (n + 1)) [] [] ≡ so_far (picked p n) [] []
skips_on p n e = opens_more p n ∙ rw e (append-nil (so_far (picked p n) [] []))

pub skipped_on : (p : ℕ → Bool) (n : ℕ) (area : List ℕ) (w : Writer) → p n ≡ false → Said (so_far (picked p n) [] []) area w → Said (so_far (picked p (n + 1)) [] []) area w
skipped_on p n area w e h = subst (λ (cs : List Command). Said cs area w) (sym (skips_on p n e)) h

-- no block of an opening yet
pub opens_none : (p : ℕ → Bool) (area : List ℕ) (w : Writer) → Said [] area w → Said (so_far (picked p 0) [] []) area w
unfolding picked
opens_none p area w h = subst (λ (cs : List Command). Said cs area w) (sym so_far_none) h
