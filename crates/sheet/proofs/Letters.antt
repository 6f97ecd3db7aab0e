-- The letters that commands begin with. Assumes nothing.
use Rattle.std.proofs.Common.{◌≡◌, ℕ, false, refl, sym}
use Rattle.std.proofs.lemmas.Bool.{ne_eqb}
use Rattle.sheet.specs.declared.letter.Letter.TheVariants as letter
use Rattle.sheet.specs.declared.stage.Stage.{Stage}
use Rattle.sheet.specs.declared.stage.Stage.TheVariants.{Name, Geometry, Blocks, Requests, Nothing}
use Rattle.sheet.specs.Letters.{BeginsNone}
use Rattle.sheet.specs.Reading.{takes}

-- a byte that no command begins with is in place nowhere
pub takes_none : (g : Stage) (byte : ℕ) → BeginsNone byte → takes g byte ≡ false
takes_none Name byte h = ne_eqb byte 78 (λ e. h letter.Name (sym e))
takes_none Geometry byte h = ne_eqb byte 71 (λ e. h letter.Geometry (sym e))
takes_none Blocks byte h =
    rw (ne_eqb byte 68 (λ e. h letter.Disk (sym e)), ne_eqb byte 82 (λ e. h letter.Request (sym e)), ne_eqb byte 69 (λ e. h letter.End (sym e)))
takes_none Requests byte h = rw (ne_eqb byte 82 (λ e. h letter.Request (sym e)), ne_eqb byte 69 (λ e. h letter.End (sym e)))
takes_none Nothing byte h = refl
