-- The command at the front of some bytes, by its letter. Assumes nothing.
use Rattle.std.proofs.Common.{◌≡◌, ℕ, List, get_or, sym}
use Rattle.sheet.specs.declared.letter.Letter.{Letter}
use Rattle.sheet.specs.declared.letter.Letter.TheVariants as letter
use Rattle.sheet.specs.Letters.{byte_of}
use Rattle.sheet.specs.Commands.{front_of, front_by, name_front, geometry_front, disk_front, request_front, end_front}

module _ (bytes : List ℕ) where
  pub by_N : get_or bytes 0 0 ≡ 78 → front_of bytes ≡ name_front bytes
  unfolding front_of
  by_N e = rw e

  pub by_G : get_or bytes 0 0 ≡ 71 → front_of bytes ≡ geometry_front bytes
  unfolding front_of
  by_G e = rw e

  pub by_D : get_or bytes 0 0 ≡ 68 → front_of bytes ≡ disk_front bytes
  unfolding front_of
  by_D e = rw e

  pub by_R : get_or bytes 0 0 ≡ 82 → front_of bytes ≡ request_front bytes
  unfolding front_of
  by_R e = rw e

  pub by_E : get_or bytes 0 0 ≡ 69 → front_of bytes ≡ end_front bytes
  unfolding front_of
  by_E e = rw e

-- the command at the front is that of the letter there
pub front_is : (bytes : List ℕ) (l : Letter) → byte_of l ≡ get_or bytes 0 0 → front_of bytes ≡ front_by l bytes
front_is bytes letter.Name e = by_N bytes (sym e)
front_is bytes letter.Geometry e = by_G bytes (sym e)
front_is bytes letter.Disk e = by_D bytes (sym e)
front_is bytes letter.Request e = by_R bytes (sym e)
front_is bytes letter.End e = by_E bytes (sym e)
