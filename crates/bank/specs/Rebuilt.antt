-- What a rebuilt bank is.
use Rattle.bank.specs.declared.disk_bank.DiskBank.{DiskBank}
use Rattle.bank.specs.declared.rebuilt.Array.{Array}
use Rattle.bank.specs.Array.{rebuilt}
use Rattle.bank.specs.ArraySound.{array_sound}
use Rattle.bank.specs.Meaning.{Meaning, Sound}

abbrev pub rebuilt_meaning : {g : _} → DiskBank Array g → Meaning
rebuilt_meaning s = rebuilt s.store.image.now s.store.layout s.drives.fetch s.drives.list

pub rebuilt_sound : {g : _} (s : DiskBank Array g) → Sound (rebuilt_meaning s)
rebuilt_sound s =
    array_sound s.store.image.now s.store.layout s.drives.fetch s.drives.list s.drives.eight s.store.some s.store.few s.store.matched
