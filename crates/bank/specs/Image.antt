-- What an image bank is.
use Rattle.bank.specs.declared.disk_bank.DiskBank.{DiskBank}
use Rattle.bank.specs.declared.image.Recording.{Recording}
use Rattle.bank.specs.Meaning.{Meaning, Sound}
use Rattle.bank.specs.Recording.{recorded}
use Rattle.bank.specs.RecordingSound.{recorded_sound}

abbrev pub image_meaning : {g : _} → DiskBank Recording g → Meaning
image_meaning s = recorded s.store.bytes.now s.store.disks.now s.drives.fetch s.drives.list

pub image_sound : {g : _} (s : DiskBank Recording g) → Sound (image_meaning s)
image_sound s =
    recorded_sound s.store.bytes.now s.store.disks.now s.drives.fetch s.drives.list s.drives.eight s.store.matched s.store.placed
