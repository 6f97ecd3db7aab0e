-- The command at the front of some bytes. Assumes nothing.
use Rattle.std.specs.Prelude.{◌≡◌, ℕ, ◌+◌, ◌*◌, cond, List, length, take, drop, Some, None, Option, ◌==◌, nat_le, slice_index, slice_index_or}
use Rattle.model.specs.Sheet.{letter_n, letter_g, letter_d, letter_r, letter_e}
use Rattle.commands.specs.declared.reader.Reader.{Reader}
use Rattle.sheet.specs.declared.letter.Letter.{Letter}
use Rattle.sheet.specs.declared.letter.Letter.TheVariants as letter
use Rattle.sheet.specs.declared.command.Command.{Command}
use Rattle.sheet.specs.declared.command.Command.TheVariants.{Name, Geometry, Disk, Request, End}

-- what a command says
pub data Said : Type 0 where
  name : List ℕ → Said
  geometry : ℕ → ℕ → ℕ → Said
  disk : ℕ → Said
  request : ℕ → Said
  end : Said

-- what a command of the code says, its name being the bytes that it borrows
abbrev pub said : Command → Said
said (Name bytes) = name bytes.now
said (Geometry g) = geometry g.disks g.frames g.fetch
said (Disk d) = disk d
said (Request b) = request b
said End = end

-- a name that is said has sixteen bytes
abbrev pub WholeName : Said → Type 0
WholeName (name n) = length n ≡ 16
WholeName (geometry d k f) = Unit {0}
WholeName (disk d) = Unit {0}
WholeName (request b) = Unit {0}
WholeName end = Unit {0}

-- a command and the bytes after it
abbrev pub parsed : Option (Command × Reader) → Option (Said × List ℕ)
parsed None = None
parsed (Some p) = Some (said p.0, p.1.rest.now)

abbrev pub name_front : List ℕ → Option (Said × List ℕ)
name_front bytes = cond (nat_le 17 (length bytes)) (Some (name (take 16 (drop 1 bytes)), drop 16 (drop 1 bytes))) None

abbrev pub geometry_front : List ℕ → Option (Said × List ℕ)
geometry_front bytes = cond (nat_le 4 (length bytes)) (Some (geometry (slice_index bytes 1) (slice_index bytes 2) (slice_index bytes 3), drop 4 bytes)) None

abbrev pub disk_front : List ℕ → Option (Said × List ℕ)
disk_front bytes = cond (nat_le 2 (length bytes)) (Some (disk (slice_index bytes 1), drop 2 bytes)) None

-- the low byte comes first
abbrev pub request_front : List ℕ → Option (Said × List ℕ)
request_front bytes = cond (nat_le 3 (length bytes)) (Some (request (slice_index bytes 1 + 256 * slice_index bytes 2), drop 3 bytes)) None

abbrev pub end_front : List ℕ → Option (Said × List ℕ)
end_front bytes = cond (nat_le 1 (length bytes)) (Some (end, drop 1 bytes)) None

-- the command at the front, known by its letter, and the bytes after it; none if its bytes run out or no command has the letter
unfoldable pub front_of : List ℕ → Option (Said × List ℕ)
front_of bytes =
    let c = slice_index_or bytes 0 0 in
    cond (c == letter_n) (name_front bytes)
    (cond (c == letter_g) (geometry_front bytes)
    (cond (c == letter_d) (disk_front bytes)
    (cond (c == letter_r) (request_front bytes)
    (cond (c == letter_e) (end_front bytes) None))))

-- how many bytes the command of a letter has, with its letter
abbrev pub size_by : Letter → ℕ
size_by letter.Name = 17
size_by letter.Geometry = 4
size_by letter.Disk = 2
size_by letter.Request = 3
size_by letter.End = 1

-- the command of a letter
abbrev pub front_by : Letter → List ℕ → Option (Said × List ℕ)
front_by letter.Name bytes = name_front bytes
front_by letter.Geometry bytes = geometry_front bytes
front_by letter.Disk bytes = disk_front bytes
front_by letter.Request bytes = request_front bytes
front_by letter.End bytes = end_front bytes
