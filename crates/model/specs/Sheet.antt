-- A sheet: its name, the rack that is read from, and the blocks that are requested, in order. Assumes nothing.
use Rattle.std.specs.Prelude.{◌≡◌, ℕ, ◌/◌, ◌%◌, ◌<◌, ◌≤◌, List, [], ◌∷◌, ◌++◌, reverse, length, slice_index}
use Rattle.std.specs.List.{flat_map}

-- disks, frames, fetch time, and the disk of each block, in the blocks' order
pub record Rack : Type 0 where
  pub disks : ℕ
  pub frames : ℕ
  pub fetch : ℕ
  pub homes : List ℕ

pub record Sheet : Type 0 where
  pub name : List ℕ
  pub rack : Rack
  pub requests : List ℕ

-- the same sheet with its requests in reverse
abbrev pub turned : Sheet → Sheet
turned s = record { name = s.name; rack = s.rack; requests = reverse s.requests }

abbrev pub Between : ℕ → ℕ → ℕ → Type 0
Between low high n = (low ≤ n) × (n ≤ high)

-- a rack within the limits
pub record RackFits (r : Rack) : Type 0 where
  pub disks : Between 1 8 r.disks
  pub frames : Between 1 64 r.frames
  pub fetch : Between 1 64 r.fetch
  pub blocks : Between r.frames 1024 (length r.homes)
  pub homes : (b : ℕ) → b < length r.homes → slice_index r.homes b < r.disks

-- a sheet within the limits: a name of sixteen bytes, and at most 4,096 requests, each of a block of the rack
pub record Fits (s : Sheet) : Type 0 where
  pub name : length s.name ≡ 16
  pub letters : (i : ℕ) → slice_index s.name i < 256
  pub rack : RackFits s.rack
  pub few : length s.requests ≤ 4096
  pub known : (i : ℕ) → i < length s.requests → slice_index s.requests i < length s.rack.homes

-- The letters of a sheet's commands.

abbrev pub letter_n : ℕ
letter_n = 78

abbrev pub letter_g : ℕ
letter_g = 71

abbrev pub letter_d : ℕ
letter_d = 68

abbrev pub letter_r : ℕ
letter_r = 82

abbrev pub letter_e : ℕ
letter_e = 69

-- The bytes of each command. A block's number has two bytes, the low one first.

abbrev pub name_bytes : List ℕ → List ℕ
name_bytes name = letter_n ∷ name

abbrev pub geometry_bytes : ℕ → ℕ → ℕ → List ℕ
geometry_bytes disks frames fetch = letter_g ∷ disks ∷ frames ∷ fetch ∷ []

abbrev pub disk_bytes : ℕ → List ℕ
disk_bytes disk = letter_d ∷ disk ∷ []

abbrev pub request_bytes : ℕ → List ℕ
request_bytes block = letter_r ∷ (block % 256) ∷ (block / 256) ∷ []

abbrev pub end_bytes : List ℕ
end_bytes = letter_e ∷ []

-- the bytes of a rack's commands
abbrev pub rack_bytes : Rack → List ℕ
rack_bytes r = geometry_bytes r.disks r.frames r.fetch ++ flat_map disk_bytes r.homes

-- the bytes of a sheet
abbrev pub sheet_bytes : Sheet → List ℕ
sheet_bytes s = name_bytes s.name ++ (rack_bytes s.rack ++ (flat_map request_bytes s.requests ++ end_bytes))
