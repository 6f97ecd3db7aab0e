-- Start, the fetch time and collect, one after the other.
use Rattle.std.proofs.Common.{◌≡◌, ℕ, ◌-◌, ◌<◌, Bool, true, false, cond, ltb, List, [], ◌++◌, map, length, get_or, drop, set, is_ok, Some, None, Ok, Err, sym, refl, ap, ◌∙◌, arith}
use Rattle.std.proofs.lemmas.List.{get_or-set_same, set-set, map-set, length-map}
use Rattle.std.proofs.lemmas.Bool.Decides.{nat_tests}
use Rattle.bank.specs.declared.fault.BankFault.{BankFault}
use Rattle.bank.specs.declared.fault.BankFault.TheVariants.{NoSuchBlock, BufferTooShort}
use Rattle.bank.specs.declared.state.DiskState.{DiskState}
use Rattle.bank.specs.declared.state.DiskState.TheVariants.{Idle, Busy}
use Rattle.bank.specs.Calls.{start_answer, start_after, ready_on, granted, collect_answer, collect_after, delivered, collect_buffer}
use Rattle.bank.specs.Fetched.{lessened, later, fetch_answer, fetch_after, fetch_buffer}
use Rattle.bank.specs.Fetching.{start_on, ready}
use Rattle.bank.specs.Meaning.{Meaning, Sound, having}
use Rattle.bank.specs.Questions.{disk_of}

-- a block whose disk is known is there
disk_there : (m : Meaning) (b d : ℕ) → disk_of m b ≡ Some d → (b < length m.disks) × (d ≡ get_or m.disks b 0)
disk_there m b d e = grind (arith, nat_tests)

-- a start leaves the fetch time as it is
pub started_fetch : (m : Meaning) (b : ℕ) → (start_after m b).fetch ≡ m.fetch
unfolding start_after
started_fetch m b = refl

-- a start that is refused ends it
module _ (m : Meaning) (b : ℕ) (f : BankFault) (refused : start_answer m b ≡ Err f) where
  pub refused_answer : (room : ℕ) → Err f ≡ fetch_answer m b room
  unfolding fetch_answer
  refused_answer room = rw refused

  pub refused_start : start_after m b ≡ m
  unfolding start_after
  refused_start = rw refused

  pub refused_after : (room : ℕ) → m ≡ fetch_after m b room
  unfolding fetch_after
  refused_after room = rw refused

  pub refused_bytes : (buffer : List ℕ) → buffer ≡ fetch_buffer m b buffer
  unfolding fetch_buffer fetch_answer
  refused_bytes buffer = rw refused

-- a block that has no disk is refused
module _ (m : Meaning) (b : ℕ) (none : disk_of m b ≡ None) where
  start_no_block : start_answer m b ≡ Err NoSuchBlock
  unfolding start_answer
  start_no_block = ap (λ d. start_on d m.states) none

  pub no_block_answer : (room : ℕ) → Err NoSuchBlock ≡ fetch_answer m b room
  no_block_answer room = refused_answer m b NoSuchBlock start_no_block room

  pub no_block_after : (room : ℕ) → m ≡ fetch_after m b room
  no_block_after room = refused_after m b NoSuchBlock start_no_block room

  pub no_block_bytes : (buffer : List ℕ) → buffer ≡ fetch_buffer m b buffer
  no_block_bytes buffer = refused_bytes m b NoSuchBlock start_no_block buffer

module _ (m : Meaning) (sound : Sound m) (b d : ℕ) (known : disk_of m b ≡ Some d) (started : start_answer m b ≡ Ok tt) where
  -- the disks when the fetch time has passed
  abbrev passed : List DiskState
  passed = map (lessened m.fetch) m.states

  on_disk : d < length passed
  on_disk =
      let there = disk_there m b d known in
      let pairs = sound.paired in
      let placed = sound.placed b (omega arith) in
      let eight = sound.eight in
      let same = length-map m.states (lessened m.fetch) in
      omega arith

  -- the block lies ready then
  ripe : later m.fetch (start_after m b) ≡ having m (set passed d (Busy b 0))
  unfolding later start_after
  ripe =
      let spent : m.fetch - m.fetch ≡ 0 = omega arith in
      rw (started, known) (ap (having m) (map-set (lessened m.fetch) m.states d (Busy b m.fetch) ∙ ap (λ n. set passed d (Busy b n)) spent))

  lies_there : get_or (set passed d (Busy b 0)) d Idle ≡ Busy b 0
  lies_there = get_or-set_same passed d (Busy b 0) Idle on_disk

  -- collected then, for want of room (t) or not
  ripe_answer : (t : Bool) → granted (cond t (Err BufferTooShort) (Ok b)) ≡ cond t (Err BufferTooShort) (Ok tt)
  ripe_answer true = refl
  ripe_answer false = refl

  ripe_states : (t : Bool) → cond (is_ok {E = BankFault} (cond t (Err BufferTooShort) (Ok b))) (set (set passed d (Busy b 0)) d Idle) (set passed d (Busy b 0)) ≡ set passed d (cond t (Busy b 0) Idle)
  ripe_states true = refl
  ripe_states false = set-set passed d (Busy b 0) Idle

  ripe_bytes : (t : Bool) (buffer : List ℕ) → delivered m.blocks (cond t (Err BufferTooShort) (Ok b)) buffer ≡ cond (is_ok {T = Unit {0}} {E = BankFault} (cond t (Err BufferTooShort) (Ok tt))) (get_or m.blocks b [] ++ drop 512 buffer) buffer
  ripe_bytes true buffer = refl
  ripe_bytes false buffer = refl

  pub whole_answer : (room : ℕ) → collect_answer (later m.fetch (start_after m b)) d room ≡ fetch_answer m b room
  unfolding collect_answer ready_on fetch_answer
  whole_answer room =
      ap (λ z. collect_answer z d room) ripe
      ∙ (ap (λ s. granted (ready s room)) lies_there
      ∙ (ripe_answer (ltb room 512) ∙ ap (λ r. cond (is_ok r) (cond (ltb room 512) (Err BufferTooShort) (Ok tt)) r) (sym started)))

  pub whole_after : (room : ℕ) → collect_after (later m.fetch (start_after m b)) d room ≡ fetch_after m b room
  unfolding collect_after ready_on fetch_after
  whole_after room =
      ap (λ z. collect_after z d room) ripe
      ∙ (ap (λ s. having m (cond (is_ok (ready s room)) (set (set passed d (Busy b 0)) d Idle) (set passed d (Busy b 0)))) lies_there
      ∙ (ap (having m) (ripe_states (ltb room 512))
      ∙ (ap (λ k. having m (set passed k (cond (ltb room 512) (Busy b 0) Idle))) (disk_there m b d known).1
      ∙ ap (λ r. cond (is_ok r) (having m (set passed (get_or m.disks b 0) (cond (ltb room 512) (Busy b 0) Idle))) m) (sym started))))

  pub whole_bytes : (buffer : List ℕ) → collect_buffer (later m.fetch (start_after m b)) d buffer ≡ fetch_buffer m b buffer
  unfolding collect_buffer ready_on fetch_buffer fetch_answer
  whole_bytes buffer =
      let t = ltb (length buffer) 512 in
      ap (λ z. collect_buffer z d buffer) ripe
      ∙ (ap (λ s. delivered m.blocks (ready s (length buffer)) buffer) lies_there
      ∙ (ripe_bytes t buffer ∙ ap (λ r. cond (is_ok (cond (is_ok r) (cond t (Err BufferTooShort) (Ok tt)) r)) (get_or m.blocks b [] ++ drop 512 buffer) buffer) (sym started)))

pub ruleset whole_fetch = (no_block_answer, no_block_after, no_block_bytes, refused_answer, refused_start, refused_after, refused_bytes, started_fetch, whole_answer, whole_after, whole_bytes)
