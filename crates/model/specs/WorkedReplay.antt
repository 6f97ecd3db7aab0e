-- The seven-step plan replayed: what the tally, the disks and the answers are along the way.
use Rattle.std.specs.Prelude.{◌≡◌, true, false, [], ◌∷◌, ◌++◌, replicate}
use Rattle.model.specs.Sheet.{Sheet}
use Rattle.model.specs.Timetable.{Serve, Wait, Plan}
use Rattle.model.specs.Worked.{homes6, requests6}
use Rattle.model.specs.Replay.{Bank, Idle, Fetches, Stepped, Told, Refused, Step, Read, Count, tally_at, bank_at, replies, Start, Tick, Collect, all_granted, asked_all, loading, asks_at, asks_up_to}

abbrev sheet6 : Sheet
sheet6 = record { name = replicate 16 32; rack = record { disks = 2; frames = 4; fetch = 2; homes = homes6 }; requests = requests6 }

-- X 2 5 at boundary 0, X 4 0 at 2, X 5 1 at 4; one wait, before the last serve
abbrev seven_steps : Plan
seven_steps = record {
  opening = 0 ∷ 1 ∷ 3 ∷ 5 ∷ [];
  acts = Serve ∷ Serve ∷ Serve ∷ Serve ∷ Serve ∷ Wait ∷ Serve ∷ [];
  exchanges = record { brings = 2; sends = 5; start = 0 } ∷ record { brings = 4; sends = 0; start = 2 } ∷ record { brings = 5; sends = 1; start = 4 } ∷ [];
}

-- block b has the number b in each of its bytes
abbrev bank6 : Bank
bank6 = record { bytes = replicate 512 0 ∷ replicate 512 1 ∷ replicate 512 2 ∷ replicate 512 3 ∷ replicate 512 4 ∷ replicate 512 5 ∷ []; homes = homes6; fetch = 2; doing = λ d. Idle }

pub record WorkedReplay : Type 0 where
  pub first : (bank_at sheet6 seven_steps bank6 1).doing 0 ≡ Fetches 2 1
  pub other : (bank_at sheet6 seven_steps bank6 1).doing 1 ≡ Idle
  pub second : (bank_at sheet6 seven_steps bank6 3).doing 0 ≡ Fetches 4 1
  pub over : (bank_at sheet6 seven_steps bank6 7).doing 0 ≡ Idle
  pub tally : tally_at sheet6 seven_steps bank6 7 ≡ record { steps = 7; served = 6; waited = 1; started = 3; landed = 3 }
  pub calls : replies sheet6 seven_steps bank6 5 (Step ∷ Read [] ∷ Step ∷ Read [] ∷ Step ∷ Count ∷ []) ≡ Stepped Wait ∷ Refused 23 6 [] ∷ Stepped Serve ∷ Refused 24 7 [] ∷ Refused 22 7 [] ∷ Told (record { steps = 7; served = 6; waited = 1; started = 3; landed = 3 }) ∷ []
  pub asks : asks_at sheet6 seven_steps bank6 2 ≡ Collect 0 ∷ Start 4 ∷ Tick ∷ []
  pub quiet : all_granted bank6 (loading sheet6 seven_steps bank6 (0 ∷ 1 ∷ 3 ∷ 5 ∷ []) ++ asks_up_to sheet6 seven_steps bank6 7) ≡ true
  pub idle : (asked_all bank6 (loading sheet6 seven_steps bank6 (0 ∷ 1 ∷ 3 ∷ 5 ∷ []) ++ asks_up_to sheet6 seven_steps bank6 7)).doing 0 ≡ Idle
  -- a step is needed in between: the second exchange of the disk cannot start before the first is collected
  pub early : all_granted bank6 (Start 2 ∷ Tick ∷ Tick ∷ Start 4 ∷ []) ≡ false
