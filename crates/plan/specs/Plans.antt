-- The plan that bytes are: their commands, read one after another, and what they make. Assumes nothing.
use Rattle.std.specs.Prelude.{ℕ, zero, suc, List, [], ◌∷◌, ◌++◌, length, drop}
use Rattle.model.specs.declared.Command.{Command}
use Rattle.model.specs.declared.Command.TheVariants.{Opens, Trades, Serves, Waits, Ends}
use Rattle.model.specs.Timetable.{Serve, Wait, Plan}
use Rattle.model.specs.Verdict.{Found, Missing, Strange, Known, found, size}

-- a command with those after it, or the end of the commands
abbrev pub followed_by : (Command → List Command) → Found → List Command
followed_by more Missing = []
followed_by more Strange = []
followed_by more (Known c) = c ∷ more c

-- the commands of bytes, at most so many
abbrev pub commands_in : ℕ → List ℕ → List Command
commands_in zero bytes = []
commands_in (suc n) bytes = followed_by (λ c. commands_in n (drop (size c) bytes)) (found bytes)

-- a plan with one command more: an exchange starts at the boundary reached
abbrev pub with_command : Plan → Command → Plan
with_command p (Opens b) = record { opening = p.opening ++ b ∷ []; acts = p.acts; exchanges = p.exchanges }
with_command p (Trades a b) = record { opening = p.opening; acts = p.acts; exchanges = p.exchanges ++ record { brings = a; sends = b; start = length p.acts } ∷ [] }
with_command p Serves = record { opening = p.opening; acts = p.acts ++ Serve ∷ []; exchanges = p.exchanges }
with_command p Waits = record { opening = p.opening; acts = p.acts ++ Wait ∷ []; exchanges = p.exchanges }
with_command p Ends = p

abbrev pub with_commands : Plan → List Command → Plan
with_commands p [] = p
with_commands p (c ∷ cs) = with_commands (with_command p c) cs

abbrev pub no_plan : Plan
no_plan = record { opening = []; acts = []; exchanges = [] }

-- every command has a byte at least, so there are no more commands than bytes
abbrev pub plan_in : List ℕ → Plan
plan_in bytes = with_commands no_plan (commands_in (length bytes) bytes)
