-- The bytes of a plan: exactly as many opening commands as there are frames, then for each step the exchanges
-- that start at its boundary and the step itself, then the end. A command is known by its letter; a block
-- number has two bytes, low byte first.
use Rattle.std.specs.Prelude.{ℕ, ◌+◌, ◌/◌, ◌%◌, cond, List, [], ◌∷◌, ◌++◌, map, length, ◌==◌}
pub use Rattle.model.specs.declared.Command.{Command}
pub use Rattle.model.specs.declared.Command.TheVariants.{Opens, Trades, Serves, Waits, Ends}
use Rattle.std.specs.List.{flat_map}
use Rattle.model.specs.Timetable.{Exchange, Act, Serve, Wait, Plan}

-- The commands of a plan: Opens b is O with a block, Trades a b is X with the block in and the block out, Serves is
-- S, Waits is W and Ends is E.

-- the bytes of a block number
abbrev pub low : ℕ → ℕ
low b = b % 256

abbrev pub high : ℕ → ℕ
high b = b / 256

-- the bytes of a command, its letter first
abbrev pub command_bytes : Command → List ℕ
command_bytes (Opens b) = 79 ∷ low b ∷ high b ∷ []
command_bytes (Trades a b) = 88 ∷ low a ∷ high a ∷ low b ∷ high b ∷ []
command_bytes Serves = 83 ∷ []
command_bytes Waits = 87 ∷ []
command_bytes Ends = 69 ∷ []

abbrev pub act_command : Act → Command
act_command Serve = Serves
act_command Wait = Waits

abbrev pub trade_command : Exchange → Command
trade_command x = Trades x.brings x.sends

-- the exchanges of a list that start at boundary t
unfoldable pub starting_at : ℕ → List Exchange → List Exchange
starting_at t [] = []
starting_at t (x ∷ xs) = cond (x.start == t) (x ∷ starting_at t xs) (starting_at t xs)

-- the commands of the steps from boundary t on
unfoldable pub step_commands : ℕ → List Act → List Exchange → List Command
step_commands t [] xs = []
step_commands t (act ∷ acts) xs = map trade_command (starting_at t xs) ++ (act_command act ∷ step_commands (t + 1) acts xs)

-- the commands of a plan, and its bytes
unfoldable pub plan_commands : Plan → List Command
plan_commands plan = map Opens plan.opening ++ (step_commands 0 plan.acts plan.exchanges ++ (Ends ∷ []))

unfoldable pub plan_bytes : Plan → List ℕ
plan_bytes plan = flat_map command_bytes (plan_commands plan)

-- the commands of a plan as far as it is read: its opening, its steps, and the exchanges started at the boundary reached
unfoldable pub so_far : List ℕ → List Act → List Exchange → List Command
so_far o a xs = map Opens o ++ (step_commands 0 a xs ++ map trade_command (starting_at (length a) xs))

-- A plan has at most this many bytes.
abbrev pub plan_limit : ℕ
plan_limit = 1_048_576
