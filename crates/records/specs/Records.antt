-- A bounded list: `slots` as the caller lent them, and how many of them are in use.
use Rattle.std.specs.Prelude.{ℕ, ◌+◌, cond, List, ◌++◌, length, take, drop, Ok, Err, Result, nat_lt}
use Rattle.records.specs.declared.full.ListFull.{ListFull}

-- the records of the list, in order
abbrev pub held : {T : Type 0} → ℕ → List T → List T
held len slots = take len slots

-- what a push answers: it is refused exactly if every slot is in use
abbrev pub pushed : {T : Type 0} → ℕ → List T → Result (Unit {0}) ListFull
pushed len slots = cond (nat_lt len (length slots)) (Ok tt) (Err (record {}))

-- how many records the list holds after a push
abbrev pub length_after : {T : Type 0} → ℕ → List T → ℕ
length_after len slots = cond (nat_lt len (length slots)) (len + 1) len

-- these slots, the first of them written over by records
abbrev pub written_over : {T : Type 0} → List T → List T → List T
written_over records slots = records ++ drop (length records) slots
