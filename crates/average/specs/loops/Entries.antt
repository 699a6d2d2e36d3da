-- The table T as the code has it: a list of what its rule gives. Assumes nothing.
use Rattle.std.specs.Prelude.{List, ℕ, ◌+◌}
use Rattle.table.specs.Tables.{IsTable}
use Rattle.average.specs.Tables.{log_of}

-- T[128] to T[255]
abbrev pub IsLogTable : List ℕ → Type 0
IsLogTable logs = IsTable 128 (λ k. log_of (128 + k)) logs
