-- `average::tables::log_table` meets its contract: one test of all its entries, which is computed. Assumes nothing.
use mathlib.Core.Path.{refl}
use Rattle.table.specs.Tables.{greatest}
use Rattle.average.specs.Tables.{log_test, log_of}
use Rattle.table.proofs.Entries.{table}
use Rattle.average.proofs.tables.log_table.Goals as goal

pub returns : goal.returns
unfolding log_of log_test greatest
returns c = table _ _ refl tt
