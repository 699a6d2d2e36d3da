-- `average::tables::root` meets its contract: one test of all entries, which is computed. Assumes nothing.
use Rattle.std.proofs.Common.{◌<◌, refl, arith}
use Rattle.table.specs.Tables.{greatest}
use Rattle.table.proofs.Entries.{table}
use Rattle.average.specs.Tables.{root_test, root_of}
use Rattle.average.specs.declared.tables.TheConstants.{ROOTS}
use Rattle.average.proofs.tables.root.Goals as goal

pub returns : goal.returns
unfolding root_of root_test greatest
returns c =
    let below : c.args.f < 256 = omega arith in
    (table root_of {size = 256} ROOTS refl tt).entry c.args.f below
