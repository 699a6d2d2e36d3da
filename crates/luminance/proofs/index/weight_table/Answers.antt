-- `luminance::index::weight_table` meets its contract. Assumes nothing.
use Rattle.std.proofs.Common.{arith}
use Rattle.number.proofs.Laws.{filled_next}
use Rattle.luminance.proofs.Products.{shift_most}
use Rattle.luminance.proofs.index.weight_table.Goals as goal

pub loop-i-preserved : goal.loop-i-preserved
loop-i-preserved c =
    filled_next c.loop-i.invariant (omega arith) (omega (arith, shift_most c.args.weight c.loop-i.i 67 47 (omega arith) (omega arith)))
