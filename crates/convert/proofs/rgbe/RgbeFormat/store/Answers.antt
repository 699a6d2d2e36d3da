-- `store` of `Rgbe` meets its contract: at each turn the words that are left give the whole.
use Rattle.std.proofs.Common.{arith}
use Rattle.convert.proofs.Pixels.{writing_next, writing_done}
use Rattle.convert.proofs.rgbe.RgbeFormat.store.Goals as goal

pub loop-p-preserved : goal.loop-p-preserved
loop-p-preserved c =
    rw (c.store_pixel.ensures, c.as_chunks.ensures.front) (writing_next _ _ c.loop-p.body c.loop-p.invariant (omega arith))

pub returns : goal.returns
returns c = writing_done _ _ _ c.loop-p.invariant (omega arith)
