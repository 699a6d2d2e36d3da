-- `convert::half_blocks::all_finite` meets its contract: while `most` is small, the verdict on the elements that are left is that on all.
use Rattle.std.proofs.Common.{arith}
use Rattle.convert.proofs.HalfBlocks.{finite_next}
use Rattle.convert.proofs.half_blocks.all_finite.Goals as goal

pub loop-half-preserved : goal.loop-half-preserved
loop-half-preserved c = finite_next _ _ _ _ c.loop-half.invariant c.loop-half-test.true (omega arith, omega arith)
