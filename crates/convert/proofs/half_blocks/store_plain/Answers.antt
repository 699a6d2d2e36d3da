-- `convert::half_blocks::store_plain` meets its contract. Assumes nothing.
use Rattle.std.proofs.Common.{arith}
use Rattle.word.proofs.BlockKinds.{kind_at}
use Rattle.convert.proofs.HalfBlocks.{block_next}
use Rattle.convert.proofs.half_blocks.store_plain.Goals as goal

pub loop-j-preserved : goal.loop-j-preserved
loop-j-preserved c =
    let kind = kind_at _ _ _ c.requires.0.table c.requires.0.first c.loop-j-test.true in
    block_next _ _ _ c.loop-j.body c.loop-j.invariant c.requires.0.within c.loop-j-test.true
    (rw (kind, c.plain_codes-codes.ensures.code _ c.loop-j-test.true) (omega arith))
