-- `convert::half_blocks::plain_codes` meets its contract. Assumes nothing.
use Rattle.std.proofs.Common.{◌∙◌}
use Rattle.number.proofs.Laws.{filled_next, plain_half}
use Rattle.convert.proofs.half_blocks.plain_codes.Goals as goal

pub loop-j-preserved : goal.loop-j-preserved
loop-j-preserved c =
    filled_next c.loop-j.invariant c.loop-j-test.true
    (c.plain_half_code.ensures ∙ plain_half _ (c.requires.1.plain _ c.loop-j-test.true))
