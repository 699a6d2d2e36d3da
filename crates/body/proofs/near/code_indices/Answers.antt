-- `body::near::code_indices` meets its contract. Assumes nothing.
use Rattle.number.proofs.Laws.{filled_next}
use Rattle.luminance.proofs.Laws.{is_near}
use Rattle.body.proofs.near.code_indices.Goals as goal

pub loop-j-preserved : goal.loop-j-preserved
loop-j-preserved c = filled_next c.loop-j.invariant c.loop-j-test.true (rw c.near_index.ensures (is_near _ _ _))
