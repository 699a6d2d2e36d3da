-- `tone::level::white_far` meets its contract. Assumes nothing.
use mathlib.Core.Path.{◌∙◌}
use native.Mathlib.Omega.{arith}
use Rattle.luminance.proofs.Storables.{stored_in_law}
use Rattle.tone.proofs.Whites.{Far, far}
use Rattle.tone.proofs.level.white_far.Goals as goal

pub returns : goal.returns
returns c =
    let k : Far c.args.tenths c.args.value c.args.exponent = far _ _ _ (omega arith) (omega arith) (omega arith) in
    c.stored_ratio.ensures ∙ stored_in_law k.storable ∙ k.same
