-- `tone::level::white_near` meets its contract. Assumes nothing.
use mathlib.Core.Path.{◌∙◌}
use native.Mathlib.Omega.{arith}
use Rattle.luminance.proofs.Storables.{stored_in_law}
use Rattle.tone.proofs.Whites.{Near, near}
use Rattle.tone.proofs.level.white_near.Goals as goal

pub returns : goal.returns
returns c =
    let k : Near c.args.tenths c.args.value c.args.exponent c.shift_left-whole.result =
    near _ _ _ (omega arith) (omega arith) _ c.shift_left-whole.ensures (omega arith) in
    c.stored_ratio.ensures ∙ stored_in_law k.storable ∙ k.same
