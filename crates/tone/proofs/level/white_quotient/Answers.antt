-- `tone::level::white_quotient` meets its contract. Assumes nothing.
use mathlib.Core.Path.{◌∙◌}
use native.Mathlib.Omega.{arith}
use Rattle.luminance.proofs.Storables.{stored_in_law}
use Rattle.tone.proofs.Whites.{Quotient, quotient}
use Rattle.tone.proofs.level.white_quotient.Goals as goal

pub overflow_mul-part-2 : goal.overflow_mul-part-2
overflow_mul-part-2 c =
    omega (arith, (quotient c.args.tenths c.args.part c.args.one c.args.exponent (omega arith) c.requires.2).dividend_most)

pub returns : goal.returns
returns c =
    let k : Quotient c.args.tenths c.args.part c.args.one c.args.exponent = quotient _ _ _ _ (omega arith) c.requires.2 in
    c.stored_ratio.ensures ∙ stored_in_law k.storable ∙ k.same
