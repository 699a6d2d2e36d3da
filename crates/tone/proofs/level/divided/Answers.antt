-- `tone::level::divided` meets its contract. Assumes nothing.
use mathlib.Core.Path.{◌∙◌}
use native.Mathlib.Nat.{lt_of_le_of_lt}
use native.Mathlib.Omega.{arith}
use lib.Dec.{lit<}
use Rattle.tone.proofs.Displays.{Divided, divided}
use Rattle.luminance.proofs.Products.{shift_most}
use Rattle.luminance.proofs.Storables.{stored_in_law}
use Rattle.tone.proofs.level.divided.Goals as goal

pub shift_left-whole-requires : goal.shift_left-whole-requires
shift_left-whole-requires c =
    (omega arith, lt_of_le_of_lt (shift_most _ _ 511 38 (omega arith) (omega arith)) (lit< tt))

pub overflow_add-whole : goal.overflow_add-whole
overflow_add-whole c =
    omega (arith, (divided _ _ _ (omega arith) c.shift_left-whole.ensures (omega arith)).most)

pub returns : goal.returns
returns c =
    let d : Divided c.args.value c.args.exponent c.shift_left-whole.result = divided _ _ _ (omega arith) c.shift_left-whole.ensures (omega arith) in
    c.stored_ratio.ensures ∙ stored_in_law d.storable ∙ d.same
