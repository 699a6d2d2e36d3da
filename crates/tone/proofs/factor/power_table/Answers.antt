-- `tone::factor::power_table` meets its contract. Assumes nothing.
use mathlib.Core.Path.{refl, sym, ◌∙◌}
use native.Mathlib.Omega.{arith}
use lib.ListN.{get_or-replicate}
use Rattle.tone.proofs.Powers.{power_below}
use Rattle.tone.proofs.factor.power_table.Goals as goal

pub loop-i-init : goal.loop-i-init
loop-i-init c = record { size = refl; entry = λ k l. get_or-replicate 640 k 0 0 (omega arith) ∙ sym (power_below k l) }
