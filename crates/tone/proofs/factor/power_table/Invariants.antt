-- What the loop keeps to: the entries below i are filled.
use mathlib.Core.Path.{◌≡◌}
use Rattle.number.proofs.Laws.{Filled}
use Rattle.tone.specs.loops.Factors.{power_at}
use Rattle.tone.proofs.factor.power_table.Given as goal

abbrev pub invariant-loop-i : goal.invariant-loop-i
invariant-loop-i l = Filled (λ k v. v ≡ power_at k) 640 l.i l.powers
