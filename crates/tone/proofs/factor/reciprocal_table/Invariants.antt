-- What the loop keeps to: the entries below k are filled.
use mathlib.Core.Path.{◌≡◌}
use Prim.Native.Nat.{◌+◌}
use Rattle.number.proofs.Laws.{Filled}
use Rattle.tone.specs.loops.Factors.{reciprocal_of}
use Rattle.tone.proofs.factor.reciprocal_table.Given as goal

abbrev pub invariant-loop-k : goal.invariant-loop-k
invariant-loop-k l = Filled (λ i v. v ≡ reciprocal_of (128 + i)) 128 l.k l.entry-items
