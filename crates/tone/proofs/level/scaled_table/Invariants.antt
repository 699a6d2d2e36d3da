-- What the loop keeps to: the entries below k are filled.
use mathlib.Core.Path.{◌≡◌}
use Prim.Native.Nat.{◌+◌}
use Rattle.number.proofs.Laws.{Filled}
use Rattle.tone.specs.loops.ScaledTables.{scaled_code}
use Rattle.tone.proofs.level.scaled_table.Given as goal

abbrev pub invariant-loop-k : goal.invariant-loop-k
invariant-loop-k l = Filled (λ i v. v ≡ scaled_code l.tone (128 + i)) 128 l.k l.code-items
