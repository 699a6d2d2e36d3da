-- What the loop keeps to.
use Prim.Native.Nat.{◌≤◌}
use mathlib.Core.Path.{◌≡◌}
use Rattle.light.proofs.Counting.{counting}
use Rattle.light.proofs.lit_up_to.Given as goal

abbrev pub invariant-loop-p : goal.invariant-loop-p
invariant-loop-p l = (l.lit ≡ counting l.words l.p) × (l.lit ≤ l.most)
