-- What the loop keeps to.
use Rattle.std.proofs.Common.{get_or}
use Rattle.number.proofs.Laws.{Filled}
use Rattle.luminance.specs.loops.Codes.{IsNear}
use Rattle.body.proofs.near.code_indices.Given as goal

abbrev pub invariant-loop-j : goal.invariant-loop-j
invariant-loop-j l = Filled (λ k i. IsNear (get_or l.reds k 0) (get_or l.greens k 0) (get_or l.blues k 0) i) 16 l.j l.indices
