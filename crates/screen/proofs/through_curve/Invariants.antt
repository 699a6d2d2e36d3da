-- What the loop keeps to.
use Rattle.std.proofs.Common.{◌≡◌, map, length}
use Rattle.screen.specs.Samples.{sample_of}
use Rattle.screen.proofs.Printing.{printing}
use Rattle.screen.proofs.through_curve.Given as goal

abbrev pub invariant-loop-i : goal.invariant-loop-i
invariant-loop-i l = (length l.levels ≡ length l.initial.levels) × (printing sample_of l.i l.levels ≡ map sample_of l.initial.levels)
