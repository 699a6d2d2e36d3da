-- A tally as one call hands it on to another, its sum in 64 bits. Assumes nothing.
use mathlib.Core.Path.{◌≡◌}
use mir.Syntax.{w64}
use mir.Val.{to_z, of_z}
use mir.Facts.{to_z-of_z}
use Rattle.average.specs.declared.tally.Tally.{Tally}
use Rattle.average.specs.loops.Sums.{IsTally, HasAverage}
use Rattle.average.proofs.Laws.{sum_fits, sum_has_average}

module _ (t : Tally) (ok : IsTally t) where
  pub sum_held : to_z w64 (of_z w64 t.sum) ≡ t.sum
  sum_held = to_z-of_z (sum_fits ok.sum)

  pub has_average : HasAverage t.count (to_z w64 (of_z w64 t.sum))
  has_average = rw sum_held (sum_has_average ok.sum)
