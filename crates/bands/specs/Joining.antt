-- The joined tally of bands. Assumes nothing.
use Rattle.std.specs.Prelude.{List, [], ◌∷◌}
use Rattle.average.specs.declared.tally.Tally.{Tally}
use Rattle.average.specs.Tallies.{tally_of, join}
use Rattle.page.specs.Tallying.{strip_tally}
use Rattle.series.specs.Series.{Standing}

-- "Band tallies are joined"
unfoldable pub join_tallies : List Standing → Tally
join_tallies [] = tally_of []
join_tallies (b ∷ bs) = join (strip_tally b.strip) (join_tallies bs)
