-- A walk over the strips of a row. Assumes nothing.
use Rattle.std.specs.Prelude.{ℕ, ◌+◌, ◌<◌, ◌^◌, List, drop, Err, Ok}
use Rattle.series.specs.Series.{Standing, strips_from}
use Rattle.refusal.specs.Verdicts.{Verdict}

-- the strips from an index on, where one begins
abbrev pub series_from : List ℕ → (i : ℕ) → List Standing
series_from r i = strips_from i 0 (drop i r)

-- a verdict whose place, moved, 64 bits hold
abbrev pub PlacesFit : (start : ℕ) → Verdict → Type 0
PlacesFit start (Ok u) = Unit
PlacesFit start (Err f) = start + f.index < 2 ^ 64
