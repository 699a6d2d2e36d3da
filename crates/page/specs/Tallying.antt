-- The tally of a page. Assumes nothing.
-- "A tally of a strip gives N, the sum of steps (0 if N = 0), A and the stored average"; "The tally record gains the smallest and the largest
-- stored luminance among lit pixels"
use Rattle.std.specs.Prelude.{ℕ, List, ◌∷◌, ◌++◌, ℤ, pos, Err, Ok, Option, Result}
use Rattle.number.specs.declared.ratio.Stored.{Stored}
use Rattle.refusal.specs.declared.Fault.{Fault}
use Rattle.refusal.specs.Verdicts.{Verdict}
use Rattle.refusal.specs.Told.{Told, holding, refusing}
use Rattle.strip.specs.Reading.{strip_pixels}
use Rattle.average.specs.declared.tally.Tally.{Tally}
use Rattle.average.specs.Averages.{average_steps, average_of, average_values}
use Rattle.average.specs.declared.average.Average.{Average}
use Rattle.average.specs.Tallies.{tally_of, extremes_values}
use Rattle.body.specs.Luminances.{luminances_of}
use Rattle.page.specs.Checks.{check_tally}
use Rattle.page.specs.declared.tally.PageTally.{PageTally}

abbrev pub strip_luminances : List ℕ → List Stored
strip_luminances s = luminances_of (strip_pixels s)

abbrev pub strip_tally : List ℕ → Tally
strip_tally s = tally_of (strip_luminances s)

-- the A of a tally with a lit pixel
abbrev pub tally_steps : Tally → ℤ
tally_steps t = average_steps t.count t.sum

-- a tally with its average
infix 40 ◌averaging◌
abbrev pub ◌averaging◌ : Tally → Option Average → PageTally
t averaging a = record { tally = t; average = a }

abbrev pub tally_under : Verdict → Tally → Result PageTally Fault
tally_under (Ok u) t = Ok (t averaging average_of t.count t.sum)
tally_under (Err f) t = Err f

-- in numbers: N, the sum of steps, and the average's and the extremes' numbers behind them; or the refusal
abbrev pub tally_told : Result PageTally Fault → Told
tally_told (Ok p) = holding (pos p.tally.count ∷ p.tally.sum ∷ average_values p.average ++ extremes_values p.tally.extremes)
tally_told (Err f) = refusing f.refusal f.index

-- what a tally answers: of a refused strip its refusal
unfoldable pub tally_strip : List ℕ → Result PageTally Fault
tally_strip s = tally_under (check_tally s) (strip_tally s)
