-- The levels of a page. Assumes nothing.
-- "mapping gives three level bytes a pixel"
use Rattle.std.specs.Prelude.{ℕ, List}
use Rattle.number.specs.declared.ratio.Stored.{Stored}
use Rattle.word.specs.declared.header.Header.{Header}
use Rattle.strip.specs.Checks.{header_fields}
use Rattle.strip.specs.Reading.{strip_pixels}
use Rattle.average.specs.declared.tally.Tally.{Tally}
use Rattle.average.specs.Averages.{stored_average}
use Rattle.tone.specs.declared.tone.Tone.{Tone}
use Rattle.body.specs.Levels.{levels_under}
use Rattle.page.specs.Tallying.{tally_steps, strip_tally}

-- what a page is mapped under: its key, a stored average, and its white point
abbrev pub tone_of : Header → (average : Stored) → Tone
tone_of h average = record { key = h.key; average = average; white = h.white }

-- that of a tally
abbrev pub tone_under : Header → Tally → Tone
tone_under h t = tone_of h (stored_average (tally_steps t))

-- the level bytes of an accepted strip
abbrev pub strip_levels : List ℕ → List ℕ
strip_levels s = levels_under (tone_under (header_fields s) (strip_tally s)) (strip_pixels s)
