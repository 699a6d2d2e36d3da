-- The checks of the two calls over a page. Assumes nothing.
use Rattle.std.specs.Prelude.{ℕ, List}
use Rattle.refusal.specs.Verdicts.{Verdict, and_then}
use Rattle.word.specs.Words.{pixels}
use Rattle.strip.specs.Checks.{header_fields, check_strip, check_output}
use Rattle.strip.specs.Reading.{strip_pixels}
use Rattle.body.specs.Luminances.{lit_count}
use Rattle.light.specs.Light.{check_light}

-- "its lit pixels" against "its pixel count"
abbrev pub strip_light : List ℕ → Verdict
strip_light s = check_light (lit_count (strip_pixels s)) (pixels (header_fields s))

-- a page is tallied: a strip's own checks, and "9 dark page, place 0, after every word has passed"
unfoldable pub check_tally : List ℕ → Verdict
check_tally s = and_then (check_strip s) (strip_light s)

-- a page is mapped into an output of `room` bytes, "three level bytes a pixel": a strip's own checks, with the output's, then 9 likewise
unfoldable pub check_map : List ℕ → (room : ℕ) → Verdict
check_map s room = and_then (check_output s room) (strip_light s)
