-- How many steps a reader takes on the way to step n. Assumes nothing.
use Rattle.std.specs.Prelude.{ℕ, ◌/◌, min, List, length, Err, Ok}
use Rattle.strip.specs.Checks.{check_strip}
use Rattle.refusal.specs.Verdicts.{Verdict}

-- as many of n steps as make a difference: a reader of a refused strip stays where it is, any other does once its pixels are told, which
-- have three words each
abbrev pub steps_under : Verdict → List ℕ → (n : ℕ) → ℕ
steps_under (Ok u) s n = min n (length s / 3)
steps_under (Err f) s n = 0

abbrev pub steps_before : List ℕ → (n : ℕ) → ℕ
steps_before s n = steps_under (check_strip s) s n
