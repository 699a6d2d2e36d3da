-- Strips one behind another in one row of words. Assumes nothing.
use Rattle.std.specs.Prelude.{ℕ, zero, suc, ◌+◌, ◌-◌, List, [], ◌∷◌, take, drop, Err, Ok}
use Rattle.strip.specs.Checks.{declared_length, check_strip}
use Rattle.refusal.specs.Faults.{◌found_at◌}
use Rattle.refusal.specs.Verdicts.{Verdict, accepted}

-- a strip in a row: the index of its first word, and its words
pub record Standing : Type 0 where
  pub start : ℕ
  pub strip : List ℕ

-- the strip at the front of some words: as many as its first words declare, or as there are
abbrev pub front_strip : List ℕ → List ℕ
front_strip ws = take (declared_length ws) ws

-- "each size word telling where the next begins", and the white word "counts in where the next band begins" (2026-05): the strips in some
-- words, the first of which has the index i; the first `left` words belong to the strip before
unfoldable pub strips_from : (i left : ℕ) → List ℕ → List Standing
strips_from i left [] = []
strips_from i (suc left) (w ∷ ws) = strips_from (suc i) left ws
strips_from i zero (w ∷ ws) =
    record { start = i; strip = front_strip (w ∷ ws) } ∷ strips_from (suc i) (declared_length (w ∷ ws) - 1) ws

-- the strips of a row
abbrev pub series_of : List ℕ → List Standing
series_of r = strips_from 0 0 r

-- ---- each checked where it stands

-- "places count from the row's start" (1, 2, 3 and 10 have place 0, whatever the index)
abbrev pub moved_by : (start : ℕ) → Verdict → Verdict
moved_by start (Ok u) = accepted
moved_by start (Err f) = Err (f.refusal found_at (start + f.index))

unfoldable pub check_standing : Standing → Verdict
check_standing b = moved_by b.start (check_strip b.strip)

-- the strip that begins at an index of a row
abbrev pub strip_at : List ℕ → (start : ℕ) → List ℕ
strip_at r start = front_strip (drop start r)

abbrev pub standing_at : List ℕ → (start : ℕ) → Standing
standing_at r start = record { start = start; strip = strip_at r start }
