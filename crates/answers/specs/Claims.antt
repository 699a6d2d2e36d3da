-- Demand 3 and a tally's extremes, in the numbers that cross to C. Assumes nothing.
use Rattle.std.specs.Prelude.{ℕ, ◌<◌, ◌≡◌, List, pos}
use Rattle.strip.specs.Reading.{strip_pixels}
use Rattle.refusal.specs.declared.Outcome.{Outcome}
use Rattle.number.specs.declared.ratio.Stored.{Stored}
use Rattle.average.specs.Claims.{AreExtremes}
use Rattle.body.specs.Luminances.{luminances_of, lit_count}
use Rattle.page.specs.Claims.{MeanHalf, HasLight, MapPromise}
use Rattle.answers.specs.declared.tallies.TallyAnswer.{TallyAnswer}
use Rattle.refusal.specs.Verdicts.{accepted}

-- the extremes of a tally's answer
abbrev pub darkest_in : TallyAnswer → Stored
darkest_in r = record { exponent = r.darkest_exponent; mantissa = r.darkest_mantissa }

abbrev pub brightest_in : TallyAnswer → Stored
brightest_in r = record { exponent = r.brightest_exponent; mantissa = r.brightest_mantissa }

-- An accepted page has a lit pixel: N counts them, the average is present, the first half of demand 3 holds of it, and the extremes are
-- those of the lit pixels. A refusal has 0 in the place of N, of the average and of the extremes.
pub record TallyBound (s : List ℕ) (r : TallyAnswer) : Type 0 where
  pub count : r.number ≡ 0 → r.lit ≡ lit_count (strip_pixels s)
  pub lit : r.number ≡ 0 → HasLight (strip_pixels s)
  pub present : r.number ≡ 0 → r.present ≡ 1
  pub mean : r.number ≡ 0 → MeanHalf (strip_pixels s) r.average
  pub extremes : r.number ≡ 0 → AreExtremes (darkest_in r) (brightest_in r) (luminances_of (strip_pixels s))
  pub refused : 0 < r.number
      → (r.lit ≡ 0) × (r.present ≡ 0) × (r.average ≡ pos 0)
      × (r.darkest_exponent ≡ 0) × (r.darkest_mantissa ≡ 0) × (r.brightest_exponent ≡ 0) × (r.brightest_mantissa ≡ 0)

-- the second half holds of the bytes that an accepted call leaves
pub record MapBound (s : List ℕ) (r : Outcome) (bytes : List ℕ) : Type 0 where
  pub levels : r.number ≡ 0 → MapPromise s accepted bytes
