-- Sums of steps, and what an average and a join rest on. Assumes nothing.
use Rattle.std.specs.Prelude.{List, [], ◌∷◌, ℕ, ◌+◌, ◌*◌, ◌^◌, ◌≤◌, ◌<◌, ℤ, pos, neg_ℤ, ◌≤ℤ◌, None, Option, Some}
use Rattle.number.proofs.Laws.{IsMantissa}
use Rattle.number.specs.declared.ratio.Stored.{Stored}
use Rattle.average.specs.Averages.{floor_div, IsAverage}
use Rattle.average.specs.Tables.{log_of}
use Rattle.average.specs.declared.tally.Tally.{Tally}
use Rattle.average.specs.declared.tally.Extremes.{Extremes}

-- a sum over a list
abbrev pub total : {X : Type 0} → (X → ℕ) → List X → ℕ
total f [] = 0
total f (x ∷ xs) = f x + total f xs

-- 256E + T[M]: the steps of a luminance, and 34,816 more
abbrev pub raised_steps : Stored → ℕ
raised_steps y = 256 * y.exponent + log_of y.mantissa

-- the average of count and sum, where there is one, lies among those that there are
pub record HasAverage (count : ℕ) (sum : ℤ) : Type 0 where
  pub in_range : 0 < count → IsAverage (floor_div sum count)

-- a sum of the steps of at most 2^40 luminances
pub record IsSum (count : ℕ) (sum : ℤ) : Type 0 where
  pub few : count ≤ 2 ^ 40
  pub least : neg_ℤ (pos (15630 * count)) ≤ℤ sum
  pub most : sum ≤ℤ pos (14335 * count)

-- extremes, where there are any, with mantissas
abbrev pub HaveMantissas : Option Extremes → Type 0
HaveMantissas None = Unit
HaveMantissas (Some e) = IsMantissa e.darkest.mantissa × IsMantissa e.brightest.mantissa

-- a tally of at most 2^40 luminances
pub record IsTally (t : Tally) : Type 0 where
  pub sum : IsSum t.count t.sum
  pub extremes : HaveMantissas t.extremes
