-- Storing a positive rational F as an exponent E and a mantissa M. Assumes nothing.
use Rattle.std.specs.Prelude.{◌≡◌, ℕ, ◌+◌, ◌-◌, ◌*◌, ◌/◌, ◌^◌, ◌<◌, ◌≤◌, min, [], ◌∷◌, ℤ, pos}
use Rattle.std.proofs.Math.IntN.{sub_ℕ}
use Rattle.std.specs.Float.Ieee.{size}
use Rattle.refusal.specs.Told.{Told, holding}
use Rattle.number.specs.Fractions.{Frac, ◌over◌, by_range}
use Rattle.number.specs.declared.ratio.Stored.{Stored}
use Rattle.std.specs.Prelude.{None, Option, Some}

-- ---- the rule, for every positive rational

-- Every whole number E, negative ones too, is 128 + j − i for some natural i and j; 2^(E−128) is then 2^j / 2^i.
abbrev pub exponent_at : (i j : ℕ) → ℤ
exponent_at i j = sub_ℕ (128 + j) i

-- the first eight binary digits of an x / u above 1/2 and at most 1: 256 · x / u "rounded down, and 255 where that gives 256"
abbrev pub eight_digits : (x u : ℕ) → ℕ
eight_digits x u = min 255 (256 * x / u)

-- x / u lies above 1/2 and at most at 1, with the digits M
pub record Normalised (x u M : ℕ) : Type 0 where
  pub above_half : u < 2 * x
  pub at_most_one : x ≤ u
  pub digits : M ≡ eight_digits x u

-- "E is the only whole number with 2^(E−129) < F ≤ 2^(E−128); M is F · 2^(136−E) rounded down, and 255 where that gives 256":
-- F · 2^i / 2^j, which is F · 2^(128−E), lies above 1/2 and at most at 1, and M is its digits
pub record Scales (F : Frac) (i j M : ℕ) : Type 0 where
  pub normalised : Normalised (F.num * 2 ^ i) (F.den * 2 ^ j) M

-- "worth (M + 1/2) · 2^(E−136)", at any exponent
abbrev pub scaled_worth : (i j M : ℕ) → Frac
scaled_worth i j M = (2 * M + 1) * 2 ^ j over 2 ^ (i + 9)

-- "M is 128 to 255"
abbrev pub least_mantissa : ℕ
least_mantissa = 128

pub record IsMantissa (M : ℕ) : Type 0 where
  pub least : least_mantissa ≤ M
  pub most : M ≤ 255

-- ---- the same where E is not negative, for every F above 2^-129

-- F is stored as (E, M)
abbrev pub Stores : (F : Frac) (E M : ℕ) → Type 0
Stores F E M = Scales F 128 E M

-- Worths are counted in units of 2^-137. Shut: as a numeral it would be too long for `omega`.
unfoldable pub unit : ℕ
unit = 2 ^ 137

-- "worth (M + 1/2) · 2^(E−136)"
abbrev pub worth : (E M : ℕ) → Frac
worth E M = (2 * M + 1) * 2 ^ E over unit

abbrev pub stored_worth : Stored → Frac
stored_worth s = worth s.exponent s.mantissa

-- 2^(E−1) < F · 2^128 ≤ 2^E: the greatest whole number below F · 2^128 has E binary digits
unfoldable pub exponent_of : Frac → ℕ
exponent_of F = size ((F.num * 2 ^ 128 - 1) / F.den)

unfoldable pub mantissa_of : Frac → ℕ
mantissa_of F = eight_digits (F.num * 2 ^ 128) (F.den * 2 ^ exponent_of F)

abbrev pub stored_of : Frac → Stored
stored_of F = record { exponent = exponent_of F; mantissa = mantissa_of F }

-- F stored where E is 0 to 255, so that it fits eight bits: F above 2^-129 and at most 2^127
unfoldable pub ratio_of : Frac → Option Stored
ratio_of F = by_range 129 127 F None (Some (stored_of F)) None

-- in numbers: 0, or 1 with E and M
abbrev pub ratio_told : Option Stored → Told
ratio_told None = holding (pos 0 ∷ [])
ratio_told (Some s) = holding (pos 1 ∷ pos s.exponent ∷ pos s.mantissa ∷ [])
