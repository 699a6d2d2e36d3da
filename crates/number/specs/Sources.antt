-- What the numbers of a source picture are worth, and the channels that they become. Assumes nothing.
use Rattle.std.specs.Prelude.{ℕ, zero, suc, ◌+◌, ◌-◌, ◌*◌, ◌/◌, ◌%◌, ◌^◌, cond, ◌==◌}
use Rattle.number.specs.Fractions.{Frac, ◌over◌}
use Rattle.number.specs.Storing.{unit, worth}
use Rattle.number.specs.Channels.{channel_of}
use Rattle.number.specs.declared.channel.Channel.TheVariants.{Black}
use Rattle.refusal.specs.declared.Refusal.TheVariants.{NotANumber}
use Rattle.std.specs.Prelude.{Err, Ok}
use Rattle.number.specs.Channels.{Decoded}

-- a number of either sign by its magnitude, or a NaN or an infinity
pub data Value : Type 0 where
  plus : Frac → Value
  minus : Frac → Value
  not_finite : Value

-- "Zero and finite negative values are black"; "NaN or infinity, either sign" is refused
unfoldable pub channel_of_value : Value → Decoded
channel_of_value (plus x) = channel_of x
channel_of_value (minus x) = Ok Black
channel_of_value not_finite = Err NotANumber

-- ---- "IEEE values, subnormals included", by the fields of a pattern: sign s, exponent x and fraction t

-- The value counts steps of 2^-low. x = 0 is zero or a subnormal number; at any other x the digit of weight `hidden` leads the fraction.
abbrev pub magnitude : (hidden low x t : ℕ) → Frac
magnitude hidden low zero t = t over 2 ^ low
magnitude hidden low (suc x) t = (hidden + t) * 2 ^ x over 2 ^ low

-- the greatest exponent, all ones, is a NaN or an infinity
unfoldable pub field_value : (hidden ones low s x t : ℕ) → Value
field_value hidden ones low s x t =
    cond (x == ones) not_finite (cond (s == 0) (plus (magnitude hidden low x t)) (minus (magnitude hidden low x t)))

-- the pattern b of a format with w exponent bits and p fraction bits, whose exponents have the bias 2^(w-1) - 1
abbrev pub float_value : (w p b : ℕ) → Value
float_value w p b = field_value (2 ^ p) (2 ^ w - 1) (2 ^ (w - 1) + p - 2) (b / 2 ^ (w + p)) (b / 2 ^ p % 2 ^ w) (b % 2 ^ p)

-- "Half, three 16-bit numbers a pixel"
abbrev pub half_value : ℕ → Value
half_value b = float_value 5 10 b

-- "single, three 32-bit numbers"
abbrev pub single_value : ℕ → Value
single_value b = float_value 8 23 b

-- "RGBE, four bytes R, G, B, e: byte m is worth (m + 1/2) · 2^(e−136); e = 0 makes the pixel black."
unfoldable pub rgbe_value : (m e : ℕ) → Value
rgbe_value m e = plus (cond (e == 0) (0 over unit) (worth e m))
