-- Step 1, the luminance of a pixel. Assumes nothing.
use Rattle.std.specs.Prelude.{ℕ, ◌+◌, ◌*◌, ◌≤◌, Bool, true, false, cond, not, ◌||◌, [], ◌∷◌, pos, None, Option, Some}
use Rattle.refusal.specs.Told.{Told, holding}
use Rattle.number.proofs.Laws.{Frac, ◌over◌, IsMantissa, IsChannel, unit, worth_of, stored_of, code_channel}
use Rattle.number.specs.declared.channel.Channel.{Channel}
use Rattle.number.specs.declared.channel.Channel.TheVariants.{Black, Lit}
use Rattle.number.specs.declared.channel.Pixel.{Pixel}
use Rattle.number.specs.declared.ratio.Stored.{Stored}

-- a pixel of channels as decoding gives them
pub record IsPixel (p : Pixel) : Type 0 where
  pub red : IsChannel p.red
  pub green : IsChannel p.green
  pub blue : IsChannel p.blue

-- the pixel of three codes; a number that is no code stands for black
abbrev pub code_pixel : (red green blue : ℕ) → Pixel
code_pixel r g b = record { red = code_channel r; green = code_channel g; blue = code_channel b }

-- "(27R + 67G + 6B)/100 over decoded channels, black as 0": the exact luminance, not stored. Every worth counts units.
abbrev pub exact_luminance : Pixel → Frac
exact_luminance p = 27 * (worth_of p.red).num + 67 * (worth_of p.green).num + 6 * (worth_of p.blue).num over 100 * unit

abbrev pub is_black : Channel → Bool
is_black Black = true
is_black (Lit E M) = false

-- "A pixel is lit if any of its three channel words is"
abbrev pub any_lit : Pixel → Bool
any_lit p = not (is_black p.red) || not (is_black p.green) || not (is_black p.blue)

-- a luminance, or none: the pixel is unlit
abbrev pub Luminance : Type 0
Luminance = Option Stored

-- "stored as above. All black: the pixel is unlit."
unfoldable pub luminance_of : Pixel → Luminance
luminance_of p = cond (any_lit p) (Some (stored_of (exact_luminance p))) None

-- in numbers: 0, or 1 with E and M
abbrev pub luminance_told : Luminance → Told
luminance_told None = holding (pos 0 ∷ [])
luminance_told (Some y) = holding (pos 1 ∷ pos y.exponent ∷ pos y.mantissa ∷ [])

-- where luminances lie: "E is 67 to 184", and more closely, from (67,246) to (184,255)
pub record IsLuminance (y : Stored) : Type 0 where
  pub least : 256 * 67 + 246 ≤ 256 * y.exponent + y.mantissa
  pub most : y.exponent ≤ 184
  pub mantissa : IsMantissa y.mantissa
