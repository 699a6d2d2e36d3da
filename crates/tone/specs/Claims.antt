-- Claims about the steps of one pixel: where the scaled luminance lies, that the steps store by the rule, what step 5 comes to far from 1,
-- that no half is rounded below 255, and the second half of demand 3, a level against the exact value. Assumes nothing.
-- Proved as `is_scaled` (proofs/Scaled.antt), `dark_is_itself`, `bright_is_white` (proofs/Displays.antt), `white_is_one`
-- (proofs/Curves.antt), `no_half` (proofs/Halves.antt), `steps_store` and `level_bound` (proofs/PixelBounds.antt).
use Rattle.std.specs.Prelude.{◌≡◌, true, ◌⊎◌, ℕ, ◌+◌, ◌*◌, ◌≤◌, ◌<◌, min, None, Some}
use Rattle.number.proofs.Laws.{Frac, ◌over◌, ◌·◌, ◌÷◌, ◌times◌, Equal, IsMantissa, Stores, stored_worth, worth_of}
use Rattle.number.specs.declared.channel.Channel.{Channel}
use Rattle.number.specs.declared.channel.Channel.TheVariants.{Lit}
use Rattle.number.specs.declared.channel.Pixel.{Pixel}
use Rattle.number.specs.declared.ratio.Stored.{Stored}
use Rattle.luminance.specs.Pixels.{IsPixel, exact_luminance, luminance_of, IsLuminance}
use Rattle.white.specs.Whites.{white_fits}
use Rattle.tone.specs.declared.tone.Tone.{Tone}
use Rattle.tone.specs.Levels.{
  IsTone,
  key_over_average,
  scaled_of,
  white_point,
  curve_of,
  display_of,
  display_under,
  mapped_level,
}
use Rattle.white.specs.Whites.{White}

-- ---- the scaled luminance, under every key and stored average: "E is 1 to 246."

pub record IsScaled (l : Stored) : Type 0 where
  pub least : 1 ≤ l.exponent
  pub most : l.exponent ≤ 246
  pub mantissa : IsMantissa l.mantissa

abbrev pub ScaledInRange : Type 0
ScaledInRange = (t : Tone) (y : Stored) → IsTone t → IsLuminance y → IsScaled (scaled_of t y)

-- ---- "stored as above", "stored": the outcomes of steps 1, 4 and 5 are stored by the rule, as none of them is too small for it

abbrev pub StoredAs : (F : Frac) (s : Stored) → Type 0
StoredAs F s = Stores F s.exponent s.mantissa

-- of a pixel with the luminance y
pub record StoredSteps (t : Tone) (p : Pixel) (y : Stored) : Type 0 where
  pub luminance : StoredAs (exact_luminance p) y
  pub scaled : StoredAs (key_over_average t · stored_worth y) (scaled_of t y)
  pub display : StoredAs (curve_of t.white (stored_worth (scaled_of t y))) (display_under t y)

abbrev pub StepsStore : Type 0
StepsStore = (p : Pixel) → IsPixel p → (y : Stored) → luminance_of p ≡ Some y → (t : Tone) → IsTone t → StoredSteps t p y

-- ---- step 5 by source document 004's cases (2026-04): "E below 114, E above 152, and between. Below, the outcome is the stored scaled
-- luminance itself; above, it is (128,255); both are proved as laws of step 5's own rule."

-- with every white point, and without
abbrev pub DarkIsItself : Type 0
DarkIsItself = (w : White) → white_fits w ≡ true → (l : Stored) → l.exponent < 114 → IsMantissa l.mantissa → display_of (curve_of w) l ≡ l

-- "The outcome (128,255) of 2026-04 is then for strips without the word only." (2026-05)
abbrev pub BrightIsWhite : Type 0
BrightIsWhite = (l : Stored) → 152 < l.exponent → IsMantissa l.mantissa
    → display_of (curve_of None) l ≡ record { exponent = 128; mantissa = 255 }

-- ---- the white point w = W/10 is what display luminance 1 comes from

abbrev pub WhiteIsOne : Type 0
WhiteIsOne = (W : ℕ) → 1 ≤ W → Equal (white_point W (W over 10)) (1 over 1)

-- ---- "to the nearest whole number, halves up, at most 255": a half comes out only where the level is 255 whichever way it is rounded

-- x is n + 1/2
pub record IsHalf (n : ℕ) (x : Frac) : Type 0 where
  pub cross : 2 * x.num ≡ (2 * n + 1) * x.den

-- what step 6 rounds, of any display luminance d, luminance y and lit channel (E, M)
abbrev pub NoHalfBelow255 : Type 0
NoHalfBelow255 = (d y : Stored) (E M : ℕ) → IsMantissa d.mantissa → IsMantissa y.mantissa → IsMantissa M
    → (n : ℕ) → IsHalf n (255 times stored_worth d · worth_of (Lit E M) ÷ stored_worth y) → 255 ≤ n

-- ---- the second half of demand 3

-- x, "or 255 where that is greater"
abbrev pub at_most255 : Frac → Frac
at_most255 x = min x.num (255 * x.den) over x.den

-- "Y is (27R + 67G + 6B)/100, not stored; a is the worth of the page's stored average, step 3; L is K·Y/(1000·a). The exact value of
-- a channel C, any of the three, is 255 · L/(1+L) · C/Y, or 255 where that is greater; nothing in it is rounded." So with `reinhard` for
-- the curve; where the page has a white point, it is "the exact operator with its white point" (2026-05).
abbrev pub exact_value : (curve : Frac → Frac) (t : Tone) (Y C : Frac) → Frac
exact_value curve t Y C = at_most255 (255 times curve (key_over_average t · Y) · C ÷ Y)

-- the level is less than h/2 away from x, above or below
pub record WithinHalves (h level : ℕ) (x : Frac) : Type 0 where
  pub high : 2 * (level * x.den) < 2 * x.num + h * x.den
  pub low : 2 * x.num < 2 * (level * x.den) + h * x.den

-- "The level byte of that channel is less than 5/2 away from it, above or below."
abbrev pub LevelBound : (t : Tone) (p : Pixel) (c : Channel) (level : ℕ) → Type 0
LevelBound t p c level = WithinHalves 5 level (exact_value (curve_of t.white) t (exact_luminance p) (worth_of c))

-- "any of the three"
infix 50 ◌of_pixel◌
abbrev pub ◌of_pixel◌ : Channel → Pixel → Type 0
c of_pixel p = (c ≡ p.red) ⊎ (c ≡ p.green) ⊎ (c ≡ p.blue)

-- for each channel of every lit pixel, under every key, stored average and white point
abbrev pub LevelIsBounded : Type 0
LevelIsBounded = (p : Pixel) → IsPixel p → (y : Stored) → luminance_of p ≡ Some y → (c : Channel) → c of_pixel p
    → (t : Tone) → IsTone t → LevelBound t p c (mapped_level t y c)
