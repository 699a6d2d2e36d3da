-- Steps 4 to 6: scaled luminance, display luminance, level. Assumes nothing.
use Rattle.std.specs.Prelude.{ℕ, ◌+◌, ◌*◌, ◌/◌, ◌≤◌, min, ◌≡◌, true, None, Some}
use Rattle.number.proofs.Laws.{Frac, ◌over◌, ◌·◌, ◌÷◌, ◌times◌, stored_worth, worth_of, stored_of}
use Rattle.number.specs.declared.channel.Channel.{Channel}
use Rattle.number.specs.declared.ratio.Stored.{Stored}
use Rattle.average.specs.Averages.{IsStoredAverage}
use Rattle.white.specs.Whites.{white_fits}
use Rattle.tone.specs.declared.tone.Tone.{Tone}
use Rattle.white.specs.Whites.{White}

-- "K is 0 or above 1,000" is refused
pub record IsKey (K : ℕ) : Type 0 where
  pub least : 1 ≤ K
  pub most : K ≤ 1000

-- a key, a stored average where they lie, and a white point that a page may have
pub record IsTone (t : Tone) : Type 0 where
  pub key : IsKey t.key
  pub average : IsStoredAverage t.average
  pub white : white_fits t.white ≡ true

-- K/1000 over the average, decoded
abbrev pub key_over_average : Tone → Frac
key_over_average t = (t.key over 1000) ÷ stored_worth t.average

-- "Scaled luminance: K/1000 times luminance over average (both decoded), stored."
abbrev pub scaled_of : (t : Tone) (y : Stored) → Stored
scaled_of t y = stored_of (key_over_average t · stored_worth y)

-- "L/(1+L)"
abbrev pub reinhard : Frac → Frac
reinhard L = L.num over L.den + L.num

-- "L(1 + L/w²)/(1 + L)", where "the white point w is W/10" (2026-05): the 1/w² is 100/W²
abbrev pub white_point : (W : ℕ) → Frac → Frac
white_point W L = L.num * (W * W * L.den + 100 * L.num) over W * W * L.den * (L.den + L.num)

-- the curve of a page: "without it nothing differs"
abbrev pub curve_of : White → Frac → Frac
curve_of None = reinhard
curve_of (Some W) = white_point W

-- "Display luminance: L/(1+L) over the decoded L, stored": so with `reinhard` for the curve, which is a parameter
abbrev pub display_of : (curve : Frac → Frac) → Stored → Stored
display_of curve l = stored_of (curve (stored_worth l))

-- steps 4 and 5 of a luminance
abbrev pub display_under : (t : Tone) (y : Stored) → Stored
display_under t y = display_of (curve_of t.white) (scaled_of t y)

-- "to the nearest whole number, halves up": x + 1/2 rounded down
abbrev pub nearest_whole : Frac → ℕ
nearest_whole x = (2 * x.num + x.den) / (2 * x.den)

-- 255 times x, "to the nearest whole number, halves up, at most 255"
abbrev pub to_level : Frac → ℕ
to_level x = min 255 (nearest_whole (255 times x))

-- "Level of a channel: 255 × display luminance × channel / luminance, all decoded .. Black gives 0."
unfoldable pub level_of : (display : Stored) (channel : Channel) (luminance : Stored) → ℕ
level_of d c y = to_level (stored_worth d · worth_of c ÷ stored_worth y)

-- steps 4 to 6 of a channel c in a pixel of luminance y
abbrev pub mapped_level : (t : Tone) (y : Stored) (c : Channel) → ℕ
mapped_level t y c = level_of (display_under t y) c y
