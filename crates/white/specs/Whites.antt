-- The white point of a page (2026-05). Assumes nothing.
-- "A strip may carry, third, a word of kind 3 with W in bits 15..0, spare bits zero; the white point w is W/10."
use Rattle.std.specs.Prelude.{ℕ, Bool, true, false, ◌&&◌, leb, eqb}
use Rattle.std.specs.Prelude.{None, Option, Some}

-- none, or W, which is ten times the white point
abbrev pub White : Type 0
White = Option ℕ

-- "bad white": "W below 10 or above 1,000"
unfoldable pub tenths_fit : (W : ℕ) → Bool
tenths_fit W = leb 10 W && leb W 1000

-- a page may have none
unfoldable pub white_fits : White → Bool
white_fits None = true
white_fits (Some W) = tenths_fit W

-- two pages "agree in W, or in having none"
unfoldable pub same_white : (a b : White) → Bool
same_white None None = true
same_white None (Some W) = false
same_white (Some U) None = false
same_white (Some U) (Some W) = eqb U W

-- in numbers: whether there is one, 1 or 0, and W, 0 where there is none
abbrev pub present_in : White → ℕ
present_in None = 0
present_in (Some W) = 1

abbrev pub tenths_in : White → ℕ
tenths_in None = 0
tenths_in (Some W) = W
