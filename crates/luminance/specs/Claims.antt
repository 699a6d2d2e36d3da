-- Where the luminances of lit pixels lie. Assumes nothing.
-- It is proved in proofs/Luminances.antt, `luminance_in_range`.
use Rattle.std.specs.Prelude.{◌≡◌, ◌≤◌, Some}
use Rattle.number.specs.declared.channel.Pixel.{Pixel}
use Rattle.number.specs.declared.ratio.Stored.{Stored}
use Rattle.luminance.specs.Pixels.{IsPixel, luminance_of, IsLuminance}

-- "E is 67 to 184.", and more closely, as the steps that follow ask it
pub record HasRange (y : Stored) : Type 0 where
  pub least : 67 ≤ y.exponent
  pub most : y.exponent ≤ 184
  pub closely : IsLuminance y

-- of the luminance of every lit pixel
abbrev pub LuminanceInRange : Type 0
LuminanceInRange = (p : Pixel) → IsPixel p → (y : Stored) → luminance_of p ≡ Some y → HasRange y
