-- The luminance of a pixel: lit or not by its channels, and where every lit one lies. Assumes nothing.
use Rattle.std.proofs.Common.{◌≡◌, ℕ, zero, suc, ◌+◌, ◌*◌, ◌^◌, ◌<◌, ◌≤◌, Bool, true, false, cond, not, ◌||◌, eqb, sym, refl, ap, ◌∙◌, subst, zero-le, mul-le-mul_right, mul-le-mul, mul-pos, arith, lit<, lit≤, pow_pos, pow_mono, eqb-true}
use Rattle.number.proofs.Laws.{
  Frac,
  ◌over◌,
  AtMost,
  IsChannel,
  Stores,
  unit,
  worth,
  worth_of,
  stored_of,
  unit_pos,
  code_mono,
  idempotent,
  code_valid,
  is_mantissa,
  stores_by_rule,
  worth_scaled,
}
use Rattle.number.specs.declared.channel.Channel.{Channel}
use Rattle.number.specs.declared.channel.Channel.TheVariants.{Black, Lit}
use Rattle.number.specs.declared.channel.Pixel.{Pixel}
use Rattle.number.specs.declared.ratio.Stored.{Stored}
use Rattle.luminance.specs.Pixels.{IsPixel, code_pixel, exact_luminance, is_black, luminance_of, IsLuminance}
use Rattle.luminance.specs.Claims.{LuminanceInRange}
use Rattle.luminance.proofs.Storables.{StoresAs, shut}
use Rattle.std.specs.Prelude.{None, Some}
use Rattle.luminance.specs.Pixels.{Luminance}

-- any three numbers have a pixel of channels
pub code_pixel_law : (r g b : ℕ) → IsPixel (code_pixel r g b)
code_pixel_law r g b = record { red = code_valid r; green = code_valid g; blue = code_valid b }

-- by the three tests
abbrev told : (p : Pixel) (r g b : Bool) → Luminance
told p r g b = cond (not r || not g || not b) (Some (stored_of (exact_luminance p))) None

by_tests : (p : Pixel) → luminance_of p ≡ told p (is_black p.red) (is_black p.green) (is_black p.blue)
unfolding luminance_of
by_tests p = refl

-- one lit channel is enough
pub red_lit : (p : Pixel) → is_black p.red ≡ false → luminance_of p ≡ Some (stored_of (exact_luminance p))
red_lit p h = by_tests p ∙ rw h

-- by numbers that are 0 for black channels only
module _ (p : Pixel) (e e' e'' : ℕ) (red : is_black p.red ≡ eqb e 0) (green : is_black p.green ≡ eqb e' 0)
    (blue : is_black p.blue ≡ eqb e'' 0) where
  pub unlit : e + e' + e'' ≡ 0 → luminance_of p ≡ None
  unlit h =
      let z : e ≡ 0 = omega arith in let z' : e' ≡ 0 = omega arith in let z'' : e'' ≡ 0 = omega arith in
      by_tests p ∙ rw (red, green, blue, z, z', z'')

  lit : (e + e' + e'' ≡ 0 → ⊥) → luminance_of p ≡ Some (stored_of (exact_luminance p))
  lit h = by_tests p ∙ rw (red, green, blue) (by (eqb e 0) (eqb e' 0) (eqb e'' 0) refl refl refl)
    where
      by : (a b c : Bool) → eqb e 0 ≡ a → eqb e' 0 ≡ b → eqb e'' 0 ≡ c
          → told p a b c ≡ Some (stored_of (exact_luminance p))
      by true true true z z' z'' = absurd (h (omega (arith, eqb-true e 0 z, eqb-true e' 0 z', eqb-true e'' 0 z'')))
      by true true false z z' z'' = refl
      by true false c z z' z'' = refl
      by false b c z z' z'' = refl

  -- from the parts that the channels have in the sum
  pub lit_sum : (s : Stored) (n : ℕ) → s ≡ stored_of (n over 100 * unit)
      → n ≡ 27 * (worth_of p.red).num + 67 * (worth_of p.green).num + 6 * (worth_of p.blue).num
      → (e + e' + e'' ≡ 0 → ⊥) → Some s ≡ luminance_of p
  lit_sum s n h k l =
      let sum : n ≡ (exact_luminance p).num = omega arith in
      ap Some (h ∙ ap (λ (x : ℕ). stored_of (x over 100 * unit)) sum) ∙ sym (lit l)

-- ---- where luminances lie

-- the worths of channels, in units
channel_least : (c : Channel) → IsChannel c → is_black c ≡ false → 257 * 2 ^ 72 ≤ (worth_of c).num
channel_least Black h q = let clash : 257 * 2 ^ 72 ≡ 0 = cc in omega arith
channel_least (Lit E M) h q = mul-le-mul {n₁ = 257} (omega (arith, h.mantissa.least)) (pow_mono h.least)

channel_most : (c : Channel) → IsChannel c → (worth_of c).num ≤ 511 * 2 ^ 184
channel_most Black h = zero-le
channel_most (Lit E M) h = mul-le-mul {n₂ = 511} (omega (arith, h.mantissa.most)) (pow_mono h.most)

module _ (p : Pixel) (valid : IsPixel p) where
  abbrev sum : ℕ
  sum = (exact_luminance p).num

  abbrev least : Frac
  least = 6 * (257 * 2 ^ 72) over 100 * unit

  pos : 0 < (exact_luminance p).den
  pos = mul-pos {m = 100} (lit< tt) unit_pos

  -- a lit pixel has a lit channel
  lit_channel : (y : Stored) → luminance_of p ≡ Some y → (6 * (257 * 2 ^ 72) ≤ sum) × (y ≡ stored_of (exact_luminance p))
  lit_channel y e = by (is_black p.red) (is_black p.green) (is_black p.blue) refl refl refl (sym (by_tests p) ∙ e)
    where
      by : (r g b : Bool) → is_black p.red ≡ r → is_black p.green ≡ g → is_black p.blue ≡ b
          → told p r g b ≡ Some y
          → (6 * (257 * 2 ^ 72) ≤ sum) × (y ≡ stored_of (exact_luminance p))
      by true true true r g b e = let clash : suc zero ≡ zero = cc in (omega arith, cc)
      by true true false r g b e = (omega (arith, channel_least p.blue valid.blue b), cc)
      by true false _ r g b e = (omega (arith, channel_least p.green valid.green g), cc)
      by false _ _ r g b e = (omega (arith, channel_least p.red valid.red r), cc)

  module _ (lit : 6 * (257 * 2 ^ 72) ≤ sum) where
    -- every luminance is above 2^-129
    stores : StoresAs (exact_luminance p) (stored_of (exact_luminance p))
    stores =
        stores_by_rule (exact_luminance p) pos
        (record {
          cross = shut (λ (u : ℕ). 1 * (100 * u) < sum * 2 ^ 129) (large (2 ^ 129) sum (pow_pos 129) (omega arith));
        })
      where
        large : (B n : ℕ) → 0 < B → 25601 ≤ n → 1 * (100 * (256 * B)) < n * B
        large B n h k = omega (arith, mul-le-mul_right B k)

    -- the least is that of the darkest blue, 6/100 of (72,128); the greatest that of the brightest white
    least_stores : Stores least 67 246
    least_stores =
        shut (λ (u : ℕ). Stores (6 * (257 * 2 ^ 72) over 100 * u) 67 246)
        (record { normalised = record { above_half = lit< tt; at_most_one = lit≤ tt; digits = refl } })

    greatest_stores : Stores (worth 184 255) 184 255
    greatest_stores =
        subst (λ (x : Frac). Stores x 184 255) (sym (worth_scaled 184 255))
        (idempotent 128 184 255 (record { least = lit≤ tt; most = lit≤ tt }))

    at_most : AtMost (exact_luminance p) (worth 184 255)
    at_most =
        record {
          cross = total (worth_of p.red).num (worth_of p.green).num (worth_of p.blue).num (511 * 2 ^ 184) unit
              (channel_most p.red valid.red) (channel_most p.green valid.green) (channel_most p.blue valid.blue);
        }
      where
        total : (r g b t u : ℕ) → r ≤ t → g ≤ t → b ≤ t → (27 * r + 67 * g + 6 * b) * u ≤ t * (100 * u)
        total r g b t u h k l = omega (arith, mul-le-mul_right u h, mul-le-mul_right u k, mul-le-mul_right u l)

    range : IsLuminance (stored_of (exact_luminance p))
    range =
        let top = code_mono stores greatest_stores at_most in
        record {
          least = code_mono least_stores stores (record { cross = mul-le-mul_right (100 * unit) lit });
          most = omega (arith, top);
          mantissa = is_mantissa stores;
        }

  -- the luminance of a lit pixel is what is stored of its exact luminance, and lies from (67,246) to (184,255)
  pub luminance_stores : (y : Stored) → luminance_of p ≡ Some y → StoresAs (exact_luminance p) y
  luminance_stores y e = let k = lit_channel y e in subst (StoresAs (exact_luminance p)) (sym k.1) (stores k.0)

  pub luminance_range : (y : Stored) → luminance_of p ≡ Some y → IsLuminance y
  luminance_range y e = let k = lit_channel y e in subst IsLuminance (sym k.1) (range k.0)

-- "E is 67 to 184."
pub luminance_in_range : LuminanceInRange
luminance_in_range p valid y e =
    let range = luminance_range p valid y e in record { least = omega (arith, range); most = range.most; closely = range }
