-- Step 5: the display luminance of v · 2^e units, v = 2M + 1. Assumes nothing.
use mathlib.Core.Path.{◌≡◌, refl, sym, ap, ap₂, ◌∙◌, subst}
use Prim.Native.Nat.{ℕ, ◌+◌, ◌-◌, ◌*◌, ◌^◌, ◌≤◌, ◌<◌}
use native.Mathlib.Nat.{
  le_refl,
  le_trans,
  lt_of_le_of_lt,
  lt_of_mul-lt-mul_right,
  mul_assoc,
  mul-le-mul,
  mul-le-mul_left,
  mul-le-mul_right,
  mul-lt-mul_of_pos_right,
}
use native.Mathlib.Omega.{arith}
use lib.Dec.{lit<, lit≤}
use lib.Pow.{pow_mono, pow_pos}
use Rattle.number.proofs.Laws.{
  stored_worth,
  Frac,
  ◌over◌,
  two_to_minus,
  Below,
  Normalised,
  IsMantissa,
  unit,
  stored_of,
  unit_pos,
  unit_power,
  worth_scaled,
  is_mantissa,
  idempotent,
  above_down,
  code_mono,
  cell,
  fits_between,
  ratio_above,
  ratio_at_most,
  rescale,
  stores_by_rule,
  stored_alike,
  stored_as,
}
use Rattle.number.specs.declared.ratio.Stored.{Stored}
use Rattle.white.specs.Whites.{white_fits}
use Rattle.tone.specs.Levels.{reinhard, curve_of, display_of}
use Rattle.tone.specs.Claims.{IsScaled, DarkIsItself, BrightIsWhite}
use Rattle.luminance.proofs.Products.{power_difference, shift_most}
use Rattle.luminance.proofs.Storables.{unit_ratio, Storable, StoresAs, shut}
use Rattle.tone.proofs.Curves.{NeverStretches, Between, curve_ratio, curve_between}
use Rattle.std.specs.Prelude.{None}

-- L/(1+L) of v · 2^e units
abbrev share : (v e : ℕ) → Frac
share v e = reinhard (v * 2 ^ e over unit)

share_pos : (v e : ℕ) → 0 < (share v e).den
share_pos v e = omega (arith, unit_pos)

-- it is above 2^-129
share_above : (l : Stored) → IsScaled l → Below (two_to_minus 129) (reinhard (stored_worth l))
share_above l s =
    record {
      cross = shut (λ (u : ℕ). 1 * (u + w) < w * 2 ^ 129)
          (large (2 ^ 129) w (lit≤ tt) (mul-le-mul {n₁ = 257} (omega (arith, s.mantissa)) (pow_mono {i = 1} s.least)));
    }
  where
    w : ℕ
    w = (2 * l.mantissa + 1) * 2 ^ l.exponent

    large : (B w : ℕ) → 2 ≤ B → 257 * 2 ≤ w → 1 * (256 * B + w) < w * B
    large B w h k = omega (arith, mul-le-mul k h, mul-le-mul_right B k, mul-le-mul_left w h)

-- A dark one is stored as L is; for e = 120 and M = 255 the mantissa is 254. In the lemma q is 2^e, and B is 2^119, of which 2^128 and
-- 2^137 are multiples.
dark_share : (l : Stored) → l.exponent < 120 → IsMantissa l.mantissa → StoresAs (reinhard (stored_worth l)) l
dark_share l h m =
    record {
      normalised = shut (λ (u : ℕ). Normalised (v * 2 ^ E * 2 ^ 128) ((u + v * 2 ^ E) * 2 ^ E) M)
          (shown (2 ^ E) (2 ^ 119) (pow_mono {i = E} {j = 119} (omega arith)) (pow_pos E));
    }
  where
    E : ℕ
    E = l.exponent

    M : ℕ
    M = l.mantissa

    v : ℕ
    v = 2 * M + 1

    square : M * (2 * M + 1) ≤ 130305
    square = mul-le-mul {n₂ = 255} {m₂ = 511} m.most (omega (arith, m.most))

    shown : (q B : ℕ) → q ≤ B → 0 < q → Normalised ((2 * M + 1) * q * (B * 512)) ((B * 262144 + (2 * M + 1) * q) * q) M
    shown q B g p =
        let a : B * 262144 + (2 * M + 1) * q < (2 * M + 1) * B * 1024 =
        omega (arith, mul-le-mul_right B m.least, mul-le-mul_right q m.most) in
        let b : M * (B * 262144 + (2 * M + 1) * q) ≤ (2 * M + 1) * B * 131072 = omega (arith, mul-le-mul_right q square) in
        let c : (2 * M + 1) * B * 131072 < (M + 1) * (B * 262144 + (2 * M + 1) * q) = omega arith in
        cell (omega (arith, mul-lt-mul_of_pos_right a p)) m.most (omega (arith, mul-le-mul_right q b))
        (omega (arith, mul-lt-mul_of_pos_right c p))

-- L is stored as itself
pub itself : (l : Stored) → IsMantissa l.mantissa → StoresAs (stored_worth l) l
itself l m =
    subst (λ (F : Frac). StoresAs F l) (sym (worth_scaled l.exponent l.mantissa))
    (idempotent 128 l.exponent l.mantissa m)

-- ---- every curve between L/(1+L) and L

module _ (f : Frac → Frac) (S : NeverStretches f) (between : Between f) (l : Stored) where
  display_pos : 0 < (f (stored_worth l)).den
  display_pos = S.den_pos (stored_worth l) unit_pos

  -- it is stored where L/(1+L) is above 2^-129
  stored_above : Below (two_to_minus 129) (reinhard (stored_worth l)) → StoresAs (f (stored_worth l)) (display_of f l)
  stored_above h =
      stores_by_rule (f (stored_worth l)) display_pos
      (record { cross = above _ _ _ _ (2 ^ 129) h.cross (between.low (stored_worth l)).cross display_pos })
    where
      above : (n d m e B : ℕ) → 1 * d < n * B → n * e ≤ m * d → 0 < e → 1 * e < m * B
      above n d m e B h k p = lt_of_mul-lt-mul_right d (omega (arith, mul-lt-mul_of_pos_right h p, mul-le-mul_right B k))

  pub display_stores : IsScaled l → StoresAs (f (stored_worth l)) (display_of f l)
  display_stores s = stored_above (share_above l s)

  -- where L/(1+L) and L are stored alike, so is what lies between
  pub dark : l.exponent < 120 → IsMantissa l.mantissa → display_of f l ≡ l
  dark h m =
      let s = dark_share l h m in
      let t = stored_above ((above_down s 129).0 (omega arith)) in
      let low = code_mono s t (between.low (stored_worth l)) in
      let high = code_mono t (itself l m) (between.high (stored_worth l)) in
      let mt = is_mantissa t in
      ap₂ (λ (x m : ℕ). record { exponent = x; mantissa = m }) (omega arith) (omega arith)

pub dark_is_itself : DarkIsItself
dark_is_itself w fits l h = dark (curve_of w) (curve_ratio w fits) (curve_between w fits) l (omega arith)

-- ---- L/(1+L)

pub plain_dark : (l : Stored) → l.exponent < 114 → IsScaled l → l ≡ display_of reinhard l
unfolding white_fits
plain_dark l h s = sym (dark_is_itself None refl l h s.mantissa)

-- A bright one is white; for e = 136 and M = 254 the mantissa is 254.
pub bright : (l : Stored) → 136 < l.exponent → IsMantissa l.mantissa
    → display_of reinhard l ≡ record { exponent = 128; mantissa = 255 }
bright l h m =
    stored_as
    (rescale {i = 0} {j = 0} (record {
      normalised = shut (λ (u : ℕ). Normalised (w * 1) ((u + w) * 1) 255)
          (white (2 ^ 137) w (pow_pos 137) (le_trans (lit≤ tt) (mul-le-mul {n₁ = 257} (omega (arith, m.least)) (pow_mono h))));
    })
    (omega arith)) (record { cross = refl }) (share_pos _ _)
  where
    w : ℕ
    w = (2 * l.mantissa + 1) * 2 ^ l.exponent

    white : (C w : ℕ) → 0 < C → 255 * C ≤ w → Normalised (w * 1) ((C + w) * 1) 255
    white C w p g = cell (omega arith) (omega arith) (omega arith) (omega arith)

pub plain_bright : (l : Stored) → 152 < l.exponent → IsScaled l → record { exponent = 128; mantissa = 255 } ≡ display_of reinhard l
plain_bright l h s = sym (bright l (omega arith) s.mantissa)

pub bright_is_white : BrightIsWhite
bright_is_white l h = bright l (omega arith)

-- between, L and 1 are whole numbers of 2^(114-137): s and 2^23
pub record Divided (v e s : ℕ) : Type 0 where
  pub most : s < 2 ^ 47
  pub storable : Storable (unit_ratio s (8388608 + s) 137)
  pub same : stored_of (unit_ratio s (8388608 + s) 137) ≡ stored_of (share v e)

pub divided : (v e s : ℕ) → (257 ≤ v) × (v ≤ 511) → s ≡ v * 2 ^ (e - 114) → (114 ≤ e) × (e ≤ 152) → Divided v e s
divided v e s value q h =
    record {
      most = most;
      storable = fits;
      same = sym (stored_alike fits.in_range (record { cross = cross unit (2 ^ 137) (2 ^ 114) (v * 2 ^ e) unit_power refl whole })
          (share_pos v e));
    }
  where
    most : s < 2 ^ 47
    most =
        subst (λ (x : ℕ). x < 2 ^ 47) (sym q) (lt_of_le_of_lt (shift_most v (e - 114) 511 38 value.1 (omega arith)) (lit< tt))

    least : 257 ≤ s
    least = subst (λ (x : ℕ). 257 ≤ x) (sym q) (mul-le-mul {n₁ = 257} {m₁ = 1} value.0 (pow_pos (e - 114)))

    fits : Storable (unit_ratio s (8388608 + s) 137)
    fits =
        record {
          in_range = fits_between (ratio_above 129 257 (2 ^ 48) 137 least (omega (arith, most)) (le_refl 137) tt)
              (ratio_at_most 127 (2 ^ 47) 1 137 (omega (arith, most)) (omega arith) (le_refl 137) tt);
        }

    whole : s * 2 ^ 114 ≡ v * 2 ^ e
    whole =
        ap (λ (x : ℕ). x * 2 ^ 114) q ∙ mul_assoc v (2 ^ (e - 114)) (2 ^ 114)
        ∙ ap (λ (x : ℕ). v * x) (power_difference e 114 h.0)

    cross : (u w p x : ℕ) → u ≡ w → w ≡ 8388608 * p → s * p ≡ x → s * w * (u + x) ≡ x * ((8388608 + s) * u)
    cross u w p x f g k = rw (f, g, ← k) (omega arith)
