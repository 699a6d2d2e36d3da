-- Step 5 with a white point: L(1 + L/w²)/(1 + L) of v · 2^e units, v = 2M + 1. Assumes nothing.
use mathlib.Core.Path.{◌≡◌, sym, ap, ◌∙◌, subst}
use Prim.Native.Nat.{ℕ, ◌+◌, ◌-◌, ◌*◌, ◌^◌, ◌≤◌, ◌<◌, min}
use native.Mathlib.Nat.{
  le_refl,
  lt_of_le_of_lt,
  mul_assoc,
  mul-le-mul,
  mul-le-mul_right,
  mul-pos,
  one-mul,
}
use native.Mathlib.Decide.{dec_le}
use native.Mathlib.Omega.{arith}
use lib.Dec.{lit<, lit≤}
use lib.Pow.{pow-add, pow_mono, pow_pos}
use Rattle.number.proofs.Laws.{
  Frac,
  ◌over◌,
  Equal,
  Scales,
  Stores,
  IsMantissa,
  unit,
  stored_of,
  unit_pos,
  unit_power,
  fits_between,
  in_range,
  powers_into,
  powers_out,
  ratio_above,
  ratio_at_most,
  sticky_bit,
  stored_alike,
  stored_as,
}
use Rattle.number.specs.declared.ratio.Stored.{Stored}
use Rattle.tone.specs.Levels.{white_point, display_of}
use Rattle.tone.specs.loops.Quotients.{IsQuotient}
use Rattle.luminance.proofs.Products.{power_difference, product_between, shift_most}
use Rattle.luminance.proofs.Storables.{unit_ratio, Storable, shut}
use Rattle.tone.proofs.Curves.{white_ratio}
use Rattle.tone.proofs.Displays.{itself}

-- the curve of v · 2^e units
abbrev whitened : (W v e : ℕ) → Frac
whitened W v e = white_point W (v * 2 ^ e over unit)

whitened_pos : (W v e : ℕ) → 10 ≤ W → 0 < (whitened W v e).den
whitened_pos W v e h = (white_ratio W h).den_pos (v * 2 ^ e over unit) unit_pos

-- W², for W from a on
square_between : (a : ℕ) {W : ℕ} → (a ≤ W) × (W ≤ 1000) → (a * a ≤ W * W) × (W * W ≤ 1000000)
square_between a w = product_between a 1000 a 1000 _ _ w w

-- ---- a white point of 1 changes nothing

pub white_one : (l : Stored) → IsMantissa l.mantissa → display_of (white_point 10) l ≡ l
white_one l m =
    stored_as (itself l m) (record { cross = same unit ((2 * l.mantissa + 1) * 2 ^ l.exponent) })
    (whitened_pos 10 (2 * l.mantissa + 1) l.exponent (omega arith))
  where
    same : (u w : ℕ) → w * (10 * 10 * u * (u + w)) ≡ w * (10 * 10 * u + 100 * w) * u
    same u w = omega arith

-- ---- L as a quotient of small numbers

-- what is divided, and by what
abbrev pub dividend : (W part one : ℕ) → ℕ
dividend W part one = part * (W * W * one + 100 * part)

abbrev pub divisor : (W part one : ℕ) → ℕ
divisor W part one = W * W * (one + part)

pub record Quotient (W part one e : ℕ) : Type 0 where
  pub dividend_most : dividend W part one ≤ 2 ^ 56
  pub storable : Storable (unit_ratio (dividend W part one) (divisor W part one) e)
  pub same : stored_of (unit_ratio (dividend W part one) (divisor W part one) e) ≡ stored_of (whitened W part e)

pub quotient : (W part one e : ℕ) → (10 ≤ W) × (W ≤ 1000) → IsQuotient part one e → Quotient W part one e
quotient W part one e w q =
    record {
      dividend_most = most;
      storable = fits;
      same = sym (stored_alike fits.in_range
          (record { cross = cross (W * W) part one (2 ^ e) unit q.scale }) (whitened_pos W part e w.0));
    }
  where
    v : (100 ≤ W * W) × (W * W ≤ 1000000)
    v = square_between 10 w

    most : part * (W * W * one + 100 * part) ≤ 2 ^ 56
    most =
        omega (arith, mul-le-mul v.1 q.product, mul-le-mul q.part_most q.part_most)

    divisor_most : W * W * (one + part) ≤ 2 ^ 45
    divisor_most = omega (arith, mul-le-mul v.1 q.one_most, mul-le-mul v.1 q.part_most)

    fits : Storable (unit_ratio (dividend W part one) (divisor W part one) e)
    fits =
        record {
          in_range = fits_between
              (ratio_above 129 1 (2 ^ 45) 114 (mul-pos q.positive (omega (arith, q.positive))) divisor_most q.exponent_least tt)
              (ratio_at_most 127 (2 ^ 56) 1 137 most (mul-pos (omega (arith, v)) (omega (arith, q.positive))) q.exponent_most tt);
        }

    cross : (s x y p u : ℕ) → y * p ≡ u
        → x * (s * y + 100 * x) * p * (s * u * (u + x * p)) ≡ x * p * (s * u + 100 * (x * p)) * (s * (y + x) * u)
    cross s x y p u h = rw (← h) (omega arith)

-- a value below 1, and one from 1 on
module _ (v e s : ℕ) (value : (257 ≤ v) × (v ≤ 511)) where
  below_one : s ≡ 1 * 2 ^ (137 - e) → (114 ≤ e) × (e < 137) → IsQuotient v s e
  below_one q h =
      let most : s ≤ 2 ^ 23 = subst (λ (z : ℕ). z ≤ 2 ^ 23) (sym q) (shift_most 1 (137 - e) 1 23 (le_refl 1) (omega arith)) in
      record {
        scale = ap (λ (z : ℕ). z * 2 ^ e) (q ∙ one-mul (2 ^ (137 - e))) ∙ power_difference 137 e (omega arith) ∙ sym unit_power;
        exponent_least = h.0;
        exponent_most = omega arith;
        positive = omega arith;
        part_most = omega arith;
        one_most = most;
        product = omega (arith, mul-le-mul value.1 most);
      }

  from_one : s ≡ v * 2 ^ (e - 137) → (137 ≤ e) × (e ≤ 152) → IsQuotient s 1 137
  from_one q h =
      let most : s ≤ 511 * 2 ^ 15 = subst (λ (z : ℕ). z ≤ 511 * 2 ^ 15) (sym q) (shift_most v (e - 137) 511 15 value.1 (omega arith)) in
      record {
        scale = one-mul (2 ^ 137) ∙ sym unit_power;
        exponent_least = lit≤ tt;
        exponent_most = le_refl 137;
        positive = subst (λ (z : ℕ). 1 ≤ z) (sym q) (mul-pos (omega arith) (pow_pos (e - 137)));
        part_most = omega arith;
        one_most = lit≤ tt;
        product = omega arith;
      }

-- either, in units of 2^(l − 137), of which 2^(137 − l) are 1
pub in_units : (v e l one part : ℕ) → (257 ≤ v) × (v ≤ 511) → (114 ≤ e) × (e ≤ 152) → l ≡ min e 137
    → one ≡ 1 * 2 ^ (137 - l) → part ≡ v * 2 ^ (e - l) → IsQuotient part one l
in_units v e l one part value h m = by (dec_le 137 e)
  where
    by : Dec (137 ≤ e) → one ≡ 1 * 2 ^ (137 - l) → part ≡ v * 2 ^ (e - l) → IsQuotient part one l
    by (yes g) =
        let least : l ≡ 137 = omega arith in
        subst (λ (l : ℕ). one ≡ 1 * 2 ^ (137 - l) → part ≡ v * 2 ^ (e - l) → IsQuotient part one l) (sym least)
        (λ o q. subst (λ (z : ℕ). IsQuotient part z 137) (sym o) (from_one v e part value q (g, h.1)))
    by (no g) =
        let least : l ≡ e = omega arith in
        subst (λ (l : ℕ). one ≡ 1 * 2 ^ (137 - l) → part ≡ v * 2 ^ (e - l) → IsQuotient part one l) (sym least)
        (λ o q.
        let none : e - e ≡ 0 = omega arith in
        let whole : part ≡ v = q ∙ rw none (omega arith) in
        subst (λ (z : ℕ). IsQuotient z one e) (sym whole) (below_one v e one value o (h.0, omega arith)))

pub same_units : (v e l part : ℕ) → l ≡ min e 137 → part ≡ v * 2 ^ (e - l) → part * 2 ^ l ≡ v * 2 ^ e
same_units v e l part m q =
    ap (λ (z : ℕ). z * 2 ^ l) q ∙ mul_assoc v (2 ^ (e - l)) (2 ^ l) ∙ ap (λ (z : ℕ). v * z) (power_difference e l (omega arith))

-- from exponent 137 on, a value in whole numbers
whole_units : (v e : ℕ) → 137 ≤ e → v * 2 ^ (e - 137) * 2 ^ 137 ≡ v * 2 ^ e
whole_units v e h = mul_assoc v (2 ^ (e - 137)) (2 ^ 137) ∙ ap (λ (z : ℕ). v * z) (power_difference e 137 h)

-- ---- L as a whole number x, of which the curve is x(W² + 100x) / (W²(1 + x))

-- (a · p + r) / (b · p) units of 2^e, cut with a sticky bit
cut : (a r p b e : ℕ) {G : Frac} → 128 * b ≤ a → 0 < b → 0 < r → r < p → Storable (unit_ratio (2 * a + 1) (2 * b) e)
    → Equal (unit_ratio (a * p + r) (b * p) e) G → 0 < G.den → stored_of (unit_ratio (2 * a + 1) (2 * b) e) ≡ stored_of G
cut a r p b e l pb pr q fits same pos = sym (stored_as (whole (in_range fits.in_range)) same pos)
  where
    one : 1 ≡ min 1 r
    one = omega arith

    whole : {E M : ℕ} → Stores (unit_ratio (2 * a + 1) (2 * b) e) E M → Stores (unit_ratio (a * p + r) (b * p) e) E M
    whole {E} {M} s =
        let bit = powers_out (2 * a + 1) (2 * b) e 137 (subst (λ (u : ℕ). Stores ((2 * a + 1) * 2 ^ e over 2 * b * u) E M) unit_power s) in
        shut (λ (u : ℕ). Stores ((a * p + r) * 2 ^ e over b * p * u) E M)
        (powers_into e 137 (sticky_bit a r p b l pb q
        (subst (λ (z : ℕ). Scales (2 * a + z over 2 * b) (e + 128) (137 + E) M) one bit)))

-- below exponent 170, with x for v · 2^(e-137)
pub record Near (W v e x : ℕ) : Type 0 where
  pub storable : Storable (unit_ratio (200 * x + 2 * (W * W) - 201) (2 * (W * W)) 137)
  pub same : stored_of (unit_ratio (200 * x + 2 * (W * W) - 201) (2 * (W * W)) 137) ≡ stored_of (whitened W v e)

-- from there on
pub record Far (W v e : ℕ) : Type 0 where
  pub storable : Storable (unit_ratio (2 * (819200 * v) + 1) (2 * (W * W)) (e - 13))
  pub same : stored_of (unit_ratio (2 * (819200 * v) + 1) (2 * (W * W)) (e - 13)) ≡ stored_of (whitened W v e)

module _ (W v e : ℕ) (w : (10 < W) × (W ≤ 1000)) (value : (257 ≤ v) × (v ≤ 511)) where
  limits : (121 ≤ W * W) × (W * W ≤ 1000000)
  limits = square_between 11 w

  -- the curve as n / (W²(1 + x)) in units of k
  curve_whole : (x k n e' : ℕ) → x * unit ≡ v * 2 ^ e → k * unit ≡ 2 ^ e' → n ≡ x * (W * W + 100 * x)
      → Equal (unit_ratio n (W * W * (k * (1 + x))) e') (whitened W v e)
  curve_whole x k n e' f g a = record { cross = cross (W * W) unit (v * 2 ^ e) (2 ^ e') f g a }
    where
      cross : (q u w p : ℕ) → x * u ≡ w → k * u ≡ p → n ≡ x * (q + 100 * x)
          → n * p * (q * u * (u + w)) ≡ w * (q * u + 100 * w) * (q * (k * (1 + x)) * u)
      cross q u w p f g a = rw (← f, ← g, a) (omega arith)

  is_whole : 137 ≤ e → v * 2 ^ (e - 137) * unit ≡ v * 2 ^ e
  is_whole h = ap (λ (u : ℕ). v * 2 ^ (e - 137) * u) unit_power ∙ whole_units v e h

  positive : 0 < (whitened W v e).den
  positive = whitened_pos W v e (omega (arith, w.0))

  -- x(W² + 100x) is (100x + W² - 101)(1 + x) + r, with r from 1 to x
  pub near : (x : ℕ) → x ≡ v * 2 ^ (e - 137) → (152 < e) × (e < 170) → Near W v e x
  near x q h =
      record {
        storable = fits;
        same = ap by bit
            ∙ cut a r (1 * (1 + x)) (W * W) 137 (omega (arith, least, limits)) (omega (arith, limits)) (omega (arith, least, limits))
            (omega (arith, limits)) (subst (λ (n : ℕ). Storable (unit_ratio n (2 * (W * W)) 137)) bit fits)
            (curve_whole x 1 (a * (1 * (1 + x)) + r) 137 (ap (λ (z : ℕ). z * unit) q ∙ is_whole (omega arith)) (one-mul unit ∙ unit_power)
            (split (W * W) a r (omega (arith, least, limits)) (omega (arith, least, limits))))
            positive;
      }
    where
      a : ℕ
      a = 100 * x + W * W - 101

      r : ℕ
      r = x + 101 - W * W

      most : x < 2 ^ 42
      most = subst (λ (z : ℕ). z < 2 ^ 42) (sym q) (lt_of_le_of_lt (shift_most v (e - 137) 511 32 value.1 (omega arith)) (lit< tt))

      least : 257 * 2 ^ 16 ≤ x
      least = subst (λ (z : ℕ). 257 * 2 ^ 16 ≤ z) (sym q) (mul-le-mul {n₁ = 257} value.0 (pow_mono {i = 16} (omega arith)))

      fits : Storable (unit_ratio (200 * x + 2 * (W * W) - 201) (2 * (W * W)) 137)
      fits =
          record {
            in_range = fits_between
                (ratio_above 129 1 2000000 137 (omega (arith, least)) (omega (arith, limits)) (le_refl 137) tt)
                (ratio_at_most 127 (2 ^ 51) 1 137 (omega (arith, most, limits)) (omega (arith, limits)) (le_refl 137) tt);
          }

      by : ℕ → Stored
      by n = stored_of (unit_ratio n (2 * (W * W)) 137)

      bit : 200 * x + 2 * (W * W) - 201 ≡ 2 * a + 1
      bit = omega (arith, least)

      split : (s b t : ℕ) → b + 101 ≡ 100 * x + s → t + s ≡ x + 101 → b * (1 * (1 + x)) + t ≡ x * (s + 100 * x)
      split s b t f g = omega (arith, ap (λ (z : ℕ). z * x) f)

  -- with k for 2^(e-150) it is 819200v · k(1 + x) + r, with r below k(1 + x)
  pub far : (170 ≤ e) × (e ≤ 246) → Far W v e
  far h =
      record {
        storable = fits;
        same = cut (819200 * v) (c * x) (k * (1 + x)) (W * W) (e - 13) (omega (arith, value, limits)) (omega (arith, limits))
            (mul-pos (omega (arith, limits)) (mul-pos (omega (arith, value)) (pow_pos (e - 137)))) less fits
            (curve_whole x k (819200 * v * (k * (1 + x)) + c * x) (e - 13) (is_whole (omega arith)) units
            (split (W * W) k x (omega (arith, limits)) whole))
            positive;
      }
    where
      k : ℕ
      k = 2 ^ (e - 150)

      x : ℕ
      x = v * 2 ^ (e - 137)

      c : ℕ
      c = W * W - 100

      fits : Storable (unit_ratio (2 * (819200 * v) + 1) (2 * (W * W)) (e - 13))
      fits =
          record {
            in_range = fits_between
                (ratio_above 129 1 2000000 137 (omega arith) (omega (arith, limits)) (omega arith) tt)
                (ratio_at_most 127 (2 ^ 30) 242 233 (omega (arith, value)) (omega (arith, limits)) (omega arith) tt);
          }

      less : c * x < k * (1 + x)
      less = below k x (omega (arith, limits)) (pow_mono {i = 20} (omega arith))
        where
          below : (m y : ℕ) → c ≤ 1000000 → 2 ^ 20 ≤ m → c * y < m * (1 + y)
          below m y f g = omega (arith, mul-le-mul_right y f, mul-le-mul_right y g)

      units : k * unit ≡ 2 ^ (e - 13)
      units =
          ap (λ (u : ℕ). k * u) unit_power ∙ sym (pow-add 2 (e - 150) 137) ∙ ap (λ (z : ℕ). 2 ^ z) (omega arith)

      whole : x ≡ v * (8192 * k)
      whole = ap (λ (z : ℕ). v * z) (ap (λ (z : ℕ). 2 ^ z) (omega arith) ∙ pow-add 2 13 (e - 150))

      split : (s m y : ℕ) → s ≡ c + 100 → y ≡ v * (8192 * m) → 819200 * v * (m * (1 + y)) + c * y ≡ y * (s + 100 * y)
      split s m y f g = omega (arith, ap (λ (z : ℕ). z * y) f, ap (λ (z : ℕ). z * (1 + y)) g)
