-- The level from a factor is the level of step 6: 28 binary places of 255 / (2M + 1) are exact enough. Assumes nothing.
use mathlib.Core.Path.{◌≡◌, ◌∙◌, refl, ap, sym}
use mathlib.Core.List.{List}
use Prim.Native.Nat.{ℕ, ◌+◌, ◌-◌, ◌*◌, ◌/◌, ◌%◌, ◌^◌, ◌≤◌, ◌<◌, min}
use native.Mathlib.Decide.{dec_lt}
use native.Mathlib.Nat.{
  div-eq_of_lt-le,
  div-mul-le_self,
  le-div_iff_mul-le,
  le_of_eq,
  le_of_mul-le-mul_left,
  le_trans,
  lt-div-mul-add,
  lt_of_mul-lt-mul_left,
  min-eq_left,
  mod-eq_of_lt,
  mul-le-mul,
  mul-le-mul_left,
  mul-le-mul_right,
  mul-pos,
}
use native.Mathlib.Omega.{arith}
use lib.ListN.{get_or}
use lib.Pow.{pow-add, pow_mono, pow_pos}
use Rattle.number.proofs.Laws.{◌over◌, IsMantissa, IsLit, Coded, IsCode, code_channel}
use Rattle.number.specs.declared.channel.Channel.{Channel}
use Rattle.number.specs.declared.channel.Channel.TheVariants.{Black, Lit}
use Rattle.number.specs.declared.ratio.Stored.{Stored}
use Rattle.tone.specs.loops.Factors.{reciprocal_of, offset_of, factor_of, factor_by, power_at, wide_level, IsReciprocalTable}
use Rattle.tone.specs.Levels.{level_of, nearest_whole}
use Rattle.tone.proofs.LevelSteps.{apart, black_level, full_level, dark_level, lowered, lit_level}
use Rattle.tone.proofs.Powers.{power_below, power_within, power_beyond}

-- 2M + 1 of a mantissa M
abbrev IsValue : ℕ → Type 0
IsValue n = (257 ≤ n) × (n ≤ 511)

value : {M : ℕ} → IsMantissa M → IsValue (2 * M + 1)
value m = omega arith

-- R is 255 / B in 28 binary places, rounded up
record IsReciprocal (B R : ℕ) : Type 0 where
  least : 255 * 2 ^ 28 ≤ R * B
  most : R * B ≤ 255 * 2 ^ 28 + 510

reciprocal : (M : ℕ) → IsMantissa M → IsReciprocal (2 * M + 1) (reciprocal_of M)
reciprocal M m =
    record {
      least = omega (arith, lt-div-mul-add {a = 255 * 2 ^ 28 + 2 * M} {b = 2 * M + 1} (omega arith));
      most = omega (arith, div-mul-le_self (255 * 2 ^ 28 + 2 * M) (2 * M + 1));
    }

-- the level of a scale, the value of a channel and a power
abbrev level_by : (scale value power : ℕ) → ℕ
level_by s v p = min 255 ((s * v * p + 2 ^ 45) / 2 ^ 46)

unlit_by : (s v p : ℕ) → s * v * p ≡ 0 → level_by s v p ≡ 0
unlit_by s v p e = rw e

-- the values of display luminance, luminance and channel
module _ (A B C R : ℕ) (a : IsValue A) (b : IsValue B) (c : IsValue C) (r : IsReciprocal B R) where
  -- where the power is 2^11
  full_by : level_by (A * R) C (2 ^ 11) ≡ 255
  full_by =
      min-eq_left ((le-div_iff_mul-le {k = 2 ^ 46} (omega arith)).1
      (le_of_mul-le-mul_left {k = B} (omega (arith, mul-le-mul_left (A * C * 2 ^ 11) r.least, mul-le-mul a.0 c.0)) (omega arith)))

  -- where it is p, and the exact level has q in its divisor
  within_by : (p q : ℕ) → 0 < p → 0 < q → p * q ≡ 2 ^ 18 → level_by (A * R) C p ≡ min 255 (nearest_whole (255 * A * C over B * q))
  within_by p q pp pq e = ap (min 255) (div-eq_of_lt-le (2 ^ 46) low high)
    where
      exact : ℕ
      exact = nearest_whole (255 * A * C over B * q)

      pos : 0 < 2 * (B * q)
      pos = mul-pos {m = 2} (omega arith) (mul-pos (omega arith) pq)

      low : exact * 2 ^ 46 ≤ A * R * C * p + 2 ^ 45
      low =
          le_of_mul-le-mul_left {k = 2 * B}
          (omega (
            arith,
            mul-le-mul_left (p * 2 ^ 28) (div-mul-le_self (2 * (255 * A * C) + B * q) (2 * (B * q))),
            mul-le-mul_left (2 * A * C * p) r.least,
            ap (λ (z : ℕ). exact * B * z) e,
            ap (λ (z : ℕ). B * z) e,
          ))
          (omega arith)

      small : 2 * 510 * (A * C) < 2 ^ 28
      small = omega (arith, mul-le-mul a.1 c.1)

      high : A * R * C * p + 2 ^ 45 < (exact + 1) * 2 ^ 46
      high =
          lt_of_mul-lt-mul_left (2 * B)
          (omega (
            arith,
            mul-le-mul_left (p * 2 ^ 28) (lt-div-mul-add {a = 2 * (255 * A * C) + B * q} pos),
            mul-le-mul_left (2 * A * C * p) r.most,
            mul-le-mul_left p small,
            ap (λ (z : ℕ). exact * B * z) e,
            ap (λ (z : ℕ). B * z) e,
          ))

  -- by the index i of the power
  module _ (up down i : ℕ) where
    abbrev Exact : Type 0
    Exact = level_by (A * R) C (power_at i) ≡ min 255 (nearest_whole (255 * A * C * 2 ^ up over B * 2 ^ down))

    at_power : {p : ℕ} → power_at i ≡ p → level_by (A * R) C (power_at i) ≡ level_by (A * R) C p
    at_power e = ap (λ (z : ℕ). level_by (A * R) C z) e

    below : i < 374 → up + 19 ≤ down → Exact
    below h k =
        at_power (power_below i h) ∙ unlit_by (A * R) C 0 (omega arith)
        ∙ dark_level _ (least (2 ^ up) (2 ^ down) (pow_pos up) (apart up down 19 k))
      where
        least : (p q : ℕ) → 0 < p → p * 2 ^ 19 ≤ q → 2 * (255 * A * C * p) < B * q
        least p q o h = omega (arith, mul-le-mul_right q b.0, mul-le-mul_right p (mul-le-mul a.1 c.1))

    beyond : 385 ≤ i → down ≤ up + 7 → Exact
    beyond h k =
        at_power (power_beyond i h) ∙ full_by
        ∙ full_level _ (mul-pos (omega arith) (pow_pos down)) (most (2 ^ up) (2 ^ down) (le_trans (pow_mono k) (le_of_eq (pow-add 2 up 7))))
      where
        most : (p q : ℕ) → q ≤ p * 2 ^ 7 → 255 * (B * q) ≤ 255 * A * C * p
        most p q h = omega (arith, mul-le-mul_right q b.1, mul-le-mul_right p (mul-le-mul a.0 c.0))

    between : 374 ≤ i → i < 385 → down + i ≡ up + 392 → Exact
    between h k e =
        let places : (i - 374) + (down - up) ≡ 18 = omega arith in
        at_power (power_within i h (omega arith))
        ∙ within_by (2 ^ (i - 374)) (2 ^ (down - up)) (pow_pos (i - 374)) (pow_pos (down - up))
        (sym (pow-add 2 (i - 374) (down - up)) ∙ ap (λ (z : ℕ). 2 ^ z) places)
        ∙ ap (min 255) (lowered (255 * A * C) up B down (omega arith) (omega arith))

    exact_by : (i < 374 → up + 19 ≤ down) → (385 ≤ i → down ≤ up + 7) → (374 ≤ i → i < 385 → down + i ≡ up + 392) → Exact
    exact_by low high within = go (dec_lt i 374) (dec_lt i 385)
      where
        go : Dec (i < 374) → Dec (i < 385) → Exact
        go (yes h) k = below h (low h)
        go (no h) (yes k) = between (omega arith) k (within (omega arith) k)
        go (no h) (no k) = beyond (omega arith) (high (omega arith))

module _ (d y : Stored) (md : IsMantissa d.mantissa) (my : IsMantissa y.mantissa) where
  abbrev scale : ℕ
  scale = (2 * d.mantissa + 1) * reciprocal_of y.mantissa

  -- the parts of a factor, and its bound
  scale_small : scale < 2 ^ 40
  scale_small =
      let R = reciprocal_of y.mantissa in
      let r : R ≤ 2 ^ 28 = omega (arith, mul-le-mul_left R (value my).0, (reciprocal _ my).most) in
      omega (arith, mul-le-mul (value md).1 r)

  factor_low : factor_of d y % 2 ^ 40 ≡ scale
  factor_low = omega (arith, scale_small)

  factor_high : factor_of d y / 2 ^ 40 ≡ offset_of d y
  factor_high = omega (arith, scale_small)

  pub factor_most : factor_of d y < 374 * 2 ^ 40
  factor_most = omega (arith, scale_small)

  -- the level of black, of a lit channel, of a code
  black_by : level_by scale 1 (power_at (offset_of d y)) ≡ level_of d Black y
  black_by =
      ap (λ (z : ℕ). level_by scale 1 z) (power_below _ (omega arith)) ∙ unlit_by scale 1 0 (omega arith) ∙ black_level d _ y refl

  lit_by : (E M : ℕ) → IsLit E M → level_by scale (2 * M + 1) (power_at (E + offset_of d y)) ≡ level_of d (Lit E M) y
  lit_by E M l =
      exact_by _ _ _ _ (value md) (value my) (value l.mantissa) (reciprocal _ my)
      (d.exponent + E) (y.exponent + 137) (E + offset_of d y) (λ h. omega arith) (λ h. omega arith) (λ h k. omega arith)
      ∙ lit_level d _ y E M refl

  code_by : (c : Channel) (n : ℕ) → Coded n c → level_by scale (2 * (n % 256) + 1) (power_at (n / 256 + offset_of d y)) ≡ level_of d c y
  code_by Black n h =
      let e : n / 256 + offset_of d y ≡ offset_of d y = omega arith in let m : n % 256 ≡ 0 = omega arith in rw (e, m) black_by
  code_by (Lit E M) n h =
      let l = h.valid in
      let e : n / 256 ≡ E = omega arith in let m : n % 256 ≡ M = omega arith in rw (e, m) (lit_by E M l)

  pub level_by_factor : (f n : ℕ) → f ≡ factor_of d y → IsCode n → min 255 (wide_level f n) ≡ level_of d (code_channel n) y
  unfolding wide_level
  level_by_factor f n e h = rw (e, factor_low, factor_high) (code_by (code_channel n) n h)

-- a factor of scale 0 gives level 0
pub level_unlit : (f n : ℕ) → f % 2 ^ 40 ≡ 0 → wide_level f n ≡ 0
unfolding wide_level
level_unlit f n e = rw e (omega arith)

-- ---- by a table of reciprocals

module _ (rs : List ℕ) (d y : Stored) where
  pub factor_by_law : IsReciprocalTable rs → IsMantissa y.mantissa → factor_by rs d y ≡ factor_of d y
  unfolding factor_by
  factor_by_law table m =
      let M = y.mantissa in
      let R = reciprocal_of M in
      let k : 128 + M % 128 ≡ M = omega arith in
      let small : R < 2 ^ 28 = omega (arith, mul-le-mul_left R (value m).0, (reciprocal M m).most) in
      let entry : get_or rs (M % 128) 0 ≡ R = table.entry (M % 128) (omega arith) ∙ ap reciprocal_of k in
      rw entry (ap (λ (z : ℕ). (2 * d.mantissa + 1) * z + offset_of d y * 2 ^ 40) (mod-eq_of_lt small))
