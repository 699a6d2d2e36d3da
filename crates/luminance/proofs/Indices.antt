-- The index of a luminance: what stands at it, and how a sum of weighted channels gives it by thirteen binary digits. Assumes nothing.
use Rattle.std.proofs.Common.{◌≡◌, ℕ, ◌+◌, ◌-◌, ◌*◌, ◌/◌, ◌%◌, ◌^◌, ◌<◌, ◌≤◌, min, ◌⊎◌, List, get_or, sym, refl, ap, ◌∙◌, ap₂, subst₂, inl, inr, mul-le-mul_right, mul-le-mul_left, mul-le-mul, mul-lt-mul_of_pos_right, mul-pos, lt_of_not-le, arith, lit<, pow_pos, pow_mono, pow-add}
use native.Mathlib.Decide.{dec_le}
use Rattle.number.proofs.Laws.{◌over◌, Scales, Stores, IsLit, Coded, unit, stored_of, unit_pos, cell, powers_into, rescale, stored_as}
use Rattle.number.specs.declared.channel.Channel.{Channel}
use Rattle.number.specs.declared.channel.Channel.TheVariants.{Black, Lit}
use Rattle.number.specs.declared.channel.Pixel.{Pixel}
use Rattle.number.specs.declared.ratio.Stored.{Stored}
use Rattle.luminance.specs.Pixels.{luminance_of, IsLuminance}
use Rattle.luminance.specs.loops.Codes.{index_of, index_count, stored_at, IsCut, IsWeightTable}
use Rattle.luminance.proofs.Storables.{shut}
use Rattle.luminance.proofs.Luminances.{red_lit}
use Rattle.std.specs.Prelude.{Some}

-- ---- the luminances have their indices, from 128 on

pub index_stored : (y : Stored) → IsLuminance y → stored_at (index_of (Some y)) ≡ y
index_stored y h = ap₂ (λ (x m : ℕ). record { exponent = x; mantissa = m }) (omega arith) (omega arith)

pub index_range : (y : Stored) → IsLuminance y → (128 ≤ index_of (Some y)) × (index_of (Some y) < index_count)
index_range y h = (omega arith, omega arith)

-- ---- a hundredth of a number s

-- in units, times 2^e
pub scaled_stored : (s e j M E : ℕ) → E + 9 ≡ e + j → Scales (s over 100) 0 j M
    → stored_of (s * 2 ^ e over 100 * unit) ≡ record { exponent = E; mantissa = M }
scaled_stored s e j M E h m =
    stored_as
    (shut (λ (u : ℕ). Stores (s * 2 ^ e over 100 * u) E M) (powers_into e 137 (rescale m (omega arith))))
    (record { cross = refl }) (mul-pos {m = 100} (lit< tt) unit_pos)

-- where s is cut to the digits t
module _ {s t k : ℕ} (c : IsCut s t k) where
  -- all numbers that are cut to t lie in one cell
  scaled : (i M : ℕ) → 100 * 2 ^ i < 2 * t → M ≤ 255 → M * (100 * 2 ^ i) ≤ 256 * t → 256 * (t + 1) ≤ (M + 1) * (100 * 2 ^ i)
      → Scales (s over 100) 0 (k + i) M
  scaled i M above most floor ceiling =
      record {
        normalised = rw (pow-add 2 k i)
            (cell (omega (arith, mul-lt-mul_of_pos_right above (pow_pos k))) most
            (omega (arith, mul-le-mul_right (2 ^ k) floor)) (omega (arith, mul-le-mul_right (2 ^ k) ceiling)));
      }

  -- The digits 6400 are left out: a hundred times a power of two has them, and so have numbers just above.
  cut_index : (e d : ℕ) → d + 69 ≡ k + e → (t ≡ 6400 → ⊥)
      → 128 * d + min (t / 25 - 128) (t / 25 / 2) ≡ index_of (Some (stored_of (s * 2 ^ e over 100 * unit)))
  cut_index e d h other = by (dec_le t 6400)
    where
      low : (q : ℕ) → q < 256 → 128 * d + min (q - 128) (q / 2) ≡ 128 * (d + 66 - 66) + (q - 128)
      low q l = omega arith

      high : (q : ℕ) → 256 ≤ q → 128 * d + min (q - 128) (q / 2) ≡ 128 * (d + 67 - 66) + (q / 2 - 128)
      high q l = omega arith

      by : Dec (t ≤ 6400)
          → 128 * d + min (t / 25 - 128) (t / 25 / 2) ≡ index_of (Some (stored_of (s * 2 ^ e over 100 * unit)))
      by (yes l) =
          let below : t < 6400 = lt_of_not-le (λ g. other (omega arith)) in
          low (t / 25) (omega arith)
          ∙ sym (ap (λ (y : Stored). index_of (Some y))
          (scaled_stored s e (k + 6) (t / 25) (d + 66) (omega arith) (scaled 6 (t / 25) (omega arith) (omega arith) (omega arith) (omega arith))))
      by (no l) =
          high (t / 25) (omega arith)
          ∙ sym (ap (λ (y : Stored). index_of (Some y))
          (scaled_stored s e (k + 7) (t / 25 / 2) (d + 67) (omega arith)
          (scaled 7 (t / 25 / 2) (omega arith) (omega arith) (omega arith) (omega arith))))

-- ---- the sum of three channels

pub entry_most : (weight i : ℕ) (entries : List ℕ) → IsWeightTable weight entries → i < 48 → get_or entries i 0 ≤ weight * 2 ^ 47
entry_most weight i entries t h = rw (t.entry i h) (mul-le-mul_left weight (pow_mono {i = i} {j = 47} (omega arith)))

-- c is lit with the exponent and the mantissa of the code n
abbrev pub LitAt : (n : ℕ) (c : Channel) → Type 0
LitAt n c = (c ≡ Lit (n / 256) (n % 256)) × IsLit (n / 256) (n % 256)

black_or_lit : (n : ℕ) (c : Channel) → Coded n c → (n ≡ 0) ⊎ LitAt n c
black_or_lit n Black h = inl (sym h.code)
black_or_lit n (Lit E M) h =
    let code : 256 * E + M ≡ n = h.code in
    let valid : IsLit E M = h.valid in
    let exponent : E ≡ n / 256 = omega arith in
    let mantissa : M ≡ n % 256 = omega arith in
    inr (ap₂ Lit exponent mantissa, subst₂ IsLit exponent mantissa valid)

-- the sum times 2^e, where e moves each weight to the exponent of its channel
gather : (r g b X Y Z E E' E'' e s : ℕ) → s ≡ r * (27 * 2 ^ X) + g * (67 * 2 ^ Y) + b * (6 * 2 ^ Z)
    → X + e ≡ E → Y + e ≡ E' → Z + e ≡ E''
    → s * 2 ^ e ≡ 27 * (r * 2 ^ E) + 67 * (g * 2 ^ E') + 6 * (b * 2 ^ E'')
gather r g b X Y Z E E' E'' e s sum x y z =
    total (2 ^ X) (2 ^ Y) (2 ^ Z) (2 ^ e) (2 ^ E) (2 ^ E') (2 ^ E'') sum (raise X E x) (raise Y E' y) (raise Z E'' z)
  where
    raise : (i j : ℕ) → i + e ≡ j → 2 ^ i * 2 ^ e ≡ 2 ^ j
    raise i j h = sym (pow-add 2 i e) ∙ ap (λ (z : ℕ). 2 ^ z) h

    total : (x y z u p q v : ℕ) → s ≡ r * (27 * x) + g * (67 * y) + b * (6 * z) → x * u ≡ p → y * u ≡ q → z * u ≡ v
        → s * u ≡ 27 * (r * p) + 67 * (g * q) + 6 * (b * v)
    total x y z u p q v sum h k l =
        omega (
          arith,
          ap (λ (n : ℕ). n * u) sum,
          ap (λ (n : ℕ). r * n) h,
          ap (λ (n : ℕ). g * n) k,
          ap (λ (n : ℕ). b * n) l,
        )

-- a pixel by the codes m, n and l, not all black, whose weights stand at the places x, y and z
module _ (p : Pixel) {m n l x z s : ℕ} (y : ℕ) (red : Coded m p.red) (green : Coded n p.green) (blue : Coded l p.blue)
    (rx : (x < 48) × (x + n / 256 ≡ m / 256 + y)) (bz : (z < 48) × (z + n / 256 ≡ l / 256 + y)) (low : y ≤ 24)
    (sum : s ≡ (2 * (m % 256) + 1) * (27 * 2 ^ x) + (2 * (n % 256) + 1) * (67 * 2 ^ y) + (2 * (l % 256) + 1) * (6 * 2 ^ z))
    (some : m ≡ 0 → n ≡ 0 → l ≡ 0 → ⊥) where
  -- a black channel is too far from a lit one
  pub all_lit : LitAt m p.red × LitAt n p.green × LitAt l p.blue
  all_lit = by (black_or_lit m p.red red) (black_or_lit n p.green green) (black_or_lit l p.blue blue)
    where
      by : (m ≡ 0) ⊎ LitAt m p.red → (n ≡ 0) ⊎ LitAt n p.green → (l ≡ 0) ⊎ LitAt l p.blue
          → LitAt m p.red × LitAt n p.green × LitAt l p.blue
      by (inr r) (inr g) (inr b) = (r, g, b)
      by (inr r) (inr g) (inl b) = absurd (omega (arith, g.1.least))
      by (inr r) (inl g) _ = absurd (omega (arith, r.1.least))
      by (inl r) (inr g) _ = absurd (omega (arith, g.1.least))
      by (inl r) (inl g) (inr b) = absurd (omega (arith, b.1.least))
      by (inl r) (inl g) (inl b) = absurd (some r g b)

  -- the index of the sum's hundredth is that of the luminance
  pub sum_index : index_of (Some (stored_of (s * 2 ^ (n / 256 - y) over 100 * unit))) ≡ index_of (luminance_of p)
  sum_index =
      let least = all_lit.1.1.least in
      ap (λ (n : ℕ). index_of (Some (stored_of (n over 100 * unit))))
      (gather (2 * (m % 256) + 1) (2 * (n % 256) + 1) (2 * (l % 256) + 1) x y z (m / 256) (n / 256) (l / 256) (n / 256 - y) s sum
      (omega (arith, least)) (omega (arith, least)) (omega (arith, least))
      ∙ sym (rw (all_lit.0.0, all_lit.1.0, all_lit.2.0)))
      ∙ ap index_of (sym (red_lit p (rw all_lit.0.0)))

-- with weights from tables, by the first digits of the sum
module _ (p : Pixel) {m n l x z s t k : ℕ} (red : Coded m p.red) (green : Coded n p.green) (blue : Coded l p.blue)
    (rx : (x < 48) × (x + n / 256 ≡ m / 256 + 24)) (bz : (z < 48) × (z + n / 256 ≡ l / 256 + 24))
    (sum : s ≡ (2 * (m % 256) + 1) * (27 * 2 ^ x) + (2 * (n % 256) + 1) * (67 * 2 ^ 24) + (2 * (l % 256) + 1) * (6 * 2 ^ z))
    (some : m ≡ 0 → n ≡ 0 → l ≡ 0 → ⊥) (c : IsCut s t k) (other : t ≡ 6400 → ⊥) where
  green_lit : LitAt n p.green
  green_lit = (all_lit p 24 red green blue rx bz (omega arith) sum some).1

  fits : 93 ≤ k + n / 256
  fits = by (dec_le 21 k)
    where
      by : Dec (21 ≤ k) → 93 ≤ k + n / 256
      by (yes h) = omega (arith, green_lit.1.least)
      by (no h) =
          absurd (omega (
            arith,
            sum,
            c.high,
            green_lit.1.mantissa.least,
            mul-le-mul {n₂ = 8192} {m₂ = 2 ^ 20} c.most (pow_mono {i = k} {j = 20} (omega arith)),
          ))

  pub pixel_index_law : (93 ≤ k + n / 256) × (128 * (k + n / 256 - 93) + min (t / 25 - 128) (t / 25 / 2) ≡ index_of (luminance_of p))
  pixel_index_law = (
    fits,
    cut_index c (n / 256 - 24) (k + n / 256 - 93) (omega (arith, fits, green_lit.1.least)) other
        ∙ sum_index p 24 red green blue rx bz (omega arith) sum some,
  )

-- ---- three black channels

black_code : (c : Channel) {n : ℕ} → Coded n c → n ≡ 0 → c ≡ Black
black_code Black h e = refl
black_code (Lit E M) {n} h e =
    let code : 256 * E + M ≡ n = h.code in
    let valid : IsLit E M = h.valid in
    absurd (omega (arith, valid.least))

pub black_index : (p : Pixel) {m n l : ℕ} → Coded m p.red → Coded n p.green → Coded l p.blue → m ≡ 0 → n ≡ 0 → l ≡ 0
    → 0 ≡ index_of (luminance_of p)
unfolding luminance_of
black_index p red green blue h h' h'' = rw (black_code p.red red h, black_code p.green green h', black_code p.blue blue h'')
