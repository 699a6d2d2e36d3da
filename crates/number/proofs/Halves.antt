-- What a half becomes: by its exponent field and fraction where it is a normal number, and black elsewhere. Assumes nothing.
use Rattle.std.proofs.Common.{◌≡◌, ℕ, zero, suc, ◌+◌, ◌-◌, ◌*◌, ◌/◌, ◌%◌, ◌^◌, ◌<◌, ◌≤◌, ◌⊎◌, sym, ap, ◌∙◌, inl, inr, mul-le-mul, arith, pow_mono, le-ltb, lt-ltb, eq-eqb, ne_eqb}
use native.Mathlib.Decide.{dec_le, dec_lt}
use Rattle.number.specs.Fractions.{◌over◌, AtMost, two_to}
use Rattle.number.specs.Storing.{Scales}
use Rattle.number.specs.Channels.{bright_power, channel_of, channel_in, code_of}
use Rattle.number.specs.Sources.{channel_of_value, field_value, half_value, magnitude}
use Rattle.number.specs.loops.Halves.{half_code, NotSubnormal, plain_half_code}
use Rattle.number.specs.declared.channel.Channel.TheVariants.{Black, Lit}
use Rattle.number.proofs.Scaling.{rescale, whole_powers_into}
use Rattle.number.proofs.Channels.{black, lit_at, held, not_bright}
use Rattle.number.proofs.Sources.{normal, refused, negative, positive}
use Rattle.std.specs.Prelude.{Ok}

-- the fields of a half
abbrev sign_of : ℕ → ℕ
sign_of b = b / 2 ^ 15

abbrev field_of : ℕ → ℕ
field_of b = b / 2 ^ 10 % 2 ^ 5

abbrev fraction_of : ℕ → ℕ
fraction_of b = b % 2 ^ 10

-- ---- a normal half

-- its digits, of which the first stands before the fraction
between : (m : ℕ) → 1024 < m → m < 2048 → Scales (m over 1) 0 11 (m / 8)
between m g h = record { normalised = omega arith }

least : Scales (1024 over 1) 0 10 255
least = record { normalised = omega arith }

-- with the power of its field x
powered : {m j M : ℕ} (x : ℕ) → 1 ≤ x → x ≤ 30 → 10 ≤ j → j ≤ 11 → Scales (m over 1) 0 j M
    → channel_of (m * 2 ^ (x - 1) over 2 ^ 24) ≡ Ok (Lit (x + 103 + j) M)
powered {j = j} x a b c d s =
    let E = x + 103 + j in
    let scaled = whole_powers_into {i = 128} {j = E} (x - 1) 24 (rescale s (omega arith)) in
    let e : E + 128 - 128 ≡ E = omega arith in
    rw e at (lit_at scaled (omega arith) (omega arith))

module _ (b : ℕ) (low : 1024 ≤ b) (high : b < 31744) where
  lit : {j M : ℕ} → 10 ≤ j → j ≤ 11 → Scales (1024 + fraction_of b over 1) 0 j M
      → channel_of_value (half_value b) ≡ Ok (Lit (b / 1024 + 103 + j) M)
  lit g h s =
      let x : field_of b ≡ b / 1024 = omega arith in
      positive 1024 31 24 (sign_of b) (field_of b) (fraction_of b) (omega arith) (omega arith)
      ∙ ap channel_of (normal 1024 24 (field_of b) (fraction_of b) (omega arith))
      ∙ rw x (powered (b / 1024) (omega arith) (omega arith) g h s)

  half_normal : (b % 1024 ≡ 0 → ⊥) → half_code b ≡ b / 8 + b / 8 / 128 % 32 * 128 + 29183 + 129
  half_normal f = rw (lit (omega arith) (omega arith) (between (1024 + fraction_of b) (omega arith) (omega arith))) (omega arith)

  half_power : b % 1024 ≡ 0 → half_code b ≡ b / 8 + b / 8 / 128 % 32 * 128 + 29183
  half_power e =
      let m : 1024 + fraction_of b ≡ 1024 = omega arith in
      rw (lit {j = 10} {M = 255} (omega arith) (omega arith) (rw m least)) (omega arith)

-- ---- 0, and every pattern behind the greatest normal half: infinity, what is no number, and the negative numbers

zero_black : channel_of_value (half_value 0) ≡ Ok Black
unfolding channel_of_value field_value
zero_black = black _ (record { cross = omega arith })

half_black : (b : ℕ) → (b ≡ 0) ⊎ (31744 ≤ b) → half_code b ≡ 0
half_black b (inl e) = rw e (ap (λ d. code_of (channel_in d)) zero_black)
half_black b (inr g) = go (dec_le 31 (field_of b))
  where
    go : Dec (31 ≤ field_of b) → half_code b ≡ 0
    go (yes a) =
        ap (λ d. code_of (channel_in d)) (refused 1024 31 24 (sign_of b) (field_of b) (fraction_of b) (omega arith))
    go (no a) =
        ap (λ d. code_of (channel_in d))
        (negative 1024 31 24 (sign_of b) (field_of b) (fraction_of b) (λ e. omega arith) (λ e. omega arith))

-- ---- the form worked out from the bits alone, in each of its cases

module _ (b : ℕ) where
  pub plain_zero : b ≡ 0 → plain_half_code b ≡ 0
  unfolding plain_half_code
  plain_zero e = simp (eq-eqb b 0 e)

  pub plain_beyond : 31744 ≤ b → plain_half_code b ≡ 0
  unfolding plain_half_code
  plain_beyond h = simp (ne_eqb b 0 (λ e. omega arith), le-ltb b 31744 h)

  pub plain_power : 0 < b → b < 31744 → b % 1024 ≡ 0 → plain_half_code b ≡ b / 8 + b / 8 / 128 % 32 * 128 + 29183 + 0
  unfolding plain_half_code
  plain_power g h e = simp (ne_eqb b 0 (λ e. omega arith), lt-ltb b 31744 h, eq-eqb (b % 1024) 0 e)

  pub plain_normal : 0 < b → b < 31744 → (b % 1024 ≡ 0 → ⊥) → plain_half_code b ≡ b / 8 + b / 8 / 128 % 32 * 128 + 29183 + 129
  unfolding plain_half_code
  plain_normal g h e = simp (ne_eqb b 0 (λ e. omega arith), lt-ltb b 31744 h, ne_eqb (b % 1024) 0 e)

  -- it is that of the channel, unless the half is a positive subnormal number
  pub plain_half : NotSubnormal b → plain_half_code b ≡ half_code b
  plain_half n = go (dec_le b 0) (dec_lt b 31744) (dec_le (b % 1024) 0)
    where
      go : Dec (b ≤ 0) → Dec (b < 31744) → Dec (b % 1024 ≤ 0) → plain_half_code b ≡ half_code b
      go (yes e) h f = plain_zero (omega arith) ∙ sym (half_black b (inl (omega arith)))
      go (no e) (no h) f = plain_beyond (omega arith) ∙ sym (half_black b (inr (omega arith)))
      go (no e) (yes h) (yes f) =
          omega (arith, plain_power (omega arith) h (omega arith), half_power b (omega arith) h (omega arith))
      go (no e) (yes h) (no f) =
          omega (arith, plain_normal (omega arith) h (λ g. omega arith), half_normal b (omega arith) h (λ g. omega arith))

-- ---- a finite half is never refused

bounded : (x t : ℕ) → x ≤ 31 → t < 1024 → AtMost (magnitude 1024 24 x t) (two_to bright_power)
bounded zero t g h = record { cross = omega arith }
bounded (suc x) t g h =
    let k : 1024 + t ≤ 2048 = omega arith in
    record { cross = omega (arith, mul-le-mul k (pow_mono {i = x} {j = 31} (omega arith))) }

pub half_finite : (b : ℕ) → b % 32768 < 31744 → channel_of_value (half_value b) ≡ Ok (channel_in (channel_of_value (half_value b)))
half_finite b h = go (dec_le 1 (sign_of b))
  where
    go : Dec (1 ≤ sign_of b) → channel_of_value (half_value b) ≡ Ok (channel_in (channel_of_value (half_value b)))
    go (yes a) = held (negative 1024 31 24 (sign_of b) (field_of b) (fraction_of b) (λ e. omega arith) (λ e. omega arith))
    go (no a) =
        held (positive 1024 31 24 (sign_of b) (field_of b) (fraction_of b) (λ e. omega arith) (omega arith)
        ∙ not_bright (magnitude 1024 24 (field_of b) (fraction_of b)) (bounded (field_of b) (fraction_of b) (omega arith) (omega arith)))
