-- Powers of two of a difference against a fraction. Assumes nothing.
use Rattle.std.proofs.Common.{◌≡◌, ℕ, suc, ◌+◌, ◌*◌, ◌^◌, ◌<◌, ◌≤◌, ◌↔◌, ℤ, pos, negsuc, refl, ap, ◌∙◌, le_of_suc-le-suc, mul-lt-mul_of_pos_right, lt_of_not-le, not-le_of_lt, arith, lit<, pow_pos, pow-add}
use native.Mathlib.Nat.{lt_of_mul-lt-mul_left}
use lib.IntN.{sub_ℕ}
use Rattle.number.specs.Fractions.{Frac, ◌over◌, two_to_the, Equal, AtMost, Below}
use Rattle.number.proofs.Differences.{sub_pos, sub_neg, sub_cases}

-- 2^(i−j) is 2^i / 2^j
power_is : (i j : ℕ) → Equal (2 ^ i over 2 ^ j) (two_to_the (sub_ℕ i j))
power_is =
    sub_cases (λ i j. Equal (2 ^ i over 2 ^ j) (two_to_the (sub_ℕ i j)))
    (λ b d. rw (sub_pos (b + d) b d refl) (record { cross = omega (arith, pow-add 2 b d) }))
    (λ a d. rw (sub_neg a (suc a + d) d refl) (record { cross = omega (arith, more a d) }))
  where
    more : (a d : ℕ) → 2 ^ (suc a + d) ≡ 2 ^ a * 2 ^ suc d
    more a d = ap (λ (z : ℕ). 2 ^ z) (omega arith) ∙ pow-add 2 a (suc d)

power_den_pos : (z : ℤ) → 0 < (two_to_the z).den
power_den_pos (pos n) = lit< tt
power_den_pos (negsuc n) = pow_pos (suc n)

-- where a / b and p / q are one number, they lie alike against n / d
module _ (a b p q : ℕ) (e : a * q ≡ p * b) (b>0 : 0 < b) (q>0 : 0 < q) (n d : ℕ) where
  scaled : a * q * d ≡ p * b * d
  scaled = ap (λ (z : ℕ). z * d) e

  less : (a * d < b * n) ↔ (p * d < n * q)
  less = (
    λ h. lt_of_mul-lt-mul_left b (omega (arith, scaled, mul-lt-mul_of_pos_right h q>0)),
    λ h. lt_of_mul-lt-mul_left q (omega (arith, scaled, mul-lt-mul_of_pos_right h b>0)),
  )

  greater : (b * n < a * d) ↔ (n * q < p * d)
  greater = (
    λ h. lt_of_mul-lt-mul_left b (omega (arith, scaled, mul-lt-mul_of_pos_right h q>0)),
    λ h. lt_of_mul-lt-mul_left q (omega (arith, scaled, mul-lt-mul_of_pos_right h b>0)),
  )

not_less : {a b c d : ℕ} → (a < b → c < d) → d ≤ c → b ≤ a
not_less f h = le_of_suc-le-suc (lt_of_not-le (λ g. not-le_of_lt (f g) h))

module _ (x : Frac) (i j : ℕ) where
  abbrev y : Frac
  y = two_to_the (sub_ℕ i j)

  under : (2 ^ i * x.den < 2 ^ j * x.num) ↔ (y.num * x.den < x.num * y.den)
  under = less (2 ^ i) (2 ^ j) y.num y.den (power_is i j).cross (pow_pos j) (power_den_pos (sub_ℕ i j)) x.num x.den

  beyond : (2 ^ j * x.num < 2 ^ i * x.den) ↔ (x.num * y.den < y.num * x.den)
  beyond = greater (2 ^ i) (2 ^ j) y.num y.den (power_is i j).cross (pow_pos j) (power_den_pos (sub_ℕ i j)) x.num x.den

  pub power_below : (2 ^ i * x.den < 2 ^ j * x.num) ↔ Below (two_to_the (sub_ℕ i j)) x
  power_below = (λ h. record { cross = under.0 h }, λ h. under.1 h.cross)

  pub below_power : (2 ^ j * x.num < 2 ^ i * x.den) ↔ Below x (two_to_the (sub_ℕ i j))
  below_power = (λ h. record { cross = beyond.0 h }, λ h. beyond.1 h.cross)

  pub power_at_most : (2 ^ i * x.den ≤ 2 ^ j * x.num) ↔ AtMost (two_to_the (sub_ℕ i j)) x
  power_at_most = (λ h. record { cross = not_less beyond.1 h }, λ h. not_less beyond.0 h.cross)

  pub at_most_power : (2 ^ j * x.num ≤ 2 ^ i * x.den) ↔ AtMost x (two_to_the (sub_ℕ i j))
  at_most_power = (λ h. record { cross = not_less under.1 h }, λ h. not_less under.0 h.cross)
