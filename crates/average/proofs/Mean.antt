-- The first half of demand 3: how far the average lies from the logarithm of the mean, by how T is rounded. Assumes nothing.
use mathlib.Core.Path.{◌≡◌, refl, sym, ap, ◌∙◌, subst}
use mathlib.Core.List.{List, [], ◌∷◌}
use Prim.Native.Nat.{ℕ, suc, ◌+◌, ◌*◌, ◌/◌, ◌^◌, ◌≤◌, ◌<◌}
use native.Mathlib.Nat.{mul-le-mul_left, mul-le-mul_right, mul-lt-mul_of_pos_left, mul-lt-mul_of_pos_right}
use native.Mathlib.Numerals.{add-one}
use native.Mathlib.Omega.{arith}
use lib.IntN.{ℤ, pos, sub_ℕ, ◌+ℤ◌, ◌-ℤ◌, ◌*ℤ◌}
use lib.ListN.{length}
use lib.Pow.{pow-add, pow_pos}
use Rattle.number.proofs.Laws.{Every, every_map, Frac, AtMost, Below, IsMantissa, unit_power, power, two_to_the}
use Rattle.number.proofs.Laws.{sub_minus, sub_plus, sub_times, power_at_most, below_power}
use Rattle.number.specs.declared.ratio.Stored.{Stored}
use Rattle.average.specs.Averages.{floor_div}
use Rattle.average.specs.Claims.{product_of_worths, MeanWithin, MeanBound, MeanIsBounded}
use Rattle.luminance.specs.Pixels.{IsLuminance}
use Rattle.average.specs.Tables.{log_of}
use Rattle.average.specs.Tallies.{sum_of}
use Rattle.average.proofs.Averages.{reported}
use Rattle.average.proofs.Division.{floor_sub}
use Rattle.average.proofs.Rules.{log_below, log_above}
use Rattle.average.specs.loops.Sums.{total, raised_steps}
use Rattle.average.proofs.Spread.{mul_pow, pow_mul, product_of, mean_low, mean_high}
use Rattle.average.proofs.Sums.{sum_is}

-- T[M] is a logarithm of M + 1/2 to within a step: 2^(s·T + l) ≤ (2M+1)^(256·s) < 2^(s·(T+1) + l)
record Rounded (s l M : ℕ) : Type 0 where
  pub low : 2 ^ (s * log_of M + l) ≤ (2 * M + 1) ^ (256 * s)
  pub high : (2 * M + 1) ^ (256 * s) < 2 ^ (s * (log_of M + 1) + l)

-- a worth in units
abbrev units : Stored → ℕ
units y = (2 * y.mantissa + 1) * 2 ^ y.exponent

numerator : (ys : List Stored) → (product_of_worths ys).num ≡ product_of units ys
numerator [] = refl
numerator (y ∷ ys) = ap (λ (z : ℕ). units y * z) (numerator ys)

denominator : (ys : List Stored) → (product_of_worths ys).den ≡ 2 ^ (137 * length ys)
denominator [] = refl
denominator (y ∷ ys) =
    let e : 137 * suc (length ys) ≡ 137 + 137 * length ys = omega arith in
    rw (denominator ys, unit_power, e, pow-add)

-- the average as a difference
average_is : (ys : List Stored) → 0 < length ys → floor_div (sum_of ys) (length ys) ≡ sub_ℕ (total raised_steps ys / length ys) 34816
average_is ys n = rw (sum_is ys) (floor_sub (total raised_steps ys) 34816 (length ys) n)

module _ (s l : ℕ) (rounded : (M : ℕ) → IsMantissa M → Rounded s l M) where
  -- a worth's power, by its steps
  module _ (y : Stored) (v : IsLuminance y) where
    worth_low : 2 ^ (s * (raised_steps y + 0) + l) ≤ units y ^ (256 * s)
    worth_low =
        let t = log_of y.mantissa in
        let e : s * (256 * y.exponent + t + 0) + l ≡ s * t + l + y.exponent * (256 * s) = omega arith in
        rw (e, pow-add, mul_pow, pow_mul) (mul-le-mul_right _ (rounded y.mantissa v.mantissa).low)

    worth_high : units y ^ (256 * s) < 2 ^ (s * (raised_steps y + 1) + l)
    worth_high =
        let t = log_of y.mantissa in
        let e : s * (256 * y.exponent + t + 1) + l ≡ s * (t + 1) + l + y.exponent * (256 * s) = omega arith in
        rw (e, pow-add, mul_pow, pow_mul)
        (mul-lt-mul_of_pos_right (rounded y.mantissa v.mantissa).high (pow_pos (y.exponent * (256 * s))))

  -- T's share of the error is from −`below` parts to s − `below`, and the floor's from 0 to s
  module _ (below above : ℕ) (b : l + below ≡ 256 * s) (c : above + below ≡ 2 * s) where
    mean_within : (ys : List Stored) → Every IsLuminance ys → 0 < length ys
        → MeanWithin s below above (floor_div (sum_of ys) (length ys)) ys
    mean_within ys h n =
        record {
          low = subst (λ z. AtMost (two_to_the z) P)
              (sym (scaled (λ z. z -ℤ pos below) (q * s) (34816 * s + below) (sub_minus (q * s) (34816 * s) below)))
              ((power_at_most P (q * s * N) ((34816 * s + below) * N)).0 low);
          high = subst (λ z. Below P (two_to_the z))
              (sym (scaled (λ z. z +ℤ pos above) (q * s + above) (34816 * s) (sub_plus (q * s) (34816 * s) above)))
              ((below_power P ((q * s + above) * N) (34816 * s * N)).0 high);
        }
      where
        N : ℕ
        N = length ys

        q : ℕ
        q = total raised_steps ys / length ys

        P : Frac
        P = power (product_of_worths ys) (256 * s)

        -- the exponents as differences
        scaled : (f : ℤ → ℤ) (a b : ℕ) → f (sub_ℕ (q * s) (34816 * s)) ≡ sub_ℕ a b
            → f (floor_div (sum_of ys) (length ys) *ℤ pos s) *ℤ pos N ≡ sub_ℕ (a * N) (b * N)
        scaled f a b e =
            ap (λ z. f z *ℤ pos N) (ap (λ z. z *ℤ pos s) (average_is ys n) ∙ sub_times q 34816 s)
            ∙ ap (λ z. z *ℤ pos N) e ∙ sub_times a b N

        low : 2 ^ (q * s * N) * (product_of_worths ys).den ^ (256 * s)
            ≤ 2 ^ ((34816 * s + below) * N) * (product_of_worths ys).num ^ (256 * s)
        low = rw (numerator ys, denominator ys, pow_mul, ← pow-add 2 (q * s * N), exponent, pow-add)
            (mul-le-mul_left (2 ^ ((34816 * s + below) * N)) (mean_low units (256 * s) raised_steps s l ys (every_map worth_low ys h)))
          where
            exponent : q * s * N + 137 * N * (256 * s) ≡ (34816 * s + below) * N + (s * q + l) * N
            exponent = omega (arith, ap (λ (x : ℕ). N * x) b)

        high : 2 ^ (34816 * s * N) * (product_of_worths ys).num ^ (256 * s)
            < 2 ^ ((q * s + above) * N) * (product_of_worths ys).den ^ (256 * s)
        high = rw (numerator ys, denominator ys, pow_mul, ← pow-add 2 ((q * s + above) * N), exponent) (rw pow-add
            (mul-lt-mul_of_pos_left (mean_high units (256 * s) raised_steps s l ys (every_map worth_high ys h) n) (pow_pos (34816 * s * N))))
          where
            exponent : (q * s + above) * N + 137 * N * (256 * s) ≡ 34816 * s * N + (s * (q + 2) + l) * N
            exponent = omega (arith, ap (λ (x : ℕ). N * x) b, ap (λ (x : ℕ). N * x) c)

-- T is rounded to the nearest step
rounded_nearest : (M : ℕ) → IsMantissa M → Rounded 2 511 M
rounded_nearest M m = record { low = log_below M m; high = rw (add-one (log_of M)) (log_above M m) }

pub mean_bound : MeanIsBounded
mean_bound ys h A average e =
    let r = reported (length ys) (sum_of ys) e in
    subst (λ z. MeanBound z ys) r.steps (mean_within 2 511 rounded_nearest _ _ refl refl ys h r.lit)
