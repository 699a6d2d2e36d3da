-- Every positive rational has one exponent, as a signed number, and one mantissa. Assumes nothing.
use Rattle.std.proofs.Common.{◌≡◌, ℕ, suc, ◌+◌, ◌*◌, ◌^◌, ◌<◌, ℤ, pos, negsuc, ◌-ℤ◌, sym, refl, ◌∙◌, subst, mul-le-mul_right, arith, lit≤}
use native.Mathlib.Nat.{pow-succ'}
use lib.IntN.{sub_ℕ}
use lib.Ieee.{size}
use lib.Ieee.Digits.{size-lt}
use Rattle.number.specs.Fractions.{Frac, ◌over◌, two_to_minus, two_to_the, Positive, Equal, AtMost, Below}
use Rattle.number.specs.Storing.{exponent_at, eight_digits, Scales, exponent_of, mantissa_of}
use Rattle.number.specs.Claims.{IsExponent, HasOneExponent, OneExponent}
use Rattle.number.proofs.Differences.{same_difference, sub_neg, sub_minus}
use Rattle.number.proofs.Powers.{power_below, at_most_power}
use Rattle.number.proofs.Scaling.{powers_out, unique_exponent, unique_mantissa}
use Rattle.number.proofs.Storing.{exponent_natural, stored}

-- ---- 2^(E−129) < F ≤ 2^(E−128), for E = 128 + j − i

module _ (F : Frac) (i j : ℕ) where
  less_129 : exponent_at i j -ℤ pos 129 ≡ sub_ℕ j (suc i)
  less_129 = sub_minus (128 + j) i 129 ∙ same_difference (128 + j) (i + 129) j (suc i) (omega arith)

  less_128 : exponent_at i j -ℤ pos 128 ≡ sub_ℕ j i
  less_128 = sub_minus (128 + j) i 128 ∙ same_difference (128 + j) (i + 128) j i (omega arith)

  exponent_scales : IsExponent F (exponent_at i j) → Scales F i j (eight_digits (F.num * 2 ^ i) (F.den * 2 ^ j))
  exponent_scales e =
      let low = (power_below F j (suc i)).1 (subst (λ z. Below (two_to_the z) F) less_129 e.above) in
      let high = (at_most_power F j i).1 (subst (λ z. AtMost F (two_to_the z)) less_128 e.within) in
      let halves = rw (pow-succ' 2 i) at low in
      record { normalised = record { above_half = omega arith; at_most_one = omega arith; digits = refl } }

  scaled_exponent : {M : ℕ} → Scales F i j M → IsExponent F (exponent_at i j)
  scaled_exponent s =
      record {
        above = subst (λ z. Below (two_to_the z) F) (sym less_129)
            ((power_below F j (suc i)).0 (rw (pow-succ' 2 i) (omega (arith, s.normalised.above_half))));
        within = subst (λ z. AtMost F (two_to_the z)) (sym less_128)
            ((at_most_power F j i).0 (omega (arith, s.normalised.at_most_one)));
      }

-- every whole number is such an E
some_powers : (E : ℤ) → (i : ℕ) × (j : ℕ) × (exponent_at i j ≡ E)
some_powers (pos n) = (128, n, exponent_natural n)
some_powers (negsuc n) = (129 + n, 0, sub_neg 128 (129 + n) n (omega arith))

-- ---- there is one, and no other

-- every positive number can be scaled, however small: F · 2^k is above 1 where 2^k is above the denominator
scales_exist : (F : Frac) → Positive F → (i : ℕ) × (j : ℕ) × (M : ℕ) × Scales F i j M
scales_exist F p = (k + 128, 0 + exponent_of G, mantissa_of G, powers_out F.num F.den k 0 (stored G 0 (lit≤ tt) den_pos above))
  where
    k : ℕ
    k = size F.den

    G : Frac
    G = F.num * 2 ^ k over F.den * 2 ^ 0

    den_pos : 0 < G.den
    den_pos = omega (arith, p.denominator)

    above : Below (two_to_minus 0) G
    above = record { cross = omega (arith, size-lt F.den, mul-le-mul_right (2 ^ k) p.numerator) }

pub one_exponent : OneExponent
one_exponent F p = of (scales_exist F p)
  where
    itself : Equal F F
    itself = record { cross = refl }

    of : (i : ℕ) × (j : ℕ) × (M : ℕ) × Scales F i j M → HasOneExponent F
    of (i, j, M, s) =
        record {
          E = exponent_at i j;
          M = M;
          is = scaled_exponent F i j s;
          only = λ E e. same E e (some_powers E);
          scales = (i, j, s);
          only_scales = λ i' j' M' t. (unique_exponent t s itself, unique_mantissa t s itself);
        }
      where
        same : (E : ℤ) → IsExponent F E → (i' : ℕ) × (j' : ℕ) × (exponent_at i' j' ≡ E) → E ≡ exponent_at i j
        same E e (i', j', d) = sym d ∙ unique_exponent (exponent_scales F i' j' (subst (IsExponent F) (sym d) e)) s itself
