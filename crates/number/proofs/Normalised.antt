-- Facts about one fraction x / u above 1/2 and at most at 1, and about two of them. Assumes nothing.
use Rattle.std.proofs.Common.{◌≡◌, ℕ, ◌+◌, ◌*◌, ◌/◌, ◌<◌, ◌≤◌, min, sym, ap, ◌∙◌, subst, ap₂, ⊎_elim, le_refl, lt_of_lt_of_le, le_of_lt, mul-le-mul_right, mul_comm, div-lt_iff_lt-mul, lt_of_mul-lt-mul_right, eq-or-lt_of_le, mul-le-mul_left, mul-lt-mul_of_pos_right, le-div_iff_mul-le, le_of_mul-le-mul_right, mul-div_cancel, arith}
use native.Mathlib.Nat.{lt_of_mul-lt-mul_left, mul-div-mul_right}
use Rattle.number.specs.Storing.{least_mantissa, IsMantissa, Normalised}

module _ {x u M : ℕ} (s : Normalised x u M) where
  pub divisor_pos : 0 < u
  divisor_pos = omega arith

  pub mantissa : IsMantissa M
  mantissa = omega (arith, s.digits, (le-div_iff_mul-le {x = least_mantissa} {y = 256 * x} divisor_pos).1 (omega arith))

  -- M / 256 ≤ x / u ≤ (M + 1) / 256
  pub floor : M * u ≤ 256 * x
  floor = (le-div_iff_mul-le divisor_pos).0 (omega (arith, s.digits))

  pub ceiling : 256 * x ≤ (M + 1) * u
  ceiling =
      ⊎_elim (λ e. subst (λ (m : ℕ). 256 * x ≤ (m + 1) * u) (sym e) (mul-le-mul_left 256 s.at_most_one))
      (λ l. le_of_lt ((div-lt_iff_lt-mul divisor_pos).0 (omega (arith, s.digits))))
      (eq-or-lt_of_le mantissa.most)

-- a fraction above 1/2 that lies from M / 256 up to below (M + 1) / 256 has the mantissa M
pub cell : {x u M : ℕ} → u < 2 * x → M ≤ 255 → M * u ≤ 256 * x → 256 * x < (M + 1) * u → Normalised x u M
cell {x} {u} {M} low most floor ceiling =
    let high : x < u = lt_of_mul-lt-mul_left 256 (lt_of_lt_of_le ceiling (mul-le-mul_right u (omega arith))) in
    let positive : 0 < u = omega arith in
    record {
      above_half = low;
      at_most_one = le_of_lt high;
      digits = omega (arith, (le-div_iff_mul-le positive).1 floor, (div-lt_iff_lt-mul positive).1 ceiling);
    }

-- 1 itself, what a power of two is scaled to
pub one : {x : ℕ} → 0 < x → Normalised x x 255
one {x} p = record { above_half = omega arith; at_most_one = le_refl x; digits = omega (arith, mul-div_cancel 256 p) }

-- the mantissa goes by the ratio alone
pub ratio : {x u M x' u' : ℕ} → Normalised x u M → x * u' ≡ x' * u → 0 < u' → Normalised x' u' M
ratio {x} {u} {M} {x'} {u'} s e p =
    record {
      above_half = lt_of_mul-lt-mul_right u (omega (arith, mul-lt-mul_of_pos_right s.above_half p));
      at_most_one = le_of_mul-le-mul_right {k = u} (omega (arith, mul-le-mul_right u' s.at_most_one)) (divisor_pos s);
      digits = s.digits ∙ ap (min 255) quotient;
    }
  where
    quotient : 256 * x / u ≡ 256 * x' / u'
    quotient =
        sym (mul-div-mul_right (256 * x) u p) ∙ ap₂ ◌/◌ (omega arith) (mul_comm u u') ∙ mul-div-mul_right (256 * x') u' (divisor_pos s)

-- and grows with it
pub mantissa_mono : {x u M x' u' M' : ℕ} → Normalised x u M → Normalised x' u' M' → x * u' ≤ x' * u → M ≤ M'
mantissa_mono {x} {u} {M} {x'} {u'} s t h =
    omega (
      arith,
      mantissa s,
      t.digits,
      (le-div_iff_mul-le {x = M} {y = 256 * x'} (divisor_pos t)).1
          (le_of_mul-le-mul_right {k = u} (omega (arith, mul-le-mul_right u' (floor s))) (divisor_pos s)),
    )
