-- A number shifted left by its leading zeros, of 64 digits. Assumes nothing.
use Rattle.std.proofs.Common.{◌≡◌, ℕ, suc, ◌+◌, ◌-◌, ◌*◌, ◌^◌, ◌<◌, ◌≤◌, sym, ap, ◌∙◌, le_trans, le_of_eq, lt_of_lt_of_le, mul-le-mul_right, mul-lt-mul_of_pos_right, arith, pow_pos, pow_mono, pow-add, shl_lt}
use native.Mathlib.Nat.{pow-succ'}
use lib.Count.{count_leading_zeros, leading_top}

-- the powers of the digits above and below the top one
whole : (j s : ℕ) → s + suc j ≡ 64 → 2 ^ j * 2 ^ s ≡ 2 ^ 63
whole j s e = sym (pow-add 2 j s) ∙ ap (λ (z : ℕ). 2 ^ z) {y = 63} (omega arith)

-- v shifted by s has its top bit at bit 63
pub record TopBit (v s : ℕ) : Type 0 where
  pub within : s ≤ 63
  pub large : 2 ^ 63 ≤ v * 2 ^ s
  pub small : v * 2 ^ s < 2 ^ 64

pub aligned : (v : ℕ) → 0 < v → v < 2 ^ 64 → TopBit v (count_leading_zeros 64 v)
aligned v p h =
    let s = count_leading_zeros 64 v in
    let t = leading_top 64 v p h in
    record {
      within = omega (arith, t.1);
      large = le_trans (le_of_eq (sym (whole t.0 s t.1))) (mul-le-mul_right _ t.2);
      small = lt_of_lt_of_le (shl_lt (suc t.0) s t.3) (pow_mono {i = suc t.0 + s} {j = 64} (omega (arith, t.1)));
    }

-- v is shifted by s to above 2^62 and at most to 2^63
pub record AboveHalf (v s : ℕ) : Type 0 where
  pub within : s ≤ 63
  pub above : 2 ^ 63 < 2 * (v * 2 ^ s)
  pub at_most : v * 2 ^ s ≤ 2 ^ 63

-- by the leading zeros of 2v - 1, so that a power of two is not taken for the next one
pub halved : (v : ℕ) → 0 < v → 2 * v - 1 < 2 ^ 64 → AboveHalf v (count_leading_zeros 64 (2 * v - 1))
halved v p h =
    let t = leading_top 64 (2 * v - 1) (omega arith) h in
    let s = count_leading_zeros 64 (2 * v - 1) in
    let w = whole t.0 s t.1 in
    record {
      within = omega (arith, t.1);
      above = omega (arith, w, mul-lt-mul_of_pos_right {m = 2 ^ t.0} {n = 2 * v} (omega (arith, t.2)) (pow_pos s));
      at_most = omega (arith, w, mul-le-mul_right {m = v} {n = 2 ^ t.0} (2 ^ s) (omega (arith, t.3, pow-succ' 2 t.0)));
    }
