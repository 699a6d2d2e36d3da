-- Numbers whose logarithms are known to within a step: what that says of their product and of the average step. The p-th power of
-- a worth lies from 2^(s·step + l) to below 2^(s·(step + 1) + l): steps rounded down have s = 1, steps to the nearest have s = 2.
-- Assumes nothing.
use mathlib.Core.Path.{◌≡◌}
use mathlib.Core.List.{List, [], ◌∷◌}
use Prim.Native.Nat.{ℕ, zero, suc, ◌+◌, ◌*◌, ◌/◌, ◌^◌, ◌≤◌, ◌<◌}
use native.Mathlib.Nat.{
  pow-zero,
  pow-suc,
  mul-zero,
  mul-suc,
  mul-mul-mul_comm,
  mul-le-mul,
  mul-le-mul_left,
  mul-lt-mul_of_pos_right,
  le_refl,
  le_of_lt,
  le_trans,
  lt_of_le_of_lt,
  lt_of_lt_of_le,
  div-mul-le_self,
  lt-div-mul-add,
  not-suc-le-zero,
}
use native.Mathlib.Omega.{arith}
use lib.ListN.{length}
use lib.Pow.{pow-add, pow_mono, pow_pos}
use Rattle.number.proofs.Laws.{Every}
use Rattle.average.specs.loops.Sums.{total}

-- ---- powers

one_pow : (n : ℕ) → 1 ^ n ≡ 1
one_pow zero = pow-zero 1
one_pow (suc n) = rw (pow-suc, one_pow n)

pub mul_pow : (a b n : ℕ) → (a * b) ^ n ≡ a ^ n * b ^ n
mul_pow a b zero = simp pow-zero
mul_pow a b (suc n) = rw (pow-suc (a * b), mul_pow a b n, pow-suc a, pow-suc b) (mul-mul-mul_comm (a ^ n) (b ^ n) a b)

pub pow_mul : (a i j : ℕ) → (a ^ i) ^ j ≡ a ^ (i * j)
pow_mul a i zero = rw (pow-zero, mul-zero, pow-zero)
pow_mul a i (suc j) = rw (pow-suc, pow_mul a i j, mul-suc, pow-add)

mul_lt_mul : {a b c d : ℕ} → a < b → c ≤ d → 0 < d → a * c < b * d
mul_lt_mul {a} h k d>0 = lt_of_le_of_lt (mul-le-mul_left a k) (mul-lt-mul_of_pos_right h d>0)

-- ---- products over a list

module _ {X : Type 0} where
  abbrev pub product_of : (X → ℕ) → List X → ℕ
  product_of f [] = 1
  product_of f (x ∷ xs) = f x * product_of f xs

module _ {X : Type 0} (worth : X → ℕ) (p : ℕ) where
  low : (e : X → ℕ) (xs : List X) → Every (λ x. 2 ^ e x ≤ worth x ^ p) xs → 2 ^ total e xs ≤ product_of worth xs ^ p
  low e [] h = rw one_pow (le_refl 1)
  low e (x ∷ xs) h = rw (pow-add, mul_pow) (mul-le-mul h.0 (low e xs h.1))

  high : (e : X → ℕ) (xs : List X) → Every (λ x. worth x ^ p < 2 ^ e x) xs → product_of worth xs ^ p ≤ 2 ^ total e xs
  high e [] h = rw one_pow (le_refl 1)
  high e (x ∷ xs) h = rw (pow-add, mul_pow) (mul-le-mul (le_of_lt h.0) (high e xs h.1))

  high_strict : (e : X → ℕ) (xs : List X) → Every (λ x. worth x ^ p < 2 ^ e x) xs → 0 < length xs
      → product_of worth xs ^ p < 2 ^ total e xs
  high_strict e [] h n = absurd (not-suc-le-zero n)
  high_strict e (x ∷ xs) h n = rw (pow-add, mul_pow) (mul_lt_mul h.0 (high e xs h.1) (pow_pos (total e xs)))

  -- ---- of n worths with the average step a, rounded down: the p-th power of their product lies from 2^((s·a + l)·n) to below
  -- 2^((s·(a+2) + l)·n)

  module _ (step : X → ℕ) (s l : ℕ) where
    linear : (k : ℕ) (xs : List X) → total (λ x. s * (step x + k) + l) xs ≡ s * total step xs + (s * k + l) * length xs
    linear k [] = omega arith
    linear k (x ∷ xs) = omega (arith, linear k xs)

    pub mean_low : (xs : List X) → Every (λ x. 2 ^ (s * (step x + 0) + l) ≤ worth x ^ p) xs
        → 2 ^ ((s * (total step xs / length xs) + l) * length xs) ≤ product_of worth xs ^ p
    mean_low xs h =
        le_trans (pow_mono (omega (arith, linear 0 xs, mul-le-mul_left s (div-mul-le_self (total step xs) (length xs)))))
        (low _ xs h)

    pub mean_high : (xs : List X) → Every (λ x. worth x ^ p < 2 ^ (s * (step x + 1) + l)) xs → 0 < length xs
        → product_of worth xs ^ p < 2 ^ ((s * (total step xs / length xs + 2) + l) * length xs)
    mean_high xs h n =
        lt_of_lt_of_le (high_strict _ xs h n)
        (pow_mono (omega (arith, linear 1 xs, mul-le-mul_left s (le_of_lt (lt-div-mul-add {a = total step xs} n)))))
