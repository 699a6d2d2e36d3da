-- The rules of T and X: what is greatest passes its test and the next number does not. Assumes nothing.
use mathlib.Core.Path.{◌≡◌}
use Prim.Native.Nat.{ℕ, zero, suc, ◌+◌, ◌-◌, ◌*◌, ◌^◌, ◌≤◌, ◌<◌, zero-le}
use native.Mathlib.Nat.{le_trans, lt_of_le_of_lt, not-le_of_lt, not-suc-le-zero, pow-le-pow_left, pow-zero, pow-suc, pow-succ'}
use native.Mathlib.Numerals.{lt_of_le_of_ne}
use native.Mathlib.Omega.{arith, by_contra}
use lib.Dec.{T, leb→le, le→leb, nleb→lt, lit≤, lit<}
use lib.Pow.{pow-lt, pow_mono}
use lib.Arith.{lt→nleb}
use Rattle.number.proofs.Laws.{IsMantissa}
use Rattle.average.specs.Tables.{log_test, log_of, root_test, root_of}
use Rattle.average.specs.Claims.{LogsAreNearest, NoTie, RootsAreGreatest}
use Rattle.table.proofs.Greatest.{greatest_le, passes, fails_next, reaches}

pub log_le : (M : ℕ) → log_of M ≤ 2047
unfolding log_of
log_le M = greatest_le (log_test M) 2047

-- 2^(2T[M]+511) ≤ (2M+1)^512 < 2^(2(T[M]+1)+511)
module _ (M : ℕ) (m : IsMantissa M) where
  pub log_below : 2 ^ (2 * log_of M + 511) ≤ (2 * M + 1) ^ 512
  unfolding log_of log_test
  log_below =
      leb→le _ _
      (passes (log_test M) 2047
      (le→leb _ _ (le_trans (lit≤ {m = 2 ^ 511} {n = 2 ^ 512} tt) (pow-le-pow_left {n = 2} {m = 2 * M + 1} (omega arith) 512))))

  pub log_above : (2 * M + 1) ^ 512 < 2 ^ (2 * suc (log_of M) + 511)
  unfolding log_of log_test
  log_above =
      nleb→lt _ _
      (fails_next (log_test M) 2047
      (lt→nleb _ _
      (lt_of_le_of_lt (pow-le-pow_left {n = 2 * M + 1} {m = 511} (omega arith) 512) (lit< {m = 511 ^ 512} {n = 2 ^ 4607} tt))))

-- T[M] is at least t where t passes the test at M or at a smaller mantissa
pub log_from : (M' t M : ℕ) → t ≤ 2047 → T (log_test M' t) → M' ≤ M → t ≤ log_of M
unfolding log_of log_test
log_from M' t M few test l =
    reaches (log_test M) 2047 t few
    (le→leb _ _ (le_trans (leb→le _ _ test) (pow-le-pow_left {n = 2 * M' + 1} {m = 2 * M + 1} (omega arith) 512)))

-- a power of an odd number is not even, and so no power of two but 1
not_even : (M n q : ℕ) → 2 * q ≡ (2 * M + 1) ^ n → ⊥
not_even M zero q e = one q (rw pow-zero at e)
  where
    one : (q : ℕ) → 2 * q ≡ 1 → ⊥
    one q h = omega arith
not_even M (suc n) q e = not_even M n (q - M * (2 * M + 1) ^ n) (halved ((2 * M + 1) ^ n) (rw pow-suc at e))
  where
    halved : (x : ℕ) → 2 * q ≡ x * (2 * M + 1) → 2 * (q - M * x) ≡ x
    halved x h = omega arith

no_power_of_two : (M n k : ℕ) → 2 ^ k ≡ (2 * M + 1) ^ n → 0 < k → ⊥
no_power_of_two M n zero e h = not-suc-le-zero h
no_power_of_two M n (suc k) e h = not_even M n (2 ^ k) (rw pow-succ' at e)

pub no_tie : NoTie
no_tie M t e = no_power_of_two M 512 _ e (omega arith)

pub logs_nearest : LogsAreNearest
logs_nearest M least most =
    let m : IsMantissa M = record { least = least; most = most } in
    let next : 2 * suc (log_of M) + 511 ≡ 2 * log_of M + 513 = omega arith in
    record { low = lt_of_le_of_ne (log_below M m) (no_tie M (log_of M)); high = rw next at (log_above M m) }

-- X[f]^256 ≤ 2^(1792+f) < (X[f]+1)^256
module _ (f : ℕ) where
  pub root_below : root_of f ^ 256 ≤ 2 ^ (1792 + f)
  unfolding root_of root_test
  root_below = leb→le _ _ (passes (root_test f) 255 (le→leb 0 (2 ^ (1792 + f)) zero-le))

  pub root_above : f < 256 → 2 ^ (1792 + f) < suc (root_of f) ^ 256
  unfolding root_of root_test
  root_above l = nleb→lt _ _ (fails_next (root_test f) 255 (lt→nleb _ _ (pow-lt {i = 1792 + f} {j = 2048} (omega arith))))

  pub root_mantissa : IsMantissa (root_of f)
  unfolding root_of root_test
  root_mantissa = record {
    least = reaches (root_test f) 255 128 (omega arith) (le→leb (128 ^ 256) _ (pow_mono {i = 1792} {j = 1792 + f} (omega arith)));
    most = greatest_le (root_test f) 255;
  }

pub roots_greatest : RootsAreGreatest
roots_greatest f small =
    record {
      passes = root_below f;
      greatest = λ m p. by_contra m (root_of f) (λ l. not-le_of_lt (root_above f (omega arith)) (le_trans (pow-le-pow_left l 256) p));
    }
