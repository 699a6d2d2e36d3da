-- The claims about samples. Assumes nothing.
use mathlib.Core.Path.{◌≡◌, refl}
use mathlib.Core.Logic.{⊎_elim}
use Prim.Native.Nat.{ℕ, zero, suc, ◌+◌, ◌*◌, ◌^◌, ◌≤◌, ◌<◌}
use native.Mathlib.Nat.{le_refl, le_trans, lt_of_le_of_lt, lt_of_lt_of_le, le_of_suc-le-suc, eq-or-lt_of_le}
use native.Mathlib.Nat.{mul-le-mul_right, pow-le-pow_left}
use native.Mathlib.Omega.{arith}
use borrow.Author.Tests.{le-ltb}
use lib.Arith.{lt→nleb}
use lib.Dec.{leb, ltb, leb→le, le→leb, nleb→lt, ltb→lt, lit≤, lit<}
use Rattle.table.specs.Tables.{greatest}
use Rattle.table.proofs.Below.{passed}
use Rattle.table.proofs.Greatest.{passes, fails_next}
use Rattle.screen.specs.Samples.{curve_test, sample_of}
use Rattle.screen.specs.Claims.{SamplesAreNearest, EndsAreKept, SamplesNeverFall, SamplesStayApart}

-- ---- the nearest

module _ (n : ℕ) (least : 5 ≤ n) where
  curved : sample_of n ≡ greatest (curve_test n) 255
  unfolding sample_of
  curved = rw (le-ltb (1000 * n) (18 * 255) (omega arith))

  low : (2000 * sample_of n + 49490) ^ 20 * 255 ^ 9 ≤ n ^ 9 * 560490 ^ 20
  unfolding curve_test
  low =
      rw curved
      (leb→le _ _
      (passes (curve_test n) 255
      (le→leb _ _
      (le_trans (lit≤ {m = 49490 ^ 20 * 255 ^ 9} {n = 5 ^ 9 * 560490 ^ 20} tt)
      (mul-le-mul_right (560490 ^ 20) (pow-le-pow_left least 9))))))

  high : n ≤ 255 → n ^ 9 * 560490 ^ 20 < (2000 * sample_of n + 51490) ^ 20 * 255 ^ 9
  unfolding curve_test
  high most =
      let next : 2000 * suc (greatest (curve_test n) 255) + 49490 ≡ 2000 * greatest (curve_test n) 255 + 51490 = omega arith in
      rw (curved, ← next)
      (nleb→lt _ _
      (fails_next (curve_test n) 255
      (lt→nleb _ _
      (lt_of_le_of_lt (mul-le-mul_right (560490 ^ 20) (pow-le-pow_left most 9))
      (lit< {m = 255 ^ 9 * 560490 ^ 20} {n = 561490 ^ 20 * 255 ^ 9} tt)))))

pub samples_nearest : SamplesAreNearest
samples_nearest n least most = record { low = low n least; high = high n least most }

-- ---- their order, computed

pub ends_kept : EndsAreKept
unfolding sample_of curve_test greatest
ends_kept = record { black = refl; white = refl }

next_rises : (n : ℕ) → n < 255 → sample_of n ≤ sample_of (suc n)
unfolding sample_of curve_test greatest
next_rises n h = leb→le _ _ (passed (λ n. leb (sample_of n) (sample_of (suc n))) 255 tt n h)

second_apart : (n : ℕ) → n < 254 → sample_of n < sample_of (n + 2)
unfolding sample_of curve_test greatest
second_apart n h = ltb→lt _ _ (passed (λ n. ltb (sample_of n) (sample_of (n + 2))) 254 tt n h)

rise_to : (m n : ℕ) → n ≤ m → m ≤ 255 → sample_of n ≤ sample_of m
rise_to zero n h most = let e : n ≡ zero = omega arith in rw e (le_refl (sample_of zero))
rise_to (suc m) n h most =
    ⊎_elim (λ e. rw e (le_refl (sample_of (suc m))))
    (λ l. le_trans (rise_to m n (le_of_suc-le-suc l) (omega arith)) (next_rises m most))
    (eq-or-lt_of_le h)

pub samples_never_fall : SamplesNeverFall
samples_never_fall n m h most = rise_to m n h most

pub samples_apart : SamplesStayApart
samples_apart n m h most = lt_of_lt_of_le (second_apart n (omega arith)) (samples_never_fall (n + 2) m h most)
