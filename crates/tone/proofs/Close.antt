-- Fractions that differ by at most n roundings, each a factor of 256/255: a distance that adds up. Assumes nothing.
use Prim.Native.Nat.{ℕ, ◌+◌, ◌*◌, ◌^◌, ◌≤◌, ◌<◌}
use native.Mathlib.Omega.{arith}
use native.Mathlib.Nat.{le_of_mul-le-mul_left, lt_of_mul-lt-mul_left, lt_of_mul-lt-mul_right, mul-le-mul, mul-le-mul_left}
use lib.Pow.{pow-add}
use Rattle.number.proofs.Laws.{Frac, Positive, Near, ◌·◌}

-- x is at most y times (256/255)^n
pub record AtMostBy (n : ℕ) (x y : Frac) : Type 0 where
  pub cross : 255 ^ n * (x.num * y.den) ≤ 256 ^ n * (y.num * x.den)

-- each is at most the other times (256/255)^n
pub record Close (n : ℕ) (x y : Frac) : Type 0 where
  pub above : AtMostBy n x y
  pub below : AtMostBy n y x

pub at_most_refl : (x : Frac) → AtMostBy 0 x x
at_most_refl x = omega arith

pub at_most_trans : {m n : ℕ} {x y z : Frac} → 0 < y.den → AtMostBy m x y → AtMostBy n y z → AtMostBy (m + n) x z
at_most_trans {m} {n} {x} {y} {z} p h k =
    record {
      cross = rw (pow-add 255 m n, pow-add 256 m n) (le_of_mul-le-mul_left
          (omega (arith, mul-le-mul_left (255 ^ n * z.den) h.cross, mul-le-mul_left (256 ^ m * x.den) k.cross)) p);
    }

pub at_most_times : {m n : ℕ} {x y z w : Frac} → AtMostBy m x y → AtMostBy n z w → AtMostBy (m + n) (x · z) (y · w)
at_most_times {m} {n} {x} {y} {z} {w} h k =
    record { cross = rw (pow-add 255 m n, pow-add 256 m n) (omega (arith, mul-le-mul h.cross k.cross)) }

pub close_refl : (x : Frac) → Close 0 x x
close_refl x = omega arith

-- storing is one rounding
pub near_close : {x s : Frac} → Near x s → Close 1 x s
near_close h = omega arith

-- what is near is positive, on both sides
pub near_pos : {x s : Frac} → Near x s → Positive x × Positive s
near_pos {x} {s} h = (
  record { numerator = lt_of_mul-lt-mul_right s.den (omega arith); denominator = lt_of_mul-lt-mul_left s.num (omega arith) },
  record { numerator = lt_of_mul-lt-mul_right x.den (omega arith); denominator = lt_of_mul-lt-mul_left x.num (omega arith) },
)
