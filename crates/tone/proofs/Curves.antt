-- Curves that never stretch a ratio: where x is at most r ≥ 1 times y, f(x) is at most r times f(y). That is to say that f never falls
-- and f(x)/x never rises. The curve of every page is one, and lies between L/(1+L) and L. Assumes nothing.
use mathlib.Core.Path.{◌≡◌}
use mathlib.Core.Bool.{true}
use Prim.Native.Nat.{ℕ, ◌+◌, ◌*◌, ◌≤◌, ◌<◌}
use native.Mathlib.Omega.{arith}
use native.Mathlib.Nat.{le_dest, le_refl, mul-le-mul, mul-le-mul_left, mul-pos}
use Rattle.number.proofs.Laws.{Frac, AtMost}
use Rattle.white.specs.Whites.{white_fits}
use Rattle.white.proofs.Limits.{white_limits}
use Rattle.tone.specs.Levels.{reinhard, white_point, curve_of}
use Rattle.tone.specs.Claims.{WhiteIsOne}
use Rattle.std.specs.Prelude.{None, Some}
use Rattle.white.specs.Whites.{White}

-- the ratio r is a/b
pub record NeverStretches (f : Frac → Frac) : Type 0 where
  pub den_pos : (x : Frac) → 0 < x.den → 0 < (f x).den
  pub ratio : (a b : ℕ) (x y : Frac) → b ≤ a → b * (x.num * y.den) ≤ a * (y.num * x.den)
      → b * ((f x).num * (f y).den) ≤ a * ((f y).num * (f x).den)

reinhard_ratio : NeverStretches reinhard
reinhard_ratio =
    record {
      den_pos = λ x h. omega arith;
      ratio = λ a b x y r h. omega (arith, mul-le-mul_left (x.num * y.num) r);
    }

-- ---- with a white point

pub white_is_one : WhiteIsOne
white_is_one W _ = record { cross = omega arith }

-- w is at least 1
square_least : {W : ℕ} → 10 ≤ W → 100 ≤ W * W
square_least h = mul-le-mul h h

-- (a - b)(d - c) ≥ 0, multiplied out
cross : {a b c d : ℕ} → b ≤ a → c ≤ d → b * d + a * c ≤ b * c + a * d
cross {a} {b} {c} {d} h k = let p = le_dest h in let q = le_dest k in rw (← p.1, ← q.1) (omega arith)

-- with t = 1/w² ≤ 1 the claim is h times 1 + t(x + y + xy), and r times (1 - t)xy.
-- p and q are the cross products of x and y, d and n the products of their denominators and numerators
white : (v d n p q a b : ℕ) → 100 ≤ v → b ≤ a → b * p ≤ a * q
    → b * (p * (v * d + v * q + 100 * p + 100 * n)) ≤ a * (q * (v * d + v * p + 100 * q + 100 * n))
white v d n p q a b w r h = omega (arith, mul-le-mul_left (v * d + 100 * (n + p + q)) h, mul-le-mul_left (p * q) (cross r w))

-- the same at x = n/d and y = m/e
white_at : (v n d m e a b : ℕ) → 100 ≤ v → b ≤ a → b * (n * e) ≤ a * (m * d)
    → b * (n * (v * d + 100 * n) * (e * (e + m))) ≤ a * (m * (v * e + 100 * m) * (d * (d + n)))
white_at v n d m e a b w r h = let k = white v (d * e) (n * m) (n * e) (m * d) a b w r h in omega arith

pub white_ratio : (W : ℕ) → 10 ≤ W → NeverStretches (white_point W)
white_ratio W w =
    record {
      den_pos = λ x h. mul-pos (mul-pos (mul-pos (omega arith) (omega arith)) h) (omega arith);
      ratio = λ a b x y r h.
          let k = white_at (W * W) x.num x.den y.num y.den a b (square_least w) r h in
          times (W * W) b _ y.den _ a _ x.den _ (mul-le-mul_left (W * W) k);
    }
  where
    times : (v b n e s a m d r : ℕ) → v * (b * (n * (e * s))) ≤ v * (a * (m * (d * r))) → b * (n * (v * e * s)) ≤ a * (m * (v * d * r))
    times v b n e s a m d r h = omega arith

-- ---- between L/(1+L) and L

pub record Between (f : Frac → Frac) : Type 0 where
  pub low : (x : Frac) → AtMost (reinhard x) (f x)
  pub high : (x : Frac) → AtMost (f x) x

reinhard_between : Between reinhard
reinhard_between = record { low = λ x. record { cross = le_refl _ }; high = λ x. record { cross = omega arith } }

white_between : (W : ℕ) → 10 ≤ W → Between (white_point W)
white_between W w =
    record {
      low = λ x. record { cross = least (W * W) x.num x.den };
      high = λ x. record { cross = most (W * W) x.num x.den (square_least w) };
    }
  where
    least : (v n d : ℕ) → n * (v * d * (d + n)) ≤ n * (v * d + 100 * n) * (d + n)
    least v n d = omega arith

    most : (v n d : ℕ) → 100 ≤ v → n * (v * d + 100 * n) * d ≤ n * (v * d * (d + n))
    most v n d h = omega (arith, mul-le-mul_left (n * n * d) h)

-- ---- the curve of a page

pub curve_ratio : (w : White) → white_fits w ≡ true → NeverStretches (curve_of w)
curve_ratio None h = reinhard_ratio
curve_ratio (Some W) h = white_ratio W (white_limits W h).least

pub curve_between : (w : White) → white_fits w ≡ true → Between (curve_of w)
curve_between None h = reinhard_between
curve_between (Some W) h = white_between W (white_limits W h).least
