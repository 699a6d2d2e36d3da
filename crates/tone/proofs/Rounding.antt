-- A fraction x close to v, rounded to the nearest and at most 255, lies within some halves of v clipped at 255. Assumes nothing.
use mathlib.Core.Path.{◌≡◌, ◌∙◌, sym}
use mathlib.Core.Logic.{◌⊎◌, inl, inr}
use Prim.Native.Nat.{ℕ, ◌+◌, ◌*◌, ◌^◌, ◌/◌, ◌≤◌, ◌<◌, min}
use native.Mathlib.Omega.{arith}
use native.Mathlib.Nat.{
  div-mul-le_self,
  eq-or-lt_of_le,
  le_dest,
  le_trans,
  lt-div-mul-add,
  lt_of_mul-lt-mul_left,
  lt_of_mul-lt-mul_right,
  min-eq_right,
  min-le_left,
  min-le_right,
  mul-div-mul_right,
  mul-le-mul_left,
  mul-le-mul_right,
  mul-lt-mul_of_pos_left,
  mul-pos,
  pow-le-pow_left,
}
use Rattle.number.proofs.Laws.{Frac, Equal}
use Rattle.tone.specs.Claims.{WithinHalves, at_most255}
use Rattle.tone.specs.Levels.{nearest_whole}
use Rattle.tone.proofs.Close.{Close}

-- (a − b)(d − c) ≥ 0, multiplied out
crossed : {a b c d : ℕ} → b ≤ a → c ≤ d → b * d + a * c ≤ b * c + a * d
crossed {a} {b} {c} {d} h k = let p = le_dest h in let q = le_dest k in rw (← p.1, ← q.1) (omega arith)

-- x and v are within a factor of a/b; h halves have room for the distance of 255 and 255·b/a and for the rounding
module _ (h a b : ℕ) (x v : Frac) (factor : b ≤ a) (room : 511 * a < h * a + 510 * b) (px : 0 < x.den) (pv : 0 < v.den)
    (up : b * (x.num * v.den) ≤ a * (v.num * x.den)) (down : b * (v.num * x.den) ≤ a * (x.num * v.den)) where
  pos : 0 < x.den * v.den
  pos = mul-pos px pv

  some : 0 < h * v.den
  some = mul-pos (lt_of_mul-lt-mul_right a (omega arith)) pv

  above : (t : ℕ) → t ≤ 255 → t * (2 * x.den) ≤ 2 * x.num + x.den → 2 * (t * v.den) < 2 * min v.num (255 * v.den) + h * v.den
  above t cap floor =
      let i : 2 * (t * v.den) < 2 * v.num + h * v.den =
      lt_of_mul-lt-mul_left (a * x.den)
      (omega (
        arith,
        mul-le-mul_left (b * v.den) floor,
        mul-le-mul_left (x.den * v.den) (crossed factor cap),
        mul-lt-mul_of_pos_left room pos,
        mul-le-mul_left (x.den * v.den) factor,
      )) in
      omega (arith, mul-le-mul_right v.den cap, some)

  below : (t q : ℕ) → q ≤ v.num → q ≤ 255 * v.den → 2 * x.num + x.den < t * (2 * x.den) + 2 * x.den
      → 2 * q < 2 * (t * v.den) + h * v.den
  below t q le cap floor =
      lt_of_mul-lt-mul_left (a * x.den)
      (omega (
        arith,
        mul-le-mul_left (a * v.den) floor,
        mul-le-mul_left x.den (crossed factor cap),
        mul-le-mul_left (b * x.den) le,
        mul-lt-mul_of_pos_left room pos,
      ))

  rounds : WithinHalves h (min 255 (nearest_whole x)) (at_most255 v)
  rounds =
      record {
        high = above (min 255 (nearest_whole x)) (min-le_left 255 _)
            (le_trans (mul-le-mul_right (2 * x.den) (min-le_right 255 (nearest_whole x))) (div-mul-le_self _ (2 * x.den)));
        low = by_cap (eq-or-lt_of_le (min-le_left 255 (nearest_whole x)));
      }
    where
      by_cap : (min 255 (nearest_whole x) ≡ 255) ⊎ (min 255 (nearest_whole x) < 255)
          → 2 * min v.num (255 * v.den) < 2 * (min 255 (nearest_whole x) * v.den) + h * v.den
      by_cap (inl e) = rw e (omega (arith, some))
      by_cap (inr l) =
          let k : nearest_whole x ≤ 255 = omega arith in
          rw (min-eq_right k) (below _ _ (min-le_left _ _) (min-le_right _ _) (lt-div-mul-add (omega arith)))

pub rounded : (h n : ℕ) (x v : Frac) → 511 * 256 ^ n < h * 256 ^ n + 510 * 255 ^ n → 0 < x.den → 0 < v.den
    → Close n x v → WithinHalves h (min 255 (nearest_whole x)) (at_most255 v)
rounded h n x v room px pv c =
    rounds h (256 ^ n) (255 ^ n) x v (pow-le-pow_left (omega arith) n) room px pv c.above.cross c.below.cross

-- the nearest whole number is that of the value, and not of the fraction that gives it
pub nearest_equal : (x y : Frac) → 0 < x.den → 0 < y.den → Equal x y → nearest_whole x ≡ nearest_whole y
nearest_equal x y px py e =
    sym (mul-div-mul_right (2 * x.num + x.den) (2 * x.den) py)
    ∙ quotients (omega (arith, e.cross)) (omega arith)
    ∙ mul-div-mul_right (2 * y.num + y.den) (2 * y.den) px
  where
    quotients : {a b c d : ℕ} → a ≡ b → c ≡ d → a / c ≡ b / d
    quotients h k = cc
