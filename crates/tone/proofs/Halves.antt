-- Step 6 has no half to round below 255: a worth is an odd number times a power of two, so the powers must be equal where a half comes out,
-- and the odd numbers alone then make it large. Assumes nothing.
use mathlib.Core.Path.{◌≡◌, refl, sym, ap, ◌∙◌}
use Prim.Native.Nat.{ℕ, zero, suc, ◌+◌, ◌*◌, ◌^◌, ◌≤◌, ◌<◌}
use native.Mathlib.Nat.{eq_of_mul-eq-mul_right, mul-le-mul, pow-succ'}
use native.Mathlib.Decide.{dec_le}
use native.Mathlib.Omega.{arith}
use lib.Pow.{pow-add, pow_pos}
use Rattle.number.proofs.Laws.{unit, unit_pos, unit_power}
use Rattle.tone.specs.Claims.{NoHalfBelow255}

-- an odd number times a power of two tells the power
odd_power : (u v a b : ℕ) → (2 * u + 1) * 2 ^ a ≡ (2 * v + 1) * 2 ^ b → a ≡ b
odd_power u v zero zero e = refl
odd_power u v zero (suc b) e = absurd (parity u v (2 ^ b) (rw (pow-succ' 2 b) at e))
  where
    parity : (u v q : ℕ) → (2 * u + 1) * 1 ≡ (2 * v + 1) * (2 * q) → ⊥
    parity u v q h = omega arith
odd_power u v (suc a) zero e = absurd (parity u v (2 ^ a) (rw (pow-succ' 2 a) at e))
  where
    parity : (u v p : ℕ) → (2 * u + 1) * (2 * p) ≡ (2 * v + 1) * 1 → ⊥
    parity u v p h = omega arith
odd_power u v (suc a) (suc b) e = ap suc (odd_power u v a b (halved (2 ^ a) (2 ^ b) (rw (pow-succ' 2 a, pow-succ' 2 b) at e)))
  where
    halved : (p q : ℕ) → (2 * u + 1) * (2 * p) ≡ (2 * v + 1) * (2 * q) → (2 * u + 1) * p ≡ (2 * v + 1) * q
    halved p q h = omega arith

-- 255 · D · C / Y from 255 on
large : (d c y n : ℕ) → 128 ≤ d → 128 ≤ c → y ≤ 255 → 255 * (2 * d + 1) * (2 * c + 1) ≡ (2 * n + 1) * (2 * y + 1) → 255 ≤ n
large d c y n g h k e = go (dec_le 255 n)
  where
    go : Dec (255 ≤ n) → 255 ≤ n
    go (yes l) = l
    go (no l) =
        let low : 257 * 257 ≤ (2 * d + 1) * (2 * c + 1) = mul-le-mul {n₁ = 257} {m₁ = 257} (omega arith) (omega arith) in
        let high : (2 * n + 1) * (2 * y + 1) ≤ 509 * 511 = mul-le-mul {n₂ = 509} {m₂ = 511} (omega arith) (omega arith) in
        absurd (omega arith)

pub no_half : NoHalfBelow255
no_half d y E M md my mc n h =
    large d.mantissa M y.mantissa n md.least mc.least my.most
    (eq_of_mul-eq-mul_right (2 ^ a) (pow_pos a) _ _ (powers ∙ ap (λ (z : ℕ). (2 * n + 1) * (2 * y.mantissa + 1) * 2 ^ z) (sym same)))
  where
    a : ℕ
    a = suc (d.exponent + E)

    b : ℕ
    b = y.exponent + 137

    regroup : (D C Y p q r u N : ℕ) → 0 < u → 2 * (255 * (D * p * (C * q) * u)) ≡ N * (u * u * (Y * r))
        → 255 * D * C * (2 * (p * q)) ≡ N * Y * (r * u)
    regroup D C Y p q r u N o e = eq_of_mul-eq-mul_right u o _ _ (omega (arith, e))

    powers : 255 * (2 * d.mantissa + 1) * (2 * M + 1) * 2 ^ a ≡ (2 * n + 1) * (2 * y.mantissa + 1) * 2 ^ b
    powers =
        rw (pow-succ' 2 (d.exponent + E), pow-add 2 d.exponent E, pow-add 2 y.exponent 137, ← unit_power)
        (regroup (2 * d.mantissa + 1) (2 * M + 1) (2 * y.mantissa + 1) (2 ^ d.exponent) (2 ^ E) (2 ^ y.exponent) unit (2 * n + 1)
        unit_pos h.cross)

    odd : (d c y n p q : ℕ) → 255 * (2 * d + 1) * (2 * c + 1) * p ≡ (2 * n + 1) * (2 * y + 1) * q
        → (2 * (510 * (d * c) + 255 * d + 255 * c + 127) + 1) * p ≡ (2 * (2 * (n * y) + n + y) + 1) * q
    odd d c y n p q e = omega (arith, e)

    same : a ≡ b
    same = odd_power _ _ a b (odd d.mantissa M y.mantissa n (2 ^ a) (2 ^ b) powers)
