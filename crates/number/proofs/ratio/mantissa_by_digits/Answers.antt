-- `number::ratio::mantissa_by_digits` meets its contract: with i digits taken, digits * den + rest is 2^i times the number.
use Rattle.std.proofs.Common.{◌≡◌, ℕ, ◌+◌, ◌*◌, ◌^◌, ◌<◌, ◌≤◌, subst, arith, pow-add}
use Rattle.number.specs.Storing.{Normalised}
use Rattle.number.proofs.Normalised.{cell}
use Rattle.number.proofs.ratio.mantissa_by_digits.Goals as goal

module _ (rest den i q r : ℕ) (small : q < 2 ^ (i + 1)) (so_far : q * den + r ≡ (den + rest) * 2 ^ i) where
  next : (q' r' : ℕ) → q' * den + r' ≡ 2 * (q * den + r) → q' ≤ 2 * q + 1
      → (q' < 2 ^ (i + 1 + 1)) × (q' * den + r' ≡ (den + rest) * 2 ^ (i + 1))
  next q' r' e l = rw (pow-add 2 (i + 1) 1, pow-add 2 i 1) (omega (arith, pow-add 2 i 1))

  -- eight digits are all: q / 256 is the cell
  last : i ≡ 7 → 0 < rest → r < den → Normalised (den + rest) (2 * den) q
  last e p l =
      let most : q < 256 = subst (λ (z : ℕ). q < 2 ^ (z + 1)) e small in
      let whole : q * den + r ≡ (den + rest) * 128 = subst (λ (z : ℕ). q * den + r ≡ (den + rest) * 2 ^ z) e so_far in
      cell (omega arith) (omega arith) (omega arith) (omega arith)

pub loop-preserved : goal.loop-preserved
loop-preserved c =
    let d = next _ _ c.loop.counter _ _ c.loop.invariant.1 c.loop.invariant.2 _ _ c.next-q.ensures.0 c.next-q.ensures.2 in
    (c.next-q.ensures.1, d.0, d.1)

pub returns : goal.returns
returns c =
    last _ _ c.loop.counter _ _ c.loop.invariant.1 c.loop.invariant.2 (omega arith) c.requires.0 c.loop.invariant.0
