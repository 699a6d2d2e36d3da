-- `number::ratio::scale` meets its contract: with their top bits at one place, two numbers have a quotient between 1/2 and 2.
use Rattle.std.proofs.Common.{◌≡◌, ℕ, ◌+◌, ◌-◌, ◌*◌, ◌^◌, ◌<◌, ◌≤◌, ap, ◌∙◌, subst, arith, pow-add}
use native.Mathlib.Decide.{dec_lt}
use Rattle.number.specs.Fractions.{◌over◌}
use Rattle.number.specs.Storing.{Normalised, Scales}
use Rattle.number.proofs.Normalised.{one, ratio}
use Rattle.number.proofs.ratio.scale.Goals as goal

-- num and den shifted to n and d
module _ {num den n d : ℕ} (a b : ℕ) (p : n ≡ num * 2 ^ a) (q : d ≡ den * 2 ^ b) where
  aligned : {M : ℕ} → Normalised n d M → Scales (num over den) a b M
  aligned s = record { normalised = rw (← p, ← q) s }

  below : {M : ℕ} → 0 < d → n < d → d ≤ 2 * n → Normalised (d + (n - (d - n))) (2 * d) M → Scales (num over den) a b M
  below o l h s =
      let twice : d + (n - (d - n)) ≡ 2 * n = omega arith in
      aligned (ratio s (ap (λ (z : ℕ). z * d) twice ∙ omega arith) o)

  above : {M : ℕ} → d < n → Normalised (d + (n - d)) (2 * d) M → Scales (num over den) a (b + 1) M
  above {M} l s =
      let whole : d + (n - d) ≡ n = omega arith in
      let double : 2 * d ≡ den * 2 ^ (b + 1) = rw (pow-add 2 b 1) (omega arith) in
      record { normalised = rw (← p, ← double) (subst (λ (z : ℕ). Normalised z (2 * d) M) whole s) }

-- whichever of the two is larger
module _ (n d : ℕ) {rest : ℕ} (apart : n ≡ d → ⊥) (least : d < 2 * n) (most : n < 2 * d)
    (left : (n < d → rest ≡ n - (d - n)) × (d ≤ n → rest ≡ n - d)) where
  either : (num den a b : ℕ) {M more : ℕ} → n ≡ num * 2 ^ a → d ≡ den * 2 ^ b → (n < d → more ≡ 0) × (d ≤ n → more ≡ 1)
      → Normalised (d + rest) (2 * d) M → Scales (num over den) a (b + more) M
  either num den a b {M} {more} p q places s = go (dec_lt n d)
    where
      go : Dec (n < d) → Scales (num over den) a (b + more) M
      go (yes h) =
          let same : b + more ≡ b = omega (arith, places.0 h) in
          rw same (below a b p q (omega arith) h (omega arith) (subst (λ (z : ℕ). Normalised (d + z) (2 * d) M) (left.0 h) s))
      go (no h) =
          let o : d ≤ n = omega arith in
          rw (places.1 o) (above a b p q (omega arith) (subst (λ (z : ℕ). Normalised (d + z) (2 * d) M) (left.1 o) s))

pub returns-then-top-bottom : goal.returns-then-top-bottom
returns-then-top-bottom c =
    aligned _ _ c.align-n.ensures.0 (c.if-top-bottom.true ∙ c.align-d.ensures.0) (one (omega arith))

pub returns : goal.returns
returns c =
    -- with their top bits at one place, neither is twice the other
    either _ _ c.if-top-bottom.false (omega arith) (omega arith) c.rest_of.ensures _ _ _ _ c.align-n.ensures.0
    c.align-d.ensures.0 (λ h. grind (arith, c.from.ensures), λ h. grind (arith, c.from.ensures)) c.mantissa.ensures
