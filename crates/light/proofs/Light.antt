-- The rule of light: its cases, and what it says of a page. Assumes nothing.
use Prim.Native.Nat.{ℕ, ◌*◌, ◌<◌, min}
use mathlib.Core.Path.{◌≡◌, refl, sym, ap, ◌∙◌}
use mathlib.Core.Bool.{Bool, true, false}
use native.Mathlib.Omega.{arith}
use borrow.Author.Tests.{le-leb, lt-leb, leb-true, leb-false}
use lib.Dec.{leb}
use Rattle.refusal.specs.declared.Refusal.TheVariants.{DarkPage}
use Rattle.refusal.specs.Verdicts.{require, accepted}
use Rattle.refusal.proofs.Laws.{require_passed}
use Rattle.light.specs.Light.{check_light}
use Rattle.light.specs.loops.Counting.{enough_for}

module _ (lit pixels : ℕ) where
  -- the test, by what is enough
  pub light : leb (enough_for pixels) lit ≡ leb pixels (16 * lit)
  light = by (leb pixels (16 * lit)) refl
    where
      by : (b : Bool) → leb pixels (16 * lit) ≡ b → leb (enough_for pixels) lit ≡ leb pixels (16 * lit)
      by true e = let h = leb-true pixels (16 * lit) e in le-leb (enough_for pixels) lit (omega arith) ∙ sym e
      by false e = let h = leb-false pixels (16 * lit) e in lt-leb (enough_for pixels) lit (omega arith) ∙ sym e

  -- an accepted page has a lit pixel
  pub light_lit : 0 < pixels → check_light lit pixels ≡ accepted → 0 < lit
  unfolding check_light
  light_lit some e = let h = leb-true pixels (16 * lit) (require_passed _ _ _ _ e).0 in omega arith

  -- lit pixels may be counted up to what is enough
  pub counted_enough : check_light (min (enough_for pixels) lit) pixels ≡ check_light lit pixels
  unfolding check_light
  counted_enough = ap (λ b. require b DarkPage 0 accepted) (by (leb pixels (16 * lit)) refl)
    where
      by : (b : Bool) → leb pixels (16 * lit) ≡ b → leb pixels (16 * min (enough_for pixels) lit) ≡ leb pixels (16 * lit)
      by true e = let h = leb-true pixels (16 * lit) e in le-leb pixels (16 * min (enough_for pixels) lit) (omega arith) ∙ sym e
      by false e = let h = leb-false pixels (16 * lit) e in lt-leb pixels (16 * min (enough_for pixels) lit) (omega arith) ∙ sym e
