-- The cases of a step's answer and of the position after it. Assumes nothing.
use Prim.Native.Nat.{ℕ, ◌+◌}
use mathlib.Core.Bool.{true, false}
use mathlib.Core.Path.{◌≡◌}
use mathlib.Core.List.{List}
use borrow.Author.Tests.{ne_eqb}
use lib.ListN.{length}
use Rattle.strip.specs.Checks.{check_strip}
use Rattle.reader.specs.Steps.{pixel_begins, pixel_from, step_under, step_at, position_after}
use Rattle.std.specs.Prelude.{None, Ok, Some}

module _ (s : List ℕ) (p : ℕ) where
  -- where a pixel begins
  module _ (begins : pixel_begins (length s) p ≡ true) where
    pub step_pixel : step_at s p ≡ Ok (Some (pixel_from s p))
    unfolding step_at
    step_pixel = rw begins

    pub after_pixel : position_after s p ≡ p + 3
    unfolding position_after
    after_pixel = rw begins

  -- where none begins
  pub step_checked : p ≡ 0 → step_at s p ≡ step_under (check_strip s)
  unfolding step_at
  step_checked e = rw e

  module _ (none : pixel_begins (length s) p ≡ false) where
    pub step_over : (p ≡ 0 → ⊥) → step_at s p ≡ Ok None
    unfolding step_at
    step_over some = rw (none, ne_eqb _ _ some)

    pub after_stays : position_after s p ≡ p
    unfolding position_after
    after_stays = rw none
