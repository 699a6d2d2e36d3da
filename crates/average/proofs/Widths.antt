-- A quotient in 64 bits, as a call hands it on. docs/CHANGES.md names it. Assumes nothing.
use mathlib.Core.Path.{◌≡◌, ap, ◌∙◌}
use Prim.Native.Nat.{ℕ}
use lib.IntN.{ℤ}
use mir.Syntax.{w64}
use mir.Val.{SFits, to_z, of_z}
use mir.Facts.{to_z-of_z}
use Rattle.average.specs.Averages.{floor_div}

pub quotient_held : {z q : ℤ} (n : ℕ) → SFits w64 z → SFits w64 q → q ≡ floor_div (to_z w64 (of_z w64 z)) n → to_z w64 (of_z w64 q) ≡ floor_div z n
quotient_held n z q e = to_z-of_z q ∙ e ∙ ap (λ z. floor_div z n) (to_z-of_z z)
