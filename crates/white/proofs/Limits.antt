-- What a white point that fits keeps to. Assumes nothing.
use Rattle.std.proofs.Common.{ℕ, ◌≤◌, ◌≡◌, refl, ap, Bool, true, false, ◌&&◌, eqb-true, leb-true, eq-eqb}
use Rattle.white.specs.Whites.{tenths_fit, white_fits, same_white}
use Rattle.std.specs.Prelude.{None, Some}
use Rattle.white.specs.Whites.{White}

pub both_true : (a b : Bool) → (a && b) ≡ true → (a ≡ true) × (b ≡ true)
both_true true b e = (refl, e)
both_true false b e = (cc, cc)

pub record Whitened (W : ℕ) : Type 0 where
  pub least : 10 ≤ W
  pub most : W ≤ 1000

pub white_limits : (W : ℕ) → white_fits (Some W) ≡ true → Whitened W
unfolding tenths_fit white_fits
white_limits W e =
    let p = both_true _ _ e in
    record { least = leb-true _ _ p.0; most = leb-true _ _ p.1 }

-- the same white point is equal
pub white_same : (a b : White) → same_white a b ≡ true → a ≡ b
unfolding same_white
white_same None None e = refl
white_same None (Some W) e = cc
white_same (Some U) None e = cc
white_same (Some U) (Some W) e = ap Some (eqb-true U W e)

pub white_agrees : (a : White) → same_white a a ≡ true
unfolding same_white
white_agrees None = refl
white_agrees (Some W) = eq-eqb W W refl
