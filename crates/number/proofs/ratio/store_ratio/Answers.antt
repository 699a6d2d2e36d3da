-- `number::ratio::store_ratio` meets its contract. Assumes nothing.
use Rattle.std.proofs.Common.{◌≡◌, ℕ, ◌+◌, ◌-◌, ◌*◌, ◌^◌, ◌<◌, ◌≤◌, sym, ap, ◌∙◌, subst, mul-pos, arith, pow_pos}
use Rattle.number.specs.Fractions.{Frac, ◌over◌}
use Rattle.number.specs.Storing.{unit, Scales, Stores, ratio_of, ratio_told}
use Rattle.number.proofs.Scaling.{rescale, powers_into}
use Rattle.number.proofs.Ranges.{small, large}
use Rattle.number.proofs.Storing.{too_small_at, fits_at, too_large_at}
use Rattle.number.proofs.ratio.store_ratio.Goals as goal
use Rattle.number.proofs.ratio.store_ratio.Goals.{then-num-eq0-via-then-num-eq0, then-num-eq0-via-else-num-eq0+then-den-eq0}
use Rattle.std.specs.Prelude.{None, Some, Ok, Err, Result}
use Rattle.std.specs.Result.{OkIff, result_ok}

module _ (num den exp : ℕ) where
  abbrev F : Frac
  F = num * 2 ^ exp over den * unit

  no_numerator : num ≡ 0 → ratio_of F ≡ None
  unfolding ratio_of
  no_numerator e =
      small _ _ _ _ _ _
      (record { cross = subst (λ (z : ℕ). z * 2 ^ exp * 2 ^ 129 ≤ 1 * (den * unit)) (sym e) (none (2 ^ 129)) })
    where
      none : (B : ℕ) → 0 * 2 ^ exp * B ≤ 1 * (den * unit)
      none B = omega arith

  no_denominator : 0 < num → den ≡ 0 → ratio_of F ≡ None
  unfolding ratio_of
  no_denominator p e =
      large _ _ _ _ _ _
      (record { cross = subst (λ (z : ℕ). 2 ^ 127 * (z * unit) < num * 2 ^ exp * 1) (sym e) (none (2 ^ 127)) })
    where
      none : (A : ℕ) → A * (0 * unit) < num * 2 ^ exp * 1
      none A = omega (arith, mul-pos p (pow_pos exp))

  -- the exponent is exp + down - (up + 9)
  module _ (up down : ℕ) {M : ℕ} (s : Scales (num over den) up down M) where
    moved : (i j : ℕ) → up + (137 + j) ≡ exp + i + down → Scales F i j M
    unfolding unit
    moved i j e = powers_into exp 137 (rescale s e)

    negative : exp + down < up + 9 → ratio_of F ≡ None
    negative h = too_small_at (moved (up + 137) (exp + down) (omega arith)) (omega arith)

    at : up + 9 ≤ exp + down → Stores F (exp + down - (up + 9)) M
    at h = moved 128 (exp + down - (up + 9)) (omega arith)

not_a_byte : {E : Type 0} (r : Result ℕ E) {v : ℕ} → OkIff r (v < 256) v → result_ok r ≡ None → 255 < v
not_a_byte (Ok x) h e = cc
not_a_byte (Err d) h e = omega (arith, h)

a_byte : {E : Type 0} (r : Result ℕ E) {v b : ℕ} → OkIff r (v < 256) v → result_ok r ≡ Some b → (v < 256) × (v ≡ b)
a_byte (Ok x) h e = grind arith
a_byte (Err d) h e = (cc, cc)

pub returns-then-num-eq0 : goal.returns-then-num-eq0
returns-then-num-eq0 c =
    let e = sym (elim c.then-num-eq0.branch [
      | then-num-eq0-via-then-num-eq0 w ↦ no_numerator c.args.num c.args.den c.args.exp w.if-num-eq0.true
      | then-num-eq0-via-else-num-eq0+then-den-eq0 w ↦ no_denominator c.args.num c.args.den c.args.exp (omega arith) w.if-den-eq0.true
    ]) in
    record { answer = e; told = ap ratio_told e }

pub returns-in_err-checked_sub : goal.returns-in_err-checked_sub
returns-in_err-checked_sub c =
    let e = sym (negative c.args.num c.args.den c.args.exp _ _ c.scale-s.ensures (omega (arith, c.in_err-checked_sub.ensures))) in
    rw c.from_residual.ensures record { answer = e; told = ap ratio_told e }

pub returns-in_err-exponent : goal.returns-in_err-exponent
returns-in_err-exponent c =
    let h = c.in_ok-checked_sub.ensures in
    let s = at c.args.num c.args.den c.args.exp _ _ c.scale-s.ensures (omega (arith, h)) in
    let large = not_a_byte _ c.try_from.ensures (sym c.ok.ensures.value ∙ c.in_err-exponent.was) in
    let e = sym (too_large_at s (omega (arith, h, large))) in
    rw c.from_residual-in_err-exponent.ensures record { answer = e; told = ap ratio_told e }

pub returns : goal.returns
returns c =
    let h = c.in_ok-checked_sub.ensures in
    let s = at c.args.num c.args.den c.args.exp _ _ c.scale-s.ensures (omega (arith, h)) in
    let small = a_byte _ c.try_from.ensures (sym c.ok.ensures.value ∙ c.in_ok-exponent.was) in
    let e = sym (fits_at s (omega (arith, h, small))) in
    rw (sym small.1 ∙ h.1) record { answer = e; told = ap ratio_told e }
