-- Division by n, rounded toward minus infinity: taking c·n from a number takes c from its quotient and leaves the rest.
-- Assumes nothing.
use mathlib.Core.Path.{◌≡◌, refl, sym, ap, ◌∙◌}
use Prim.Native.Nat.{ℕ, suc, ◌+◌, ◌-◌, ◌*◌, ◌/◌, ◌%◌, ◌<◌}
use native.Mathlib.Nat.{mod-lt, div-add-mod'}
use native.Mathlib.Omega.{arith}
use lib.Arith.{digits_div, digits_mod}
use lib.IntN.{ℤ, pos, negsuc, sub_ℕ, ◌+ℤ◌, ◌*ℤ◌, pos-*ℤ-pos}
use Rattle.number.proofs.Laws.{sub_pos, sub_neg, sub_cases, sub_plus, sub_times}
use Rattle.average.specs.Averages.{floor_div, floor_mod}
use Rattle.average.specs.Claims.{FloorDivides}

module _ (n r : ℕ) (small : r < n) where
  rest : n - suc r < n
  rest = omega arith

  digits : (q c : ℕ) → (floor_div (sub_ℕ (q * n + r) (c * n)) n ≡ sub_ℕ q c) × (floor_mod (sub_ℕ (q * n + r) (c * n)) n ≡ r)
  digits =
      sub_cases (λ q c. (floor_div (sub_ℕ (q * n + r) (c * n)) n ≡ sub_ℕ q c) × (floor_mod (sub_ℕ (q * n + r) (c * n)) n ≡ r))
      (λ c d. rw (sub_pos ((c + d) * n + r) (c * n) (d * n + r) (omega arith), sub_pos (c + d) c d refl)
      (ap pos (digits_div d small), digits_mod d small))
      (λ q d. rw (sub_neg (q * n + r) ((suc q + d) * n) (d * n + (n - suc r)) (omega arith), sub_neg q (suc q + d) d refl)
      (ap negsuc (digits_div d rest), rw (digits_mod d rest) (omega arith)))

module _ (b c n : ℕ) (n>0 : 0 < n) where
  pub floor_sub : floor_div (sub_ℕ b (c * n)) n ≡ sub_ℕ (b / n) c
  floor_sub = rw (div-add-mod' b n) at (digits n (b % n) (mod-lt b n>0) (b / n) c).0

  pub mod_sub : floor_mod (sub_ℕ b (c * n)) n ≡ b % n
  mod_sub = rw (div-add-mod' b n) at (digits n (b % n) (mod-lt b n>0) (b / n) c).1

pub floor_mod_lt : (z : ℤ) (n : ℕ) → 0 < n → floor_mod z n < n
floor_mod_lt (pos a) n h = mod-lt a h
floor_mod_lt (negsuc a) n h = omega arith

pub floor_divides : FloorDivides
floor_divides z n h = record { whole = by z; rest = floor_mod_lt z n h }
  where
    by : (z : ℤ) → z ≡ floor_div z n *ℤ pos n +ℤ pos (floor_mod z n)
    by (pos a) = sym (ap (λ x. x +ℤ pos (a % n)) (pos-*ℤ-pos (a / n) n) ∙ ap pos (div-add-mod' a n))
    by (negsuc a) =
        let q = a / n in
        let r = n - 1 - a % n in
        let product : negsuc q *ℤ pos n ≡ sub_ℕ (0 * n) (suc q * n) =
        ap (λ x. x *ℤ pos n) (sym (sub_neg 0 (suc q) q (omega arith))) ∙ sub_times 0 (suc q) n in
        sym (ap (λ x. x +ℤ pos r) product ∙ sub_plus (0 * n) (suc q * n) r
        ∙ sub_neg (0 * n + r) (suc q * n) a (omega (arith, div-add-mod' a n, mod-lt a h)))
