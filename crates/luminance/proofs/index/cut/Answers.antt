-- `luminance::index::cut` meets its contract. Assumes nothing.
use Rattle.std.proofs.Common.{◌≡◌, ℕ, suc, ◌+◌, ◌-◌, ◌*◌, ◌/◌, ◌^◌, ◌<◌, ◌≤◌, ap, ◌∙◌, mod-lt, div-lt_iff_lt-mul, div-add-mod', le-div_iff_mul-le, div-mul-le_self, arith, pow_pos, pow_mono, pow-add}
use native.Mathlib.Nat.{pow-succ'}
use native.Mathlib.Decide.{dec_le}
use lib.Count.{count_leading_zeros, leading_top}
use Rattle.luminance.specs.loops.Codes.{IsCut}
use Rattle.luminance.proofs.index.cut.Goals as goal

-- s below 2^(k + 13) and not below half of that
by_power : (s p : ℕ) → 0 < p → 4096 * p ≤ s → s < 8192 * p
    → (s / p * p ≤ s) × (s < (s / p + 1) * p) × (4096 ≤ s / p) × (s / p < 8192)
by_power s p o l h =
    (div-mul-le_self s p, omega (arith, div-add-mod' s p, mod-lt s o), (le-div_iff_mul-le o).1 l, (div-lt_iff_lt-mul o).1 h)

module _ (s : ℕ) (bounds : (4096 ≤ s) × (s < 2 ^ 63)) where
  top : (j : ℕ) × (count_leading_zeros 64 (2 * s + 1) + suc j ≡ 64) × (2 ^ j ≤ 2 * s + 1) × (2 * s + 1 < 2 ^ suc j)
  top = leading_top 64 (2 * s + 1) (omega arith) (omega arith)

  few : count_leading_zeros 64 (2 * s + 1) ≤ 50
  few = by (dec_le (count_leading_zeros 64 (2 * s + 1)) 50)
    where
      by : Dec (count_leading_zeros 64 (2 * s + 1) ≤ 50) → count_leading_zeros 64 (2 * s + 1) ≤ 50
      by (yes h) = h
      by (no h) = absurd (omega (arith, top.1, top.3, pow_mono {i = suc top.0} {j = 13} (omega (arith, top.1))))

  is_cut : let k = 50 - count_leading_zeros 64 (2 * s + 1) in IsCut s (s / 2 ^ k) k
  is_cut =
      let k = 50 - count_leading_zeros 64 (2 * s + 1) in
      let power : 2 ^ top.0 ≡ 2 ^ k * 2 ^ 13 = ap (λ (z : ℕ). 2 ^ z) (omega (arith, top.1, few)) ∙ pow-add 2 k 13 in
      let parts = by_power s (2 ^ k) (pow_pos k) (omega (arith, top.2)) (omega (arith, top.3, pow-succ' 2 top.0)) in
      record { low = parts.0; high = parts.1; least = parts.2; most = parts.3; within = omega arith }

pub overflow_sub-shift : goal.overflow_sub-shift
overflow_sub-shift c = few c.args.sum c.requires

pub overflow_cast-result-2 : goal.overflow_cast-result-2
overflow_cast-result-2 c = omega (arith, (is_cut c.args.sum c.requires).most)

pub returns : goal.returns
returns c = is_cut c.args.sum c.requires
