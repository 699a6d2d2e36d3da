-- A hundredth of a sum of three terms v · 2^e in units, by its cut sum with 24 places below the largest exponent. Assumes nothing.
use Rattle.std.proofs.Common.{◌≡◌, ℕ, ◌+◌, ◌-◌, ◌*◌, ◌/◌, ◌^◌, ◌≤◌, sym, refl, ap, ◌∙◌, subst, mul-le-mul_right, mul-pos, le-div_iff_mul-le, arith, lit<, pow_pos}
use Rattle.number.proofs.Laws.{
  ◌over◌,
  Stores,
  unit,
  stored_of,
  unit_pos,
  unit_power,
  fits_between,
  in_range,
  powers_into,
  powers_out,
  ratio_above,
  ratio_at_most,
  rescale,
  scales_equal,
  stored_as,
}
use Rattle.luminance.proofs.Storables.{unit_ratio, Storable, shut}
use Rattle.luminance.proofs.Sticky.{jam_of, jam_multiple, jam_scales, jam_term}

-- the terms are added from the smallest exponent on
sorted_cut : (v v' v'' e e' e'' : ℕ) → e' ≤ e → e'' ≤ e'
    → jam_of (jam_of (v'' * 2 ^ 25) (e' - e'' + 1) + v' * 2 ^ 25) (e - e' + 1) + v * 2 ^ 25
    ≡ jam_of ((v * 2 ^ e + v' * 2 ^ e' + v'' * 2 ^ e'') * 2 ^ 24) e
sorted_cut v v' v'' e e' e'' h h' =
    ap (λ (z : ℕ). jam_of z (e - e' + 1) + v * 2 ^ 25) low
    ∙ twice (jam_of (jam_of (v'' * 2 ^ 24 * 2 ^ e'' + v' * 2 ^ 24 * 2 ^ e') e') (e - e' + 1)) v
    ∙ jam_term (v'' * 2 ^ 24 * 2 ^ e'' + v' * 2 ^ 24 * 2 ^ e') e' e (v * 2 ^ 24) h
    ∙ ap (λ (z : ℕ). jam_of z e) (regroup (2 ^ e) (2 ^ e') (2 ^ e''))
  where
    twice : (j v : ℕ) → j + v * 2 ^ 25 ≡ j + 2 * (v * 2 ^ 24)
    twice j v = omega arith

    start : v'' * 2 ^ 25 ≡ jam_of (v'' * 2 ^ 24 * 2 ^ e'') e''
    start = omega (arith, jam_multiple (v'' * 2 ^ 24) e'')

    low : jam_of (v'' * 2 ^ 25) (e' - e'' + 1) + v' * 2 ^ 25 ≡ jam_of (v'' * 2 ^ 24 * 2 ^ e'' + v' * 2 ^ 24 * 2 ^ e') e'
    low =
        ap (λ (z : ℕ). jam_of z (e' - e'' + 1) + v' * 2 ^ 25) start
        ∙ twice (jam_of (jam_of (v'' * 2 ^ 24 * 2 ^ e'') e'') (e' - e'' + 1)) v'
        ∙ jam_term (v'' * 2 ^ 24 * 2 ^ e'') e'' e' (v' * 2 ^ 24) h'

    regroup : (p p' p'' : ℕ) → v'' * 2 ^ 24 * p'' + v' * 2 ^ 24 * p' + v * 2 ^ 24 * p ≡ (v * p + v' * p' + v'' * p'') * 2 ^ 24
    regroup p p' p'' = omega arith

pub cut_storable : (j k : ℕ) → (2 ^ 25 ≤ j) × (j ≤ 2 ^ 42) → (24 ≤ k) × (k ≤ 184) → Storable (unit_ratio j 200 (k - 24))
cut_storable j k l h =
    record {
      in_range = fits_between
          (ratio_above {num = j} {den = 200} {exp = k - 24} 129 (2 ^ 25) 200 0 l.0 (omega arith) (omega arith) tt)
          (ratio_at_most {num = j} {den = 200} {exp = k - 24} 127 (2 ^ 42) 200 160 l.1 (omega arith) (omega arith) tt);
    }

-- the cut sum of n · 2^24 is stored as n, where n has a term of the exponent k
module _ (n k v : ℕ) (some : 1 ≤ v) (part : v * 2 ^ k ≤ n) (low : 24 ≤ k) where
  large : 128 * 100 ≤ n * 2 ^ 24 / 2 ^ k
  large = (le-div_iff_mul-le (pow_pos k)).1 (grow (2 ^ k) part)
    where
      grow : (p : ℕ) → v * p ≤ n → 128 * 100 * p ≤ n * 2 ^ 24
      grow p h = omega (arith, mul-le-mul_right p some)

  whole : {E M : ℕ} → Stores (unit_ratio (jam_of (n * 2 ^ 24) k) 200 (k - 24)) E M → Stores (n over 100 * unit) E M
  whole {E} {M} s =
      shut (λ (u : ℕ). Stores (n over 100 * u) E M)
      (scales_equal (powers_into 0 137 (rescale
      (powers_out n 100 24 k (jam_scales (n * 2 ^ 24) k 100 large (lit< tt) (powers_out _ 200 (k - 24) 137
      (subst (λ (u : ℕ). Stores (jam_of (n * 2 ^ 24) k * 2 ^ (k - 24) over 200 * u) E M) unit_power s))))
      (omega arith)))
      (record { cross = same (2 ^ 137) }) (mul-pos {m = 100} (lit< tt) (pow_pos 137)))
    where
      same : (u : ℕ) → n * 2 ^ 0 * (100 * u) ≡ n * (100 * u)
      same u = omega arith

  cut_stored : Storable (unit_ratio (jam_of (n * 2 ^ 24) k) 200 (k - 24))
      → stored_of (unit_ratio (jam_of (n * 2 ^ 24) k) 200 (k - 24)) ≡ stored_of (n over 100 * unit)
  cut_stored s = sym (stored_as (whole (in_range s.in_range)) (record { cross = refl }) (mul-pos {m = 100} (lit< tt) unit_pos))

-- so is what the additions leave of three terms
pub sorted_stored : (v v' v'' e e' e'' low sum : ℕ)
    → low ≡ jam_of (v'' * 2 ^ 25) (e' - e'' + 1) + v' * 2 ^ 25 → sum ≡ jam_of low (e - e' + 1) + v * 2 ^ 25
    → e' ≤ e → e'' ≤ e' → 24 ≤ e → 1 ≤ v → Storable (unit_ratio sum 200 (e - 24))
    → stored_of (unit_ratio sum 200 (e - 24)) ≡ stored_of (v * 2 ^ e + v' * 2 ^ e' + v'' * 2 ^ e'' over 100 * unit)
sorted_stored v v' v'' e e' e'' low sum f g h h' least some s =
    ap (λ (z : ℕ). stored_of (unit_ratio z 200 (e - 24))) cut
    ∙ cut_stored n e v some (part (v * 2 ^ e)) least (subst (λ (z : ℕ). Storable (unit_ratio z 200 (e - 24))) cut s)
  where
    n : ℕ
    n = v * 2 ^ e + v' * 2 ^ e' + v'' * 2 ^ e''

    cut : sum ≡ jam_of (n * 2 ^ 24) e
    cut = g ∙ ap (λ (z : ℕ). jam_of z (e - e' + 1) + v * 2 ^ 25) f ∙ sorted_cut v v' v'' e e' e'' h h'

    part : (x : ℕ) → x ≤ x + v' * 2 ^ e' + v'' * 2 ^ e''
    part x = omega arith
