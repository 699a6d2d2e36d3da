-- Cutting a number without losing on which side of a boundary it lies. Assumes nothing.
use Rattle.std.proofs.Common.{◌≡◌, ℕ, ◌+◌, ◌-◌, ◌*◌, ◌^◌, ◌<◌, ◌≤◌, min, sym, ap, ◌∙◌, subst, ⊎_elim, lt_of_lt_of_le, lt_of_le_of_lt, le_of_lt, mul-le-mul_right, add-sub_of_le, eq-zero-or-pos, lt_of_mul-lt-mul_right, mul-lt-mul_of_pos_right, mul-pos, lt_of_not-le, arith, pow_pos, pow-add}
use Rattle.number.specs.Fractions.{Frac, ◌over◌, Below}
use Rattle.number.specs.Storing.{Normalised, Scales}
use Rattle.number.proofs.Normalised.{mantissa, floor, ceiling, cell}
use Rattle.number.proofs.Scaling.{scales_equal, at_most_up}

-- F lies strictly between the neighbours a / b and (a + 1) / b
record Between (a b : ℕ) (F : Frac) : Type 0 where
  lower : Below (a over b) F
  upper : Below F (a + 1 over b)

-- between the same neighbours, for a b that is a multiple of 256, the mantissa is the same
module _ {x u M : ℕ} (x' u' a g : ℕ) (s : Normalised x u M)
    (h : Between a (256 * g) (x over u)) (h' : Between a (256 * g) (x' over u')) where
  above : (c : ℕ) → c * u ≤ x * (256 * g) → c * u' < x' * (256 * g)
  above c l =
      let most : c < a + 1 = lt_of_mul-lt-mul_right u (lt_of_le_of_lt l h.upper.cross) in
      lt_of_le_of_lt (mul-le-mul_right u' (omega arith)) h'.lower.cross

  below : (c : ℕ) → x * (256 * g) ≤ c * u → x' * (256 * g) < c * u'
  below c l =
      let least : a < c = lt_of_mul-lt-mul_right u (lt_of_lt_of_le h.lower.cross l) in
      lt_of_lt_of_le h'.upper.cross (mul-le-mul_right u' (omega arith))

  neighbours : Normalised x' u' M
  neighbours =
      cell
      (lt_of_mul-lt-mul_right (128 * g) (omega (arith, above (128 * g) (omega (arith, mul-le-mul_right (128 * g) s.above_half)))))
      (mantissa s).most
      (le_of_lt (lt_of_mul-lt-mul_right g (omega (arith, above (M * g) (omega (arith, mul-le-mul_right g (floor s)))))))
      (lt_of_mul-lt-mul_right g (omega (arith, below ((M + 1) * g) (omega (arith, mul-le-mul_right g (ceiling s))))))

-- two numbers between the same neighbours, of at least 128, have the same exponent and mantissa
sticky : {F G : Frac} {i j M a b : ℕ} → Scales F i j M → 128 * b ≤ a → Between a b F → Between a b G → Scales G i j M
sticky {F} {G} {i} {j} {M} {a} {b} s l h h' =
    record { normalised = neighbours (G.num * 2 ^ i) (G.den * 2 ^ j) a (b * 2 ^ k) s.normalised (widen h) (widen h') }
  where
    k : ℕ
    k = j - (i + 8)

    large : i + 8 ≤ j
    large = omega (arith, lt_of_not-le (λ (g : j ≤ i + 7). clash ((at_most_up s 7).0 g).cross))
      where
        clash : F.num * 1 ≤ 2 ^ 7 * F.den → ⊥
        clash g = omega (arith, h.lower.cross, mul-le-mul_right b g, mul-le-mul_right F.den l)

    grid : 2 ^ i * (256 * (b * 2 ^ k)) ≡ b * 2 ^ j
    grid =
        let split : 2 ^ j ≡ 2 ^ i * 256 * 2 ^ k =
        ap (λ (z : ℕ). 2 ^ z) (sym (add-sub_of_le large)) ∙ pow-add 2 (i + 8) k ∙ ap (λ (z : ℕ). z * 2 ^ k) (pow-add 2 i 8) in
        omega (arith, ap (λ (z : ℕ). b * z) split)

    widen : {H : Frac} → Between a b H → Between a (256 * (b * 2 ^ k)) (H.num * 2 ^ i over H.den * 2 ^ j)
    widen {H} t = stretch (2 ^ i) (2 ^ j) (256 * (b * 2 ^ k)) (pow_pos j) grid
      where
        stretch : (p q w : ℕ) → 0 < q → p * w ≡ b * q → Between a w (H.num * p over H.den * q)
        stretch p q w o f =
            record {
              lower = record { cross = omega (arith, ap (λ (z : ℕ). H.num * z) f, mul-lt-mul_of_pos_right t.lower.cross o) };
              upper = record { cross = omega (arith, ap (λ (z : ℕ). H.num * z) f, mul-lt-mul_of_pos_right t.upper.cross o) };
            }

-- The number (a · p + r) / (b · p), with r below p, may be cut to a / b with one binary digit more, the sticky bit, which says whether
-- r is not 0: what is stored is the same.
pub sticky_bit : (a r p b : ℕ) {i j M : ℕ} → 128 * b ≤ a → 0 < b → r < p
    → Scales (2 * a + min 1 r over 2 * b) i j M → Scales (a * p + r over b * p) i j M
sticky_bit a r p b l o q s =
    ⊎_elim (λ e. scales_equal s (record { cross = exact e }) (mul-pos o (omega arith))) (λ h. sticky s l (half_way h) (inside h))
    (eq-zero-or-pos r)
  where
    exact : r ≡ 0 → (2 * a + min 1 r) * (b * p) ≡ (a * p + r) * (2 * b)
    exact e = ap (λ (m : ℕ). (2 * a + min 1 m) * (b * p)) e ∙ omega (arith, ap (λ (z : ℕ). z * b) e)

    half_way : 0 < r → Between a b (2 * a + min 1 r over 2 * b)
    half_way h =
        let one : 1 ≡ min 1 r = omega arith in
        subst (λ (m : ℕ). Between a b (2 * a + m over 2 * b)) one (omega arith)

    inside : 0 < r → Between a b (a * p + r over b * p)
    inside h =
        record {
          lower = record { cross = omega (arith, mul-lt-mul_of_pos_right h o) };
          upper = record { cross = omega (arith, mul-lt-mul_of_pos_right q o) };
        }
