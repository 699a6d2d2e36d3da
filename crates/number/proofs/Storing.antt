-- The laws of storing. `exponent_of` and `mantissa_of` are opened here and nowhere else. Assumes nothing.
use Rattle.std.proofs.Common.{◌≡◌, ℕ, zero, suc, ◌+◌, ◌-◌, ◌*◌, ◌/◌, ◌^◌, ◌<◌, ◌≤◌, Bool, true, false, T, ltb, leb, ◌↔◌, pos, sym, refl, ap, ◌∙◌, subst, ap₂, subst₂, ⊎_elim, le_trans, lt_trans, le_refl, lt_of_lt_of_le, le_of_suc-le-suc, lt_of_le_of_lt, lt_irrefl, mul-le-mul_right, div-lt_iff_lt-mul, mul-le-mul, eq-or-lt_of_le, mul-le-mul_left, mul-lt-mul_of_pos_right, lt_of_not-le, le-div_iff_mul-le, not-le_of_lt, le-mul_of_pos_right, arith, lit<, ltb→lt, leb→le, pow_pos, pow_mono, le-ltb, leb-false, leb-true}
use native.Mathlib.Nat.{pow-succ'}
use native.Mathlib.Decide.{dec_le}
use lib.Ieee.{size}
use lib.Ieee.Digits.{size-lt, size_reaches}
use Rattle.number.specs.Fractions.{Frac, ◌over◌, two_to_minus, two_to, Equal, AtMost, Below, at_most}
use Rattle.number.specs.Storing.{
  exponent_at,
  Scales,
  scaled_worth,
  IsMantissa,
  Stores,
  unit,
  worth,
  exponent_of,
  mantissa_of,
  stored_of,
  ratio_of,
}
use Rattle.number.specs.Claims.{Near, StoresByRule}
use Rattle.number.proofs.Scaling.{
  denominator_pos,
  scales_equal,
  steep,
  unique_powers,
  unique_mantissa,
  worth_mono,
  is_mantissa,
  promised,
}
use Rattle.number.proofs.Ranges.{small, within, large, small_at, within_at, large_at}
use Rattle.std.specs.Prelude.{None, Some}

pub unit_pos : 0 < unit
unfolding unit
unit_pos = lit< tt

pub unit_power : unit ≡ 2 ^ 137
unfolding unit
unit_power = refl

-- ---- an exponent that is not negative, and worths in units

pub exponent_natural : (E : ℕ) → exponent_at 128 E ≡ pos E
exponent_natural E = rw (le-ltb (128 + E) 128 (omega arith)) (ap pos (omega arith))

pub worth_scaled : (E M : ℕ) → worth E M ≡ scaled_worth 128 E M
unfolding unit
worth_scaled E M = refl

pub near : {F : Frac} {E M : ℕ} → Stores F E M → Near F (worth E M)
near {F} {E} {M} s = subst (Near F) (sym (worth_scaled E M)) (promised F 128 E M s).near

-- the numbers 256E + M go in the order of the worths
code_less : (E M E' M' : ℕ) → IsMantissa M → IsMantissa M' → 256 * E + M < 256 * E' + M' → Below (worth E M) (worth E' M')
code_less E M E' M' m m' g =
    let upward : E ≤ E' = omega arith in
    record { cross = mul-lt-mul_of_pos_right (⊎_elim level (steep E E' M M' m m') (eq-or-lt_of_le upward)) unit_pos }
  where
    level : E ≡ E' → (2 * M + 1) * 2 ^ E < (2 * M' + 1) * 2 ^ E'
    level e =
        subst (λ (z : ℕ). (2 * M + 1) * 2 ^ E < (2 * M' + 1) * 2 ^ z) e (mul-lt-mul_of_pos_right (omega arith) (pow_pos E))

pub code_order : (E M E' M' : ℕ) → IsMantissa M → IsMantissa M' → (256 * E + M < 256 * E' + M') ↔ Below (worth E M) (worth E' M')
code_order E M E' M' m m' = (code_less E M E' M' m m', λ h. lt_of_not-le (λ g. ⊎_elim (equal h) (greater h) (eq-or-lt_of_le g)))
  where
    equal : Below (worth E M) (worth E' M') → 256 * E' + M' ≡ 256 * E + M → ⊥
    equal h e = lt_irrefl _ (subst₂ (λ (x y : ℕ). Below (worth E M) (worth x y)) (omega arith) (omega arith) h).cross

    greater : Below (worth E M) (worth E' M') → 256 * E' + M' < 256 * E + M → ⊥
    greater h l = lt_irrefl _ (lt_trans h.cross (code_less E' M' E M m' m l).cross)

-- and so do the tests
pub by_code : (E M E' M' : ℕ) → IsMantissa M → IsMantissa M' → leb (256 * E + M) (256 * E' + M') ≡ at_most (worth E M) (worth E' M')
by_code E M E' M' m m' = by (leb (256 * E + M) (256 * E' + M')) (at_most (worth E M) (worth E' M')) refl refl
  where
    order : (256 * E' + M' < 256 * E + M) ↔ Below (worth E' M') (worth E M)
    order = code_order E' M' E M m' m

    by : (b c : Bool) → leb (256 * E + M) (256 * E' + M') ≡ b → at_most (worth E M) (worth E' M') ≡ c → b ≡ c
    by true true e f = refl
    by true false e f = absurd (not-le_of_lt (order.1 (record { cross = leb-false _ _ f })) (leb-true _ _ e))
    by false true e f = absurd (not-le_of_lt (order.0 (leb-false _ _ e)).cross (leb-true _ _ f))
    by false false e f = refl

-- and so what is stored of the larger number has no smaller one
pub code_mono : {F G : Frac} {E M E' M' : ℕ} → Stores F E M → Stores G E' M' → AtMost F G → 256 * E + M ≤ 256 * E' + M'
code_mono {F} {G} {E} {M} {E'} {M'} s t h =
    le_of_suc-le-suc (lt_of_not-le (λ g.
    lt_irrefl _ (lt_of_le_of_lt
    (subst₂ AtMost (sym (worth_scaled E M)) (sym (worth_scaled E' M')) (worth_mono s t h)).cross
    (code_less E' M' E M (is_mantissa t) (is_mantissa s) g).cross)))

-- ---- `exponent_of` and `mantissa_of` store

-- the digits of (N - 1) / d, for N / d above 1/2
least : (N d E : ℕ) → 0 < d → d < 2 * N → ((j : ℕ) → j < E → 2 ^ j ≤ (N - 1) / d) → d * 2 ^ E < 2 * N
least N d zero p a f = omega arith
least N d (suc e) p a f = rw (pow-succ' 2 e) (twice (2 ^ e) ((le-div_iff_mul-le p).0 (f e (le_refl (suc e)))))
  where
    twice : (q : ℕ) → q * d ≤ N - 1 → d * (2 * q) < 2 * N
    twice q h = omega arith

-- every number above 2^-129, so above 2^-k for a smaller k
pub stored : (F : Frac) (k : ℕ) → k ≤ 129 → 0 < F.den → Below (two_to_minus k) F → Stores F (exponent_of F) (mantissa_of F)
unfolding exponent_of mantissa_of
stored F k l p a =
    let q = (F.num * 2 ^ 128 - 1) / F.den in
    record {
      normalised = record {
        above_half = least (F.num * 2 ^ 128) F.den (size q) p
            (double (2 ^ 128) (lt_of_lt_of_le a.cross (mul-le-mul_left F.num (pow_mono l)))) (size_reaches q);
        at_most_one = upper (F.num * 2 ^ 128) (2 ^ size q) ((div-lt_iff_lt-mul p).0 (size-lt q));
        digits = refl;
      };
    }
  where
    double : (B : ℕ) → 1 * F.den < F.num * (B * 2) → F.den < 2 * (F.num * B)
    double B h = omega arith

    upper : (N b : ℕ) → N - 1 < b * F.den → N ≤ F.den * b
    upper N b h = omega arith

pub stores_by_rule : StoresByRule
stores_by_rule F p a = stored F 129 (le_refl 129) p a

-- whoever stores F has what the functions give for every fraction equal to it
pub stored_as : {F G : Frac} {E M : ℕ} → Stores F E M → Equal F G → 0 < G.den → stored_of G ≡ record { exponent = E; mantissa = M }
stored_as {F} {G} {E} {M} s e p =
    ap₂ (λ (x m : ℕ). record { exponent = x; mantissa = m }) (omega (arith, unique_powers u t itself)) (unique_mantissa u t itself)
  where
    itself : Equal G G
    itself = record { cross = refl }

    t : Stores G E M
    t = scales_equal s e p

    halve : (B q : ℕ) → 0 < q → G.den * q < 2 * (G.num * B) → 1 * G.den < G.num * (B * 2)
    halve B q o h = omega (arith, le-mul_of_pos_right G.den o)

    u : Stores G (exponent_of G) (mantissa_of G)
    u = stores_by_rule G p (record { cross = halve (2 ^ 128) (2 ^ E) (pow_pos E) t.normalised.above_half })

-- ---- storing where the exponent fits eight bits

pub too_small_at : {F : Frac} {i j M : ℕ} → Scales F i j M → j + 129 ≤ i → ratio_of F ≡ None
unfolding ratio_of
too_small_at s h = small_at _ _ _ _ _ _ s h

pub fits_at : {F : Frac} {E M : ℕ} → Stores F E M → E ≤ 255 → ratio_of F ≡ Some (record { exponent = E; mantissa = M })
unfolding ratio_of
fits_at s h = within_at _ _ _ _ _ _ s (omega arith) h ∙ ap Some (stored_as s (record { cross = refl }) (denominator_pos s))

pub too_large_at : {F : Frac} {E M : ℕ} → Stores F E M → 255 < E → ratio_of F ≡ None
unfolding ratio_of
too_large_at s h = large_at _ _ _ _ _ _ s h

-- what is answered in range is stored
pub in_range : {F : Frac} → ratio_of F ≡ Some (stored_of F) → Stores F (exponent_of F) (mantissa_of F)
unfolding ratio_of
in_range {F} e = by (dec_le (F.num * 2 ^ 129) (1 * F.den)) (dec_le (F.num * 1) (2 ^ 127 * F.den))
  where
    positive : (n d a b : ℕ) → 1 * d < n * a → n * 1 ≤ b * d → 0 < d
    positive n zero a b h k = omega (arith, mul-le-mul_right a k)
    positive n (suc d) a b h k = omega arith

    distinct : None ≡ Some (stored_of F) → ⊥
    distinct h = let clash : suc zero ≡ zero = cc in omega arith

    by : Dec (F.num * 2 ^ 129 ≤ 1 * F.den) → Dec (F.num * 1 ≤ 2 ^ 127 * F.den) → Stores F (exponent_of F) (mantissa_of F)
    by (yes h) _ = absurd (distinct (sym (small 129 127 F _ _ _ (record { cross = h })) ∙ e))
    by (no g) (no h) = absurd (distinct (sym (large 129 127 F _ _ _ (record { cross = lt_of_not-le h })) ∙ e))
    by (no g) (yes h) =
        stores_by_rule F (positive F.num F.den (2 ^ 129) (2 ^ 127) (lt_of_not-le g) h) (record { cross = lt_of_not-le g })

-- and so is every fraction equal to it, alike
module _ {F G : Frac} (r : ratio_of F ≡ Some (stored_of F)) (e : Equal F G) (p : 0 < G.den) where
  pub stored_alike : stored_of G ≡ stored_of F
  stored_alike = stored_as (in_range r) e p

  pub stores_alike : Stores G (exponent_of G) (mantissa_of G)
  stores_alike = subst (λ s. Stores G s.exponent s.mantissa) (sym stored_alike) (scales_equal (in_range r) e p)

pub fits_between : {F : Frac} → Below (two_to_minus 129) F → AtMost F (two_to 127) → ratio_of F ≡ Some (stored_of F)
unfolding ratio_of
fits_between g h = within _ _ _ _ _ _ g h

-- num / den · 2^exp in units against a power of two, by bounds on the three; the test is on closed numbers and computes
pub ratio_above : {num den exp : ℕ} (k n d e : ℕ) → n ≤ num → den ≤ d → e ≤ exp
    → T (ltb (1 * (d * 2 ^ 137)) (n * 2 ^ e * 2 ^ k)) → Below (two_to_minus k) (num * 2 ^ exp over den * unit)
unfolding unit
ratio_above k n d e hn hd he t =
    record {
      cross = lt_of_le_of_lt (mul-le-mul_left 1 (mul-le-mul_right (2 ^ 137) hd))
          (lt_of_lt_of_le (ltb→lt _ _ t) (mul-le-mul_right (2 ^ k) (mul-le-mul hn (pow_mono he))));
    }

pub ratio_at_most : {num den exp : ℕ} (k n d e : ℕ) → num ≤ n → d ≤ den → exp ≤ e
    → T (leb (n * 2 ^ e * 1) (2 ^ k * (d * 2 ^ 137))) → AtMost (num * 2 ^ exp over den * unit) (two_to k)
unfolding unit
ratio_at_most k n d e hn hd he t =
    record {
      cross = le_trans (mul-le-mul_right 1 (mul-le-mul hn (pow_mono he)))
          (le_trans (leb→le _ _ t) (mul-le-mul_left (2 ^ k) (mul-le-mul_right (2 ^ 137) hd)));
    }
