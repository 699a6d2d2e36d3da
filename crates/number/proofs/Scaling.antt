-- Laws of `Scales`, for any rational: the same number written otherwise, the thresholds of the exponent, two numbers, what is promised.
-- Assumes nothing.
use Rattle.std.proofs.Common.{◌≡◌, ℕ, suc, ◌+◌, ◌-◌, ◌*◌, ◌^◌, ◌<◌, ◌≤◌, ◌↔◌, sym, ap, ◌∙◌, subst, ap₂, ⊎_elim, le_trans, le_of_eq, le_of_suc-le-suc, le_of_lt, mul-le-mul_right, mul_assoc, le_antisymm, lt_of_mul-lt-mul_right, eq-or-lt_of_le, mul-le-mul_left, mul-lt-mul_of_pos_right, mul-pos, lt_of_not-le, not-le_of_lt, le-mul_of_pos_right, arith, pow_pos, pow_mono, pow-add}
use native.Mathlib.Nat.{mul-mul-mul_comm, pow-succ'}
use Rattle.number.specs.Fractions.{Frac, ◌over◌, two_to_minus, two_to, Equal, AtMost, Below}
use Rattle.number.specs.Storing.{exponent_at, Normalised, Scales, scaled_worth, IsMantissa}
use Rattle.number.specs.Claims.{Near, StoredIsNear}
use Rattle.number.proofs.Differences.{same_difference}
use Rattle.number.proofs.Normalised.{divisor_pos, mantissa, floor, ceiling, ratio, mantissa_mono}

-- a factor of a positive product
left_pos : (a b : ℕ) → 0 < a * b → 0 < a
left_pos a b h = lt_of_mul-lt-mul_right b (omega arith)

pow_split : (n a b : ℕ) → n * 2 ^ (a + b) ≡ n * 2 ^ a * 2 ^ b
pow_split n a b = ap (λ (z : ℕ). n * z) (pow-add 2 a b) ∙ sym (mul_assoc n (2 ^ a) (2 ^ b))

-- ---- the same number, written otherwise

module _ {F : Frac} {i j M : ℕ} (s : Scales F i j M) where
  pub denominator_pos : 0 < F.den
  denominator_pos = left_pos F.den (2 ^ j) (divisor_pos s.normalised)

  transfer : {G : Frac} {i' j' : ℕ} → F.num * 2 ^ i * (G.den * 2 ^ j') ≡ G.num * 2 ^ i' * (F.den * 2 ^ j) → 0 < G.den
      → Scales G i' j' M
  transfer {j' = j'} e p = record { normalised = ratio s.normalised e (mul-pos p (pow_pos j')) }

  -- equal fractions are scaled alike
  pub scales_equal : {G : Frac} → Equal F G → 0 < G.den → Scales G i j M
  scales_equal {G} e p = transfer (cross (2 ^ i) (2 ^ j)) p
    where
      cross : (a b : ℕ) → F.num * a * (G.den * b) ≡ G.num * a * (F.den * b)
      cross a b = omega (arith, ap (λ (z : ℕ). z * (a * b)) e.cross)

  -- only the difference of i and j counts
  pub rescale : {i' j' : ℕ} → i + j' ≡ i' + j → Scales F i' j' M
  rescale {i'} {j'} e = transfer (cross i j' ∙ ap (λ (k : ℕ). F.num * F.den * 2 ^ k) e ∙ sym (cross i' j)) denominator_pos
    where
      cross : (a b : ℕ) → F.num * 2 ^ a * (F.den * 2 ^ b) ≡ F.num * F.den * 2 ^ (a + b)
      cross a b = mul-mul-mul_comm F.num (2 ^ a) F.den (2 ^ b) ∙ ap (λ (z : ℕ). F.num * F.den * z) (sym (pow-add 2 a b))

-- powers of two go into the numerator and the denominator
pub powers_into : {n d i j M : ℕ} (a b : ℕ) → Scales (n over d) (a + i) (b + j) M → Scales (n * 2 ^ a over d * 2 ^ b) i j M
powers_into {n} {d} {i} {j} a b s =
    transfer s (ap₂ ◌*◌ (pow_split n a i) (sym (pow_split d b j))) (mul-pos (denominator_pos s) (pow_pos b))

-- of a whole number
pub whole_powers_into : {m i j M : ℕ} (a b : ℕ) → Scales (m over 1) (a + i) (b + j) M → Scales (m * 2 ^ a over 2 ^ b) i j M
whole_powers_into a b s = scales_equal (powers_into a b s) (record { cross = omega arith }) (pow_pos b)

-- and out of them
pub powers_out : (n d a b : ℕ) {i j M : ℕ} → Scales (n * 2 ^ a over d * 2 ^ b) i j M → Scales (n over d) (a + i) (b + j) M
powers_out n d a b {i} {j} s =
    transfer s (ap₂ ◌*◌ (sym (pow_split n a i)) (pow_split d b j)) (left_pos d (2 ^ b) (denominator_pos s))

-- a factor 2^k moves only the exponent
pub shift_exponent : {n d i j M : ℕ} (k : ℕ) → Scales (n over d) i j M → Scales (n * 2 ^ k over d) i (j + k) M
shift_exponent k s = scales_equal (powers_into k 0 (rescale s (omega arith))) (record { cross = omega arith }) (denominator_pos s)

-- ---- the thresholds of the exponent: F against 2^-k (down) and 2^k (up)

apart : {F G : Frac} → AtMost F G → Below G F → ⊥
apart a b = not-le_of_lt b.cross a.cross

module _ {F : Frac} {i j M : ℕ} (s : Scales F i j M) (k : ℕ) where
  low : j + k ≤ i → AtMost F (two_to_minus k)
  low h =
      record {
        cross = le_trans (mul-le-mul_left F.num (pow_mono {j = i - j} (omega arith)))
            (omega (arith, (rescale s {i' = i - j} {j' = 0} (omega arith)).normalised.at_most_one));
      }

  over_low : i < j + k → Below (two_to_minus k) F
  over_low h =
      record {
        cross = omega (
          arith,
          mul-le-mul_left F.den (pow_mono {i = 1} {j = j + k - i} (omega arith)),
          (rescale s {i' = k} {j' = j + k - i} (omega arith)).normalised.above_half,
        );
      }

  high : j ≤ i + k → AtMost F (two_to k)
  high h =
      record {
        cross = omega (
          arith,
          le-mul_of_pos_right F.num (pow_pos (i + k - j)),
          (rescale s {i' = i + k - j} {j' = k} (omega arith)).normalised.at_most_one,
        );
      }

  over_high : i + k < j → Below (two_to k) F
  over_high h =
      record {
        cross = omega (
          arith,
          mul-le-mul_left F.den (pow_mono {i = suc k} {j = j - i} (omega arith)),
          (rescale s {i' = 0} {j' = j - i} (omega arith)).normalised.above_half,
          ap (λ (z : ℕ). F.den * z) (pow-succ' 2 k),
        );
      }

  pub at_most_down : (j + k ≤ i) ↔ AtMost F (two_to_minus k)
  at_most_down = (low, λ h. le_of_suc-le-suc (lt_of_not-le (λ g. apart h (over_low g))))

  pub above_down : (i < j + k) ↔ Below (two_to_minus k) F
  above_down = (over_low, λ h. lt_of_not-le (λ g. apart (low g) h))

  pub at_most_up : (j ≤ i + k) ↔ AtMost F (two_to k)
  at_most_up = (high, λ h. le_of_suc-le-suc (lt_of_not-le (λ g. apart h (over_high g))))

  pub above_up : (i + k < j) ↔ Below (two_to k) F
  above_up = (over_high, λ h. lt_of_not-le (λ g. apart (high g) h))

-- ---- two numbers

-- a larger exponent has the larger worth, whatever the mantissas
pub steep : (j j' M M' : ℕ) → IsMantissa M → IsMantissa M' → j < j' → (2 * M + 1) * 2 ^ j < (2 * M' + 1) * 2 ^ j'
steep j j' M M' m m' g = less (2 ^ j) (2 ^ j') (pow_pos j) (le_trans (le_of_eq (sym (pow-succ' 2 j))) (pow_mono g))
  where
    less : (p q : ℕ) → 0 < p → 2 * p ≤ q → (2 * M + 1) * p < (2 * M' + 1) * q
    less p q o k = omega (arith, mul-le-mul_right p m.most, mul-le-mul_right q m'.least)

module _ {F G : Frac} {i j M j' M' : ℕ} (s : Scales F i j M) (t : Scales G i j' M') (h : AtMost F G) where
  -- the larger has no smaller exponent
  exponent_mono : j ≤ j'
  exponent_mono =
      le_of_suc-le-suc (lt_of_not-le (λ (g : suc j' ≤ j).
      clash F.num F.den G.num G.den (2 ^ i) (2 ^ j') (2 ^ j)
      s.normalised.above_half t.normalised.at_most_one h.cross
      (le_trans (le_of_eq (sym (pow-succ' 2 j'))) (pow_mono g)) (denominator_pos t)))
    where
      clash : (n d n' d' B p q : ℕ) → d * q < 2 * (n * B) → n' * B ≤ d' * p → n * d' ≤ n' * d → 2 * p ≤ q → 0 < d' → ⊥
      clash n d n' d' B p q a b h g k =
          omega (arith, mul-lt-mul_of_pos_right a k, mul-le-mul_right d b, mul-le-mul_right B h, mul-le-mul_right (d * d') g)

  -- and at the same exponent no smaller mantissa
  same_exponent_mono : j ≡ j' → M ≤ M'
  same_exponent_mono e =
      mantissa_mono s.normalised t.normalised
      (subst (λ (z : ℕ). F.num * 2 ^ i * (G.den * 2 ^ z) ≤ G.num * 2 ^ i * (F.den * 2 ^ j)) e (widen (2 ^ i) (2 ^ j)))
    where
      widen : (B q : ℕ) → F.num * B * (G.den * q) ≤ G.num * B * (F.den * q)
      widen B q = omega (arith, mul-le-mul_right (B * q) h.cross)

  -- so storing is monotone in the worth
  pub worth_mono : AtMost (scaled_worth i j M) (scaled_worth i j' M')
  worth_mono = record { cross = mul-le-mul_right (2 ^ (i + 9)) (⊎_elim level higher (eq-or-lt_of_le exponent_mono)) }
    where
      level : j ≡ j' → (2 * M + 1) * 2 ^ j ≤ (2 * M' + 1) * 2 ^ j'
      level e =
          subst (λ (z : ℕ). (2 * M + 1) * 2 ^ j ≤ (2 * M' + 1) * 2 ^ z) e
          (mul-le-mul_right (2 ^ j) (omega (arith, same_exponent_mono e)))

      higher : j < j' → (2 * M + 1) * 2 ^ j ≤ (2 * M' + 1) * 2 ^ j'
      higher l = le_of_lt (steep j j' M M' (mantissa s.normalised) (mantissa t.normalised) l)

-- equal numbers have one exponent and one mantissa
module _ {F G : Frac} {i j M i' j' M' : ℕ} (s : Scales F i j M) (t : Scales G i' j' M') (e : Equal F G) where
  a : Scales F (i + i') (j + i') M
  a = rescale s (omega arith)

  b : Scales G (i + i') (j' + i) M'
  b = rescale t (omega arith)

  up : AtMost F G
  up = record { cross = le_of_eq e.cross }

  down : AtMost G F
  down = record { cross = le_of_eq (sym e.cross) }

  pub unique_powers : j + i' ≡ j' + i
  unique_powers = le_antisymm (exponent_mono a b up) (exponent_mono b a down)

  pub unique_exponent : exponent_at i j ≡ exponent_at i' j'
  unique_exponent = same_difference (128 + j) i (128 + j') i' (omega (arith, unique_powers))

  pub unique_mantissa : M ≡ M'
  unique_mantissa = le_antisymm (same_exponent_mono a b up unique_powers) (same_exponent_mono b a down (sym unique_powers))

-- ---- what storing promises

-- M + 1/2 is the middle of the 256th part in which x / u lies
error : {x u M : ℕ} → Normalised x u M → (255 * (2 * x) < (2 * M + 1) * u) × ((2 * M + 1) * u < 257 * (2 * x))
error s = (omega (arith, ceiling s), omega (arith, floor s))

pub is_mantissa : {F : Frac} {i j M : ℕ} → Scales F i j M → IsMantissa M
is_mantissa s = mantissa s.normalised

pub promised : StoredIsNear
promised F i j M s =
    record {
      least = (is_mantissa s).least;
      most = (is_mantissa s).most;
      near = near (2 ^ i) (2 ^ j) (2 ^ (i + 9)) (pow-add 2 i 9) (error s.normalised);
    }
  where
    near : (p q u : ℕ) → u ≡ p * 512
        → (255 * (2 * (F.num * p)) < (2 * M + 1) * (F.den * q)) × ((2 * M + 1) * (F.den * q) < 257 * (2 * (F.num * p)))
        → Near F ((2 * M + 1) * q over u)
    near p q u e h = let raised : F.num * u ≡ F.num * p * 512 = omega (arith, ap (λ (z : ℕ). F.num * z) e) in omega arith

-- a worth is stored as itself
pub idempotent : (i j M : ℕ) → IsMantissa M → Scales (scaled_worth i j M) i j M
idempotent i j M m = whole_powers_into j (i + 9) (rescale {i = 0} {j = 9} (record { normalised = omega arith }) (omega arith))
