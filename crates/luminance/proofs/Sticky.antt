-- Sums cut from below, with one sticky bit that tells whether anything was cut off: how a term is added to one, and that it is stored
-- as the whole sum. Assumes nothing.
use Rattle.std.proofs.Common.{◌≡◌, ℕ, zero, suc, ◌+◌, ◌-◌, ◌*◌, ◌/◌, ◌%◌, ◌^◌, ◌<◌, ◌≤◌, min, sym, ap, ◌∙◌, subst, ap₂, lt_of_lt_of_le, mod-eq_of_lt, pow_mono, mod-lt, add_comm, pow-suc, div-add-mod', sub-add_cancel, mul-div_cancel, add-one, arith, lit<, pow_pos, shr-shr}
use native.Mathlib.Nat.{add-mul-div_right, div-eq_of_lt, add-mul-mod_self_right, div-div-eq-div-mul, mul-mod_left, pow-succ'}
use lib.Arith.{mod-mul}
use lib.Pow.{mod-pow-add}
use Rattle.number.proofs.Laws.{◌over◌, Scales, sticky_bit}

-- t / 2^k, and the sticky bit behind it
unfoldable pub jam_of : (t k : ℕ) → ℕ
jam_of t k = 2 * (t / 2 ^ k) + min 1 (t % 2 ^ k)

-- nothing is cut off a multiple of 2^k
pub jam_multiple : (v k : ℕ) → jam_of (v * 2 ^ k) k ≡ 2 * v
unfolding jam_of
jam_multiple v k = omega (arith, mul-div_cancel v (pow_pos k), mul-mod_left v (2 ^ k))

-- a multiple of 2^k is added
jam_add : (t v k : ℕ) → jam_of (t + v * 2 ^ k) k ≡ jam_of t k + 2 * v
unfolding jam_of
jam_add t v k =
    ap₂ (λ (q r : ℕ). 2 * q + min 1 r) (add-mul-div_right t v (pow_pos k)) (add-mul-mod_self_right t v (2 ^ k))
    ∙ regroup (t / 2 ^ k) (min 1 (t % 2 ^ k))
  where
    regroup : (q r : ℕ) → 2 * (q + v) + r ≡ 2 * q + r + 2 * v
    regroup q r = omega arith

-- more is cut off: s digits beside the sticky bit
jam_further : (t s k : ℕ) → jam_of t (s + k) ≡ jam_of (jam_of t k) (suc s)
unfolding jam_of
jam_further t s k =
    ap₂ (λ (q r : ℕ). 2 * q + min 1 r) (ap (λ (e : ℕ). t / 2 ^ e) (add_comm s k) ∙ sym (shr-shr t k s)) (mod-pow-add t s k)
    ∙ ap (λ (r : ℕ). 2 * (a / 2 ^ s) + r) (bit (a % 2 ^ s) (2 ^ k) r (pow_pos k))
    ∙ sym (ap₂ (λ (q r : ℕ). 2 * q + min 1 r) high low)
  where
    a : ℕ
    a = t / 2 ^ k

    r : ℕ
    r = t % 2 ^ k

    half : (2 * a + min 1 r) / 2 ≡ a
    half = omega arith

    bit : (x p r : ℕ) → 0 < p → min 1 (x * p + r) ≡ min 1 (x * 2 + min 1 r)
    bit zero p r h = omega arith
    bit (suc x) p r h = omega arith

    high : (2 * a + min 1 r) / 2 ^ suc s ≡ a / 2 ^ s
    high =
        ap (λ (p : ℕ). (2 * a + min 1 r) / p) (pow-succ' 2 s) ∙ sym (div-div-eq-div-mul (2 * a + min 1 r) 2 (2 ^ s))
        ∙ ap (λ (q : ℕ). q / 2 ^ s) half

    low : (2 * a + min 1 r) % 2 ^ suc s ≡ a % 2 ^ s * 2 + min 1 r
    low =
        ap (λ (p : ℕ). (2 * a + min 1 r) % p) (pow-suc 2 s) ∙ mod-mul (2 * a + min 1 r) (pow_pos s) (lit< tt)
        ∙ ap₂ (λ (q m : ℕ). q % 2 ^ s * 2 + m) half (omega arith)

-- the next term of a sum whose exponents rise, from e to x
pub jam_term : (t e x v : ℕ) → e ≤ x → jam_of (jam_of t e) (x - e + 1) + 2 * v ≡ jam_of (t + v * 2 ^ x) x
jam_term t e x v l =
    ap (λ (k : ℕ). jam_of (jam_of t e) k + 2 * v) (add-one (x - e))
    ∙ ap (λ (y : ℕ). y + 2 * v) (sym (jam_further t (x - e) e) ∙ ap (jam_of t) (sub-add_cancel l))
    ∙ sym (jam_add t v x)

-- the cut number over 2b is stored as the whole over b · 2^k
pub jam_scales : (t k b : ℕ) {i j M : ℕ} → 128 * b ≤ t / 2 ^ k → 0 < b
    → Scales (jam_of t k over 2 * b) i j M → Scales (t over b * 2 ^ k) i j M
unfolding jam_of
jam_scales t k b {i} {j} {M} l o s =
    subst (λ (z : ℕ). Scales (z over b * 2 ^ k) i j M) (div-add-mod' t (2 ^ k))
    (sticky_bit (t / 2 ^ k) (t % 2 ^ k) (2 ^ k) b l o (mod-lt t (pow_pos k)) s)

-- where everything is cut off
pub far : (t k : ℕ) → t < 2 ^ 63 → 64 ≤ k → 2 * (t / 2 ^ k) + min 1 (t % 2 ^ k) ≡ 0 + min 1 t
far t k h g =
    let l : t < 2 ^ k = lt_of_lt_of_le h (pow_mono {i = 63} {j = k} (omega arith)) in
    ap₂ (λ (q r : ℕ). 2 * q + min 1 r) (div-eq_of_lt l) (mod-eq_of_lt l)
