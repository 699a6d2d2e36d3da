-- Bounds on products and shifted numbers; a power of two of a difference. Assumes nothing.
use Rattle.std.proofs.Common.{◌≡◌, ℕ, ◌-◌, ◌*◌, ◌^◌, ◌≤◌, sym, ap, ◌∙◌, mul-le-mul, sub-add_cancel, pow_mono, pow-add}

pub product_between : (a b c d x y : ℕ) → (a ≤ x) × (x ≤ b) → (c ≤ y) × (y ≤ d) → (a * c ≤ x * y) × (x * y ≤ b * d)
product_between a b c d x y h k = (mul-le-mul h.0 k.0, mul-le-mul h.1 k.1)

pub shift_most : (v s a b : ℕ) → v ≤ a → s ≤ b → v * 2 ^ s ≤ a * 2 ^ b
shift_most v s a b h k = mul-le-mul h (pow_mono k)

pub power_difference : (a b : ℕ) → b ≤ a → 2 ^ (a - b) * 2 ^ b ≡ 2 ^ a
power_difference a b h = sym (pow-add 2 (a - b) b) ∙ ap (λ (z : ℕ). 2 ^ z) (sub-add_cancel h)
