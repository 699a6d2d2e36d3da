-- Laws of `by_range`: the answer by where x lies, and by the exponent that scales x. Assumes nothing.
use Rattle.std.proofs.Common.{◌≡◌, ℕ, ◌+◌, ◌*◌, ◌^◌, ◌<◌, ◌≤◌, lt_of_lt_of_le, lt_of_le_of_lt, mul-le-mul_right, mul-le-mul_left, pow_pos, le-leb}
use borrow.Author.Tests.{lt-leb}
use Rattle.number.specs.Fractions.{Frac, two_to_minus, two_to, AtMost, Below, by_range}
use Rattle.number.specs.Storing.{Scales}
use Rattle.number.proofs.Scaling.{at_most_down, above_down, at_most_up, above_up}

module _ {A : Type 0} (k l : ℕ) (x : Frac) (a b c : A) where
  pub small : AtMost x (two_to_minus k) → by_range k l x a b c ≡ a
  unfolding by_range
  small h = simp (le-leb _ _ h.cross)

  pub within : Below (two_to_minus k) x → AtMost x (two_to l) → by_range k l x a b c ≡ b
  unfolding by_range
  within g h = simp (lt-leb _ _ g.cross, le-leb _ _ h.cross)

  pub large : Below (two_to l) x → by_range k l x a b c ≡ c
  unfolding by_range
  large h = simp (lt-leb (x.num * 2 ^ k) (1 * x.den) beyond, lt-leb _ _ h.cross)
    where
      beyond : 1 * x.den < x.num * 2 ^ k
      beyond =
          lt_of_le_of_lt (mul-le-mul_right x.den (pow_pos l)) (lt_of_lt_of_le h.cross (mul-le-mul_left x.num (pow_pos k)))

  module _ {i j M : ℕ} (s : Scales x i j M) where
    pub small_at : j + k ≤ i → by_range k l x a b c ≡ a
    small_at h = small ((at_most_down s k).0 h)

    pub within_at : i < j + k → j ≤ i + l → by_range k l x a b c ≡ b
    within_at g h = within ((above_down s k).0 g) ((at_most_up s l).0 h)

    pub large_at : i + l < j → by_range k l x a b c ≡ c
    large_at h = large ((above_up s l).0 h)
