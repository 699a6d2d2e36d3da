-- Fractions of two whole numbers, never reduced and compared by cross products. A law that divides asks for a positive denominator.
-- Assumes nothing.
use Rattle.std.specs.Prelude.{◌≡◌, ℕ, suc, ◌*◌, ◌^◌, ◌<◌, ◌≤◌, Bool, cond, ℤ, pos, negsuc, nat_le}

pub record Frac : Type 0 where
  pub num : ℕ
  pub den : ℕ

infix 55 ◌over◌
abbrev pub ◌over◌ : ℕ → ℕ → Frac
n over d = record { num = n; den = d }

-- reckoning: nothing is reduced
infixl 70 ◌·◌ ◌÷◌
abbrev pub ◌·◌ : Frac → Frac → Frac
x · y = x.num * y.num over x.den * y.den

-- of a y that is not 0
abbrev pub ◌÷◌ : Frac → Frac → Frac
x ÷ y = x.num * y.den over x.den * y.num

infixr 65 ◌times◌
abbrev pub ◌times◌ : ℕ → Frac → Frac
n times x = n * x.num over x.den

abbrev pub power : Frac → ℕ → Frac
power x n = x.num ^ n over x.den ^ n

-- 2^-k and 2^k
abbrev pub two_to_minus : ℕ → Frac
two_to_minus k = 1 over 2 ^ k

abbrev pub two_to : ℕ → Frac
two_to k = 2 ^ k over 1

-- 2^z: a negative power is moved across the fraction line
abbrev pub two_to_the : ℤ → Frac
two_to_the (pos n) = two_to n
two_to_the (negsuc n) = two_to_minus (suc n)

pub record Positive (x : Frac) : Type 0 where
  pub numerator : 0 < x.num
  pub denominator : 0 < x.den

-- x and y are the same number
pub record Equal (x y : Frac) : Type 0 where
  pub cross : x.num * y.den ≡ y.num * x.den

-- x is at most y
pub record AtMost (x y : Frac) : Type 0 where
  pub cross : x.num * y.den ≤ y.num * x.den

-- x is less than y
pub record Below (x y : Frac) : Type 0 where
  pub cross : x.num * y.den < y.num * x.den

-- the test whether x is at most y
abbrev pub at_most : Frac → Frac → Bool
at_most x y = nat_le (x.num * y.den) (y.num * x.den)

-- one of three answers: for x at or below 2^-k, for x above that and at most 2^l, and for x above 2^l
unfoldable pub by_range : {A : Type 0} (k l : ℕ) (x : Frac) (small within large : A) → A
by_range k l x small within large = cond (at_most x (two_to_minus k)) small (cond (at_most x (two_to l)) within large)
