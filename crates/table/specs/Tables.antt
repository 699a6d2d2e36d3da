-- Tables by a rule. Assumes nothing.
use Rattle.std.specs.Prelude.{◌≡◌, Bool, cond, List, ℕ, zero, suc, ◌<◌, get_or}

-- the greatest number up to n that passes the test, and 0 where none does
unfoldable pub greatest : (ℕ → Bool) → ℕ → ℕ
greatest test zero = zero
greatest test (suc n) = cond (test (suc n)) (suc n) (greatest test n)

-- a list of what the rule gives for 0, 1 and so on, below `size`
pub record IsTable (size : ℕ) (rule : ℕ → ℕ) (entries : List ℕ) : Type 0 where
  pub entry : (k : ℕ) → k < size → get_or entries k 0 ≡ rule k
