-- The greatest number up to a bound that passes a test. Assumes nothing.
use Rattle.std.proofs.Common.{Bool, true, false, not, cond, ℕ, zero, suc, ◌≤◌, zero-le, le_refl, le_of_suc-le-suc, eq-or-lt_of_le, subst, ⊎_elim, T, T_not}
use native.Mathlib.Nat.{le_step}
use Rattle.table.specs.Tables.{greatest}

by_test : (Q : ℕ → Type 0) (b : Bool) (x y : ℕ) → (T b → Q x) → (T (not b) → Q y) → Q (cond b x y)
by_test Q true x y f g = f tt
by_test Q false x y f g = g tt

module _ (test : ℕ → Bool) where
  pub greatest_le : (n : ℕ) → greatest test n ≤ n
  unfolding greatest
  greatest_le zero = zero-le
  greatest_le (suc n) =
      by_test (λ x. x ≤ suc n) (test (suc n)) (suc n) (greatest test n) (λ _. le_refl (suc n)) (λ _. le_step (greatest_le n))

  -- it passes, where 0 does
  pub passes : (n : ℕ) → T (test 0) → T (test (greatest test n))
  unfolding greatest
  passes zero h = h
  passes (suc n) h = by_test (λ x. T (test x)) (test (suc n)) (suc n) (greatest test n) (λ t. t) (λ _. passes n h)

  -- the next one does not, where the one after the bound does not
  pub fails_next : (n : ℕ) → T (not (test (suc n))) → T (not (test (suc (greatest test n))))
  unfolding greatest
  fails_next zero h = h
  fails_next (suc n) h =
      by_test (λ x. T (not (test (suc x)))) (test (suc n)) (suc n) (greatest test n) (λ _. h) (λ t. fails_next n t)

  -- no other one that passes is greater
  pub reaches : (n k : ℕ) → k ≤ n → T (test k) → k ≤ greatest test n
  unfolding greatest
  reaches zero k l t = l
  reaches (suc n) k l t =
      by_test (λ x. k ≤ x) (test (suc n)) (suc n) (greatest test n) (λ _. l)
      (λ f. ⊎_elim (λ e. absurd (T_not (test (suc n)) f (subst (λ (x : ℕ). T (test x)) e t)))
      (λ m. reaches n k (le_of_suc-le-suc m) t)
      (eq-or-lt_of_le l))
