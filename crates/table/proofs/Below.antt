-- A test of all numbers below a bound, which is computed. Assumes nothing.
use Rattle.std.proofs.Common.{Bool, true, ◌&&◌, ⊎_elim, subst, sym, ℕ, zero, suc, ◌<◌, le_of_suc-le-suc, not-suc-le-zero, eq-or-lt_of_le, T}
use store.Enc.{and_l, and_r}

module _ (test : ℕ → Bool) where
  abbrev below : ℕ → Bool
  below zero = true
  below (suc n) = test n && below n

  pub passed : (n : ℕ) → T (below n) → (k : ℕ) → k < n → T (test k)
  passed zero t k h = absurd (not-suc-le-zero h)
  passed (suc n) t k h =
      ⊎_elim (λ e. subst (λ (m : ℕ). T (test m)) (sym e) (and_l (test n) (below n) t))
      (λ l. passed n (and_r (test n) (below n) t) k l)
      (eq-or-lt_of_le (le_of_suc-le-suc h))
