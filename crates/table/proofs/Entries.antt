-- A rule of a table, proved at all its entries by one test that is computed, entry by entry. Assumes nothing.
use Rattle.std.proofs.Common.{◌≡◌, ◌∙◌, subst, sym, Bool, true, ◌&&◌, List, [], ◌∷◌, ℕ, zero, suc, ◌+◌, ◌<◌, add-zero, zero-add, add-suc, suc-add, le_of_suc-le-suc, not-suc-le-zero, T, eqb, eqb→eq, length, get_or}
use store.Enc.{and_l, and_r}
use Rattle.table.specs.Tables.{IsTable}

-- each entry is what the rule says at its place, counted from i
abbrev follows : (ℕ → ℕ) → ℕ → List ℕ → Bool
follows rule i [] = true
follows rule i (x ∷ xs) = eqb x (rule i) && follows rule (suc i) xs

module _ (rule : ℕ → ℕ) where
  entry_from : (xs : List ℕ) (i : ℕ) → T (follows rule i xs) → (k : ℕ) → k < length xs → get_or xs k 0 ≡ rule (i + k)
  entry_from [] i t k h = absurd (not-suc-le-zero h)
  entry_from (x ∷ xs) i t zero h =
      subst (λ (m : ℕ). x ≡ rule m) (sym (add-zero i))
      (eqb→eq x (rule i) (and_l (eqb x (rule i)) (follows rule (suc i) xs) t))
  entry_from (x ∷ xs) i t (suc k) h =
      subst (λ (m : ℕ). get_or xs k 0 ≡ rule m) (suc-add i k ∙ sym (add-suc i k))
      (entry_from xs (suc i) (and_r (eqb x (rule i)) (follows rule (suc i) xs) t) k (le_of_suc-le-suc h))

  pub table : {size : ℕ} (xs : List ℕ) → length xs ≡ size → T (follows rule 0 xs) → IsTable size rule xs
  table xs e t =
      record {
        entry = λ k h.
            subst (λ (m : ℕ). get_or xs k 0 ≡ rule m) (zero-add k) (entry_from xs 0 t k (subst (λ (n : ℕ). k < n) (sym e) h));
      }
