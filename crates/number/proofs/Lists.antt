-- Laws of what holds of every element, and of a table that is filled entry by entry. Assumes nothing.
use Rattle.std.proofs.Common.{◌≡◌, ℕ, zero, suc, ◌+◌, ◌<◌, List, [], ◌∷◌, ◌++◌, length, get_or, take, drop, set, sym, subst, ⊎_elim, arith, length-set, get_or-set_other, get_or-set_same, below_more}
use Rattle.number.specs.Lists.{Every, Occurs}

module _ {X : Type 0} where
  pub every_map : {P Q : X → Type 0} → ((x : X) → P x → Q x) → (xs : List X) → Every P xs → Every Q xs
  every_map f [] h = tt
  every_map f (x ∷ xs) h = (f x h.0, every_map f xs h.1)

  -- of each that occurs
  pub every_occurs : (P : X → Type 0) (xs : List X) (x : X) → Every P xs → Occurs x xs → P x
  every_occurs P [] x h o = absurd o
  every_occurs P (y ∷ xs) x h o = ⊎_elim (λ e. subst P (sym e) h.0) (λ r. every_occurs P xs x h.1 r) o

  pub every_take : (P : X → Type 0) (n : ℕ) (xs : List X) → Every P xs → Every P (take n xs)
  every_take P zero xs h = tt
  every_take P (suc n) [] h = tt
  every_take P (suc n) (x ∷ xs) h = (h.0, every_take P n xs h.1)

  pub every_drop : (P : X → Type 0) (n : ℕ) (xs : List X) → Every P xs → Every P (drop n xs)
  every_drop P zero xs h = h
  every_drop P (suc n) [] h = tt
  every_drop P (suc n) (x ∷ xs) h = every_drop P n xs h.1

  pub every_append : (P : X → Type 0) (xs ys : List X) → Every P xs → Every P ys → Every P (xs ++ ys)
  every_append P [] ys h g = g
  every_append P (x ∷ xs) ys h g = (h.0, every_append P xs ys h.1 g)

-- ---- a table that is filled entry by entry

-- a table of n entries, of which each before number i has a property that goes by its number
pub record Filled (P : ℕ → ℕ → Type 0) (n i : ℕ) (t : List ℕ) : Type 0 where
  pub size : length t ≡ n
  pub entry : (k : ℕ) → k < i → P k (get_or t k 0)

module _ {P : ℕ → ℕ → Type 0} {n : ℕ} {t : List ℕ} where
  pub filled_none : length t ≡ n → Filled P n 0 t
  filled_none long = record { size = long; entry = λ k h. absurd (omega arith) }

  pub filled_next : {i w : ℕ} → Filled P n i t → i < n → P i w → Filled P n (i + 1) (set t i w)
  filled_next {i} {w} before inside next =
      let long = before.size in
      record {
        size = rw length-set long;
        entry =
            below_more (λ k. P k (get_or (set t i w) k 0)) i
            (λ k h. subst (P k) (sym (get_or-set_other t i k w 0 (λ q. omega arith))) (before.entry k h))
            (subst (P i) (sym (get_or-set_same t i w 0 (omega arith))) next);
      }
