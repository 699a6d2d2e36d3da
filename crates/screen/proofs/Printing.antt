-- Levels that are printed one after another, each where it stands. Assumes nothing.
use Prim.Native.Nat.{ℕ, suc, ◌+◌, ◌≤◌, ◌<◌}
use mathlib.Core.Path.{◌≡◌, refl}
use mathlib.Core.List.{List, ◌++◌, map, append-nil}
use native.Mathlib.Numerals.{add-one}
use lib.ListN.{length, get_or, set, take, drop, drop_of_length-le}
use lib.Seq.{take_all, drop-cons, take-suc-set, drop-set-lt, append_snoc}
use native.Mathlib.Nat.{le_refl}

module _ (f : ℕ → ℕ) where
  -- the levels before i are printed, and those from i on are still to be
  unfoldable pub printing : (i : ℕ) → List ℕ → List ℕ
  printing i xs = take i xs ++ map f (drop i xs)

  pub printing_all : (xs : List ℕ) → printing 0 xs ≡ map f xs
  unfolding printing
  printing_all xs = refl

  pub printing_next : (xs : List ℕ) (i : ℕ) {y : ℕ} → i < length xs → y ≡ f (get_or xs i 0) → printing (i + 1) (set xs i y) ≡ printing i xs
  unfolding printing
  printing_next xs i {y} inside e =
      rw (add-one i, take-suc-set xs i y inside, drop-set-lt (suc i) xs i y (le_refl (suc i)), drop-cons xs i 0 inside, ← e)
      (append_snoc (take i xs) y (map f (drop (suc i) xs)))

  pub printing_done : (xs : List ℕ) (i : ℕ) → length xs ≤ i → printing i xs ≡ xs
  unfolding printing
  printing_done xs i over = rw (take_all i xs over, drop_of_length-le xs over) (append-nil xs)
