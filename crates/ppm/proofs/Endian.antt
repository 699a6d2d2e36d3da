-- Laws of little-endian words. Assumes nothing.
use Prim.Native.Nat.{ℕ, zero, suc, ◌/◌, ◌%◌, ◌<◌, ◌≤◌}
use mathlib.Core.Path.{◌≡◌}
use mathlib.Core.List.{List, [], ◌∷◌}
use native.Mathlib.Omega.{arith}
use borrow.Author.Tests.{eq-eqb, ne_eqb, le-leb, lt-leb}
use lib.ListN.{length, get_or}
use Rattle.std.specs.Int.{w32, from_le_bytes}
use Rattle.std.specs.Simd.{first_chunks}
use Rattle.refusal.specs.declared.Refusal.TheVariants.{WrongLength, SmallOutput}
use Rattle.refusal.specs.Verdicts.{require, and_then}
use Rattle.ppm.specs.Words.{little_endian, check_count, check_bytes}
use Rattle.std.specs.Prelude.{Err}
use Rattle.refusal.specs.Faults.{◌found_at◌}
use Rattle.refusal.specs.Verdicts.{accepted}

pub length_words : (bs : List ℕ) → length (little_endian bs) ≡ length bs / 4
length_words [] = omega arith
length_words (a ∷ []) = omega arith
length_words (a ∷ b ∷ []) = omega arith
length_words (a ∷ b ∷ c ∷ []) = omega arith
length_words (a ∷ b ∷ c ∷ d ∷ bs) = let e = length_words bs in omega arith

-- word i is that of chunk i, where there are k chunks of four bytes
pub chunk_word : (bs : List ℕ) (k i : ℕ) → length bs / 4 ≡ k → i < k → get_or (little_endian bs) i 0 ≡ from_le_bytes w32 (get_or (first_chunks 4 k bs) i [])
chunk_word [] k i e h = absurd (omega arith)
chunk_word (a ∷ []) k i e h = absurd (omega arith)
chunk_word (a ∷ b ∷ []) k i e h = absurd (omega arith)
chunk_word (a ∷ b ∷ c ∷ []) k i e h = absurd (omega arith)
chunk_word (a ∷ b ∷ c ∷ d ∷ bs) zero i e h = absurd (omega arith)
chunk_word (a ∷ b ∷ c ∷ d ∷ bs) (suc k) zero e h = omega arith
chunk_word (a ∷ b ∷ c ∷ d ∷ bs) (suc k) (suc i) e h = chunk_word bs k i (omega arith) (omega arith)

-- ---- the check of bytes, one law for each answer

module _ (bs : List ℕ) where
  pub count_uneven : (length bs % 4 ≡ 0 → ⊥) → check_count bs ≡ Err (WrongLength found_at 0)
  unfolding check_count require
  count_uneven h = rw (ne_eqb _ _ h)

  pub count_even : length bs % 4 ≡ 0 → check_count bs ≡ accepted
  unfolding check_count require
  count_even h = rw (eq-eqb _ _ h)

  module _ (room : ℕ) where
    pub uneven : (length bs % 4 ≡ 0 → ⊥) → check_bytes bs room ≡ Err (WrongLength found_at 0)
    unfolding check_bytes and_then
    uneven h = rw (count_uneven h)

    module _ (even : length bs % 4 ≡ 0) where
      pub too_many : room < length bs / 4 → check_bytes bs room ≡ Err (SmallOutput found_at 0)
      unfolding check_bytes and_then require
      too_many h = rw (count_even even, lt-leb _ _ h)

      pub words_fit : length bs / 4 ≤ room → check_bytes bs room ≡ accepted
      unfolding check_bytes and_then require
      words_fit h = rw (count_even even, le-leb _ _ h)
