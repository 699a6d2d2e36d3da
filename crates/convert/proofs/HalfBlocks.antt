-- Loops over halves, and over the 48 of a block. Assumes nothing.
use Rattle.std.proofs.Common.{◌≡◌, ℕ, ◌+◌, ◌%◌, ◌<◌, ◌≤◌, List, length, get_or, set, refl, ap, arith}
use Rattle.number.specs.loops.Halves.{half_code}
use Rattle.number.proofs.Laws.{half_finite}
use Rattle.word.specs.Words.{channel_word}
use Rattle.word.specs.Placing.{verdict_at}
use Rattle.word.proofs.Walks.{checking, checking_next, writing_next}
use Rattle.word.specs.loops.Walks.{writing}
use Rattle.convert.specs.Formats.{half_element}
use Rattle.refusal.specs.Verdicts.{Verdict}

-- ---- a loop that checks: `most` is at least the magnitude of each half so far

pub finite_next : (xs : List ℕ) (k most next : ℕ) {all : Verdict} → (most < 31744 → checking half_element 0 xs k ≡ all) → k < length xs
    → (most ≤ next) × (get_or xs k 0 % 32768 ≤ next) → next < 31744 → checking half_element 0 xs (k + 1) ≡ all
finite_next xs k most next inv inside h small =
    checking_next _ _ xs k (inv (omega arith)) inside refl (ap (verdict_at (0 + k)) (half_finite (get_or xs k 0) (omega arith)))

-- ---- a loop that stores a block

pub block_next : (xs : List ℕ) (start j : ℕ) (t : List ℕ) {n w : ℕ} {u : List ℕ}
    → (j ≤ 48) × (length t ≡ n) × (writing half_element xs (start + j) t ≡ u) → start + 48 ≤ length xs → j < 48
    → w ≡ channel_word (start + j) (half_code (get_or xs (start + j) 0))
    → let t' = set t (start + j) w in (j + 1 ≤ 48) × (length t' ≡ n) × (writing half_element xs (start + (j + 1)) t' ≡ u)
block_next xs start j t inv within inside e =
    let q = writing_next half_element xs (start + j) t (inv.1, inv.2) (omega arith) refl e in
    let k : start + (j + 1) ≡ start + j + 1 = omega arith in
    (omega arith, q.0, rw k q.1)
