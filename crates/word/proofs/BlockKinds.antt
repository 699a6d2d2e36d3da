-- The kinds of a block's words. Assumes nothing.
use Rattle.std.proofs.Common.{ℕ, ◌+◌, ◌*◌, ◌/◌, ◌%◌, ◌<◌, ◌≡◌, ap, ◌∙◌, List, arith, get_or}
use native.Mathlib.Nat.{mul-add-mod_self_left}
use Rattle.word.specs.Words.{channel_word}
use Rattle.word.specs.loops.Kinds.{IsKinds}

-- a block begins with a red channel, so that the kinds of its channels are those of the first block
pub kind_at : (kinds : List ℕ) (start j : ℕ) → IsKinds kinds → start % 3 ≡ 0 → j < 48 → get_or kinds j 0 ≡ channel_word (start + j) 0
kind_at kinds start j table first inside =
    let whole : start ≡ 3 * (start / 3) = omega arith in
    let same : (start + j) % 3 ≡ j % 3 = ap (λ s. (s + j) % 3) whole ∙ mul-add-mod_self_left 3 (start / 3) j in
    rw same (table.word j inside)
