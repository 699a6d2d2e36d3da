-- Lit pixels counted: at each turn those of the pixels so far. Assumes nothing.
use Prim.Native.Nat.{ℕ, ◌+◌, ◌/◌, ◌≤◌, ◌<◌}
use mathlib.Core.Path.{◌≡◌, refl, ap, ◌∙◌}
use mathlib.Core.List.{List, [], ◌∷◌}
use native.Mathlib.Omega.{arith}
use lib.ListN.{length, take, drop, take-append-drop}
use lib.Seq.{take_all}
use Rattle.word.specs.Pixels.{word_pixels}
use Rattle.word.specs.loops.Walks.{pixel_at}
use Rattle.word.proofs.Pixels.{length_word_pixels, take_pixel}
use Rattle.body.specs.Luminances.{lit_count}
use Rattle.body.proofs.Laws.{lit_append}

-- ---- pixel by pixel

-- the lit pixels of words before number p
unfoldable pub counting : List ℕ → (p : ℕ) → ℕ
counting ws p = lit_count (take p (word_pixels ws))

pub counting_none : (ws : List ℕ) → 0 ≡ counting ws 0
unfolding counting
counting_none ws = refl

pub counting_next : (ws : List ℕ) (p : ℕ) → p < length ws / 3 → counting ws (p + 1) ≡ counting ws p + lit_count (pixel_at ws p ∷ [])
unfolding counting
counting_next ws p h = ap lit_count (take_pixel ws p h) ∙ lit_append (take p (word_pixels ws)) (pixel_at ws p ∷ [])

pub counting_most : (ws : List ℕ) (p : ℕ) → counting ws p ≤ lit_count (word_pixels ws)
unfolding counting
counting_most ws p =
    let all = lit_append (take p (word_pixels ws)) (drop p (word_pixels ws)) in
    let whole = ap lit_count (take-append-drop p (word_pixels ws)) in
    omega arith

pub counting_all : (ws : List ℕ) (p : ℕ) → length ws / 3 ≤ p → counting ws p ≡ lit_count (word_pixels ws)
unfolding counting
counting_all ws p h = ap lit_count (take_all p (word_pixels ws) (rw (length_word_pixels ws) h))
