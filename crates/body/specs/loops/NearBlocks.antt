-- The indices of the pixels of a block, as far as they are worked out together. Assumes nothing.
use Rattle.std.specs.Prelude.{◌≡◌, ℕ, ◌+◌, ◌*◌, ◌<◌, List, length, slice_index}
use Rattle.word.specs.Fields.{low16}
use Rattle.luminance.specs.loops.Codes.{IsNear}

-- the lower halves of every third word from `start` on
pub record TakenCodes (ws : List ℕ) (start : ℕ) (codes : List ℕ) : Type 0 where
  pub code : (j : ℕ) → j < 16 → slice_index codes j ≡ low16 (slice_index ws (start + 3 * j))

-- the index of each pixel by its codes, unless it is a multiple of 128
pub record AreNear (reds greens blues indices : List ℕ) : Type 0 where
  pub long : length indices ≡ 16
  pub near : (j : ℕ) → j < 16 → IsNear (slice_index reds j) (slice_index greens j) (slice_index blues j) (slice_index indices j)

-- the same by the words of the pixels
pub record NearIndices (ws indices : List ℕ) : Type 0 where
  pub long : length indices ≡ 16
  pub near : (j : ℕ) → j < 16
      → IsNear (low16 (slice_index ws (3 * j))) (low16 (slice_index ws (3 * j + 1))) (low16 (slice_index ws (3 * j + 2))) (slice_index indices j)
