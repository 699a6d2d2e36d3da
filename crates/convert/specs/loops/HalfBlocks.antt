-- What the loops over blocks of 48 halves keep to. Assumes nothing.
use Rattle.std.specs.Prelude.{◌≡◌, ℕ, ◌+◌, ◌%◌, ◌<◌, ◌≤◌, List, length, slice_index}
use Rattle.number.specs.loops.Halves.{NotSubnormal, half_code}
use Rattle.word.specs.loops.Kinds.{IsKinds}
use Rattle.word.specs.loops.Walks.{writing}
use Rattle.convert.specs.Formats.{half_element}

-- no half of the block that begins at the index `start` is a positive subnormal number
pub record IsPlain (xs : List ℕ) (start : ℕ) : Type 0 where
  pub plain : (j : ℕ) → j < 48 → NotSubnormal (slice_index xs (start + j))

-- the 16-bit forms of the channels of that block
pub record CodesOfHalves (xs : List ℕ) (start : ℕ) (codes : List ℕ) : Type 0 where
  pub long : length codes ≡ 48
  pub code : (j : ℕ) → j < 48 → slice_index codes j ≡ half_code (slice_index xs (start + j))

-- a block of whole pixels within the source, and a body that has room for all words
pub record BlockFits (kinds : List ℕ) (start : ℕ) (xs t : List ℕ) : Type 0 where
  pub table : IsKinds kinds
  pub first : start % 3 ≡ 0
  pub within : start + 48 ≤ length xs
  pub room : length xs ≤ length t

-- the words of the halves from number i on, up to j, are stored in t, which is u then: the words that are left give the same body
abbrev pub StoresHalves : (xs : List ℕ) (i j : ℕ) (t u : List ℕ) → Type 0
StoresHalves xs i j t u = writing half_element xs j u ≡ writing half_element xs i t
