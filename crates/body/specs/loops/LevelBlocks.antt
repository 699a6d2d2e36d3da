-- A block of pixels, whose levels are kept in 16 bits before their limit is taken. Assumes nothing.
use Rattle.std.specs.Prelude.{◌≡◌, ℕ, ◌*◌, ◌/◌, ◌≤◌, min, List, map, length, take}
use Rattle.word.specs.Pixels.{word_pixels}
use Rattle.tone.specs.declared.tone.Tone.{Tone}
use Rattle.tone.specs.Levels.{IsTone}
use Rattle.tone.specs.loops.Factors.{IsPowerTable, IsReciprocalTable}
use Rattle.tone.specs.loops.ScaledTables.{IsScaledTable}
use Rattle.body.specs.Levels.{levels_under}
use Rattle.body.specs.loops.Indices.{IsBody, indices_of}

-- the tables of a tone
pub record AreTables (t : Tone) (powers reciprocals scaled : List ℕ) : Type 0 where
  pub tone : IsTone t
  pub power : IsPowerTable powers
  pub reciprocal : IsReciprocalTable reciprocals
  pub scale : IsScaledTable t scaled

-- the words of at most 64 pixels, and the indices of their luminances
pub record IsBlock (ws output : List ℕ) : Type 0 where
  pub body : IsBody ws
  pub short : length ws ≤ 192
  pub indices : output ≡ indices_of (word_pixels ws)

-- the first n numbers with the limit of 255
abbrev pub limited_front : (n : ℕ) → (wide : List ℕ) → List ℕ
limited_front n wide = map (min 255) (take n wide)

-- the numbers of a block give its level bytes
pub record HoldsLevels (t : Tone) (ws wide : List ℕ) : Type 0 where
  pub long : length wide ≡ 192
  pub levels : limited_front (3 * (length ws / 3)) wide ≡ levels_under t (word_pixels ws)
