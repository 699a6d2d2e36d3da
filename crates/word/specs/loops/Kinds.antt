-- The kinds of channel words in blocks of 48. Assumes nothing.
use Rattle.std.specs.Prelude.{ℕ, ◌<◌, ◌≡◌, List, length, get_or}
use Rattle.word.specs.Words.{channel_word}

-- the words of black channels
pub record IsKinds (kinds : List ℕ) : Type 0 where
  pub long : length kinds ≡ 48
  pub word : (j : ℕ) → j < 48 → get_or kinds j 0 ≡ channel_word j 0
