-- Words that hold a channel of their kind. Assumes nothing.
use Rattle.std.specs.Prelude.{◌≡◌, ℕ, ◌+◌, ◌*◌, ◌/◌, ◌%◌, ◌<◌, ◌≤◌, List, length, slice_index}
use Rattle.word.specs.Fields.{decode_word}
use Rattle.word.specs.loops.Kinds.{IsKinds}
use Rattle.word.specs.Pixels.{word_channel}
use Rattle.word.specs.Words.{channel_word}
use Rattle.std.specs.Prelude.{Ok}

-- neither bit 7 nor a bit from 15 on is set
pub record NoFault (bits : ℕ) : Type 0 where
  pub small : bits < 32768
  pub even : bits / 128 % 2 ≡ 0

-- word w holds a channel as the word of each channel k whose black word is this one
pub record HoldsKind (black w : ℕ) : Type 0 where
  pub held : (k : ℕ) → black ≡ channel_word k 0 → decode_word k w ≡ Ok (word_channel w)

-- each word from number i on, up to j, holds its channel
pub record AllHold (ws : List ℕ) (i j : ℕ) : Type 0 where
  pub held : (k : ℕ) → i ≤ k → k < j → decode_word k (slice_index ws k) ≡ Ok (word_channel (slice_index ws k))

-- the same of each of four quarters of the words, their numbers counted from where the quarter begins
pub record QuartersHold (ws : List ℕ) (quarter i j : ℕ) : Type 0 where
  pub first : AllHold ws i j
  pub second : AllHold ws (quarter + i) (quarter + j)
  pub third : AllHold ws (2 * quarter + i) (2 * quarter + j)
  pub fourth : AllHold ws (3 * quarter + i) (3 * quarter + j)

-- a block of whole pixels within the words, and its kinds
pub record BlockWithin (kinds : List ℕ) (start : ℕ) (ws : List ℕ) : Type 0 where
  pub table : IsKinds kinds
  pub first : start % 3 ≡ 0
  pub within : start + 48 ≤ length ws
