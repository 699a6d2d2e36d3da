-- How far a walk over elements or channel words has come. Assumes nothing.
use Rattle.std.specs.Prelude.{ℕ, ◌+◌, ◌*◌, List, get_or, drop}
use Rattle.std.proofs.lemmas.List.Edits.{sets}
use Rattle.number.specs.declared.channel.Pixel.{Pixel}
use Rattle.word.specs.Words.{body_words}
use Rattle.word.specs.Placing.{placed, channels_of}
use Rattle.word.specs.Pixels.{pixel_of, word_channel}
use Rattle.number.specs.Channels.{Decoded}

-- the body t once the words of the elements from number i on are stored in it; f says what an element decodes to
unfoldable pub writing : (f : ℕ → ℕ → Decoded) → List ℕ → (i : ℕ) → List ℕ → List ℕ
writing f xs i t = sets t i (body_words i (channels_of (placed f 0 i (drop i xs))))

-- pixel p of channel words
abbrev pub pixel_at : List ℕ → (p : ℕ) → Pixel
pixel_at ws p =
    pixel_of (word_channel (get_or ws (3 * p) 0)) (word_channel (get_or ws (3 * p + 1) 0)) (word_channel (get_or ws (3 * p + 2) 0))
