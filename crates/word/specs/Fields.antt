-- What one word holds, and the checks of one word. Assumes nothing.
use Rattle.std.specs.Prelude.{ℕ, ◌/◌, ◌%◌, ◌^◌, cond, eqb}
use Rattle.number.specs.Channels.{channel_of_code}
use Rattle.refusal.specs.declared.Refusal.TheVariants.{BadSize, BadKey, UnexpectedWord, BadWhite}
use Rattle.refusal.specs.Verdicts.{require}
use Rattle.white.specs.Whites.{tenths_fit}
use Rattle.word.specs.Words.{size_fits, key_fits, size_word, key_word, white_word, channel_word}
use Rattle.std.specs.Prelude.{Err, None, Some}
use Rattle.number.specs.Channels.{Decoded}
use Rattle.refusal.specs.Verdicts.{Verdict, accepted}
use Rattle.white.specs.Whites.{White}

-- "width in bits 27..14, height in 13..0"
abbrev pub width_in : (w : ℕ) → ℕ
width_in w = w / 2 ^ 14 % 2 ^ 14

abbrev pub height_in : (w : ℕ) → ℕ
height_in w = w % 2 ^ 14

-- "K in 15..0"; "W in bits 15..0"; "E in 15..8, M in 7..0"
abbrev pub low16 : (w : ℕ) → ℕ
low16 w = w % 2 ^ 16

-- "bits 31..28 are the kind"
abbrev pub kind_in : (w : ℕ) → ℕ
kind_in w = w / 2 ^ 28

-- the white point of the page whose strip has w for its third word: it carries a white word exactly if that is of kind 3
unfoldable pub white_in : (w : ℕ) → White
white_in w = cond (eqb (kind_in w) 3) (Some (low16 w)) None

-- ---- "foreign word": "kind, spare bits or end count wrong". A word is foreign where it differs from the word that its own fields are
-- written as. (The end word is checked with the strip.)

-- "first word 7, size 1"
unfoldable pub check_size_word : (w : ℕ) → Verdict
check_size_word w =
    require (eqb w (size_word (width_in w) (height_in w))) UnexpectedWord 0
    (require (size_fits (width_in w) (height_in w)) BadSize 0
    accepted)

-- "second word 7, key 2"
unfoldable pub check_key_word : (w : ℕ) → Verdict
check_key_word w =
    require (eqb w (key_word (low16 w))) UnexpectedWord 1
    (require (key_fits (low16 w)) BadKey 0
    accepted)

-- the third word, if it is a white word: "7 for spare bits, then 10 bad white, place 0, W below 10 or above 1,000"
unfoldable pub check_white_word : (w : ℕ) → Verdict
check_white_word w =
    cond (eqb (kind_in w) 3)
    (require (eqb w (white_word (low16 w))) UnexpectedWord 2
    (require (tenths_fit (low16 w)) BadWhite 0
    accepted))
    accepted

-- the word of channel k: "7 before 8"
unfoldable pub decode_word : (k w : ℕ) → Decoded
decode_word k w = cond (eqb w (channel_word k (low16 w))) (channel_of_code (low16 w)) (Err UnexpectedWord)
