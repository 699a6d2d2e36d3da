-- The words of a strip, as they are written. Assumes nothing.
-- "A strip is a lent row of 32-bit words; bits 31..28 are the kind (decimal values), bit 0 the lowest." "Other bits are zero."
use Rattle.std.specs.Prelude.{ℕ, suc, ◌+◌, ◌*◌, ◌%◌, ◌^◌, List, [], ◌∷◌, ◌++◌, Bool, ◌&&◌, leb, length}
use Rattle.number.specs.declared.channel.Channel.{Channel}
use Rattle.number.specs.Channels.{code_of}
use Rattle.word.specs.declared.header.Header.{Header}
use Rattle.std.specs.Prelude.{None, Some}
use Rattle.white.specs.Whites.{White}

-- ---- the page

abbrev pub pixels : Header → ℕ
pixels h = h.width * h.height

-- a bad size is "width or height 0 or above 8,192, or more than 16,777,216 pixels"
unfoldable pub size_fits : (width height : ℕ) → Bool
size_fits w h = leb 1 w && leb w 8192 && leb 1 h && leb h 8192 && leb (w * h) 16777216

-- a bad key: "K is 0 or above 1,000"
unfoldable pub key_fits : (key : ℕ) → Bool
key_fits k = leb 1 k && leb k 1000

-- ---- the words

-- the word of a kind whose lower 28 bits hold v, for a v of 28 bits
abbrev pub word_of : (kind v : ℕ) → ℕ
word_of kind v = kind * 2 ^ 28 + v

-- "Kind 1, size, first: width in bits 27..14, height in 13..0.", for sides of 14 bits
abbrev pub size_word : (width height : ℕ) → ℕ
size_word w h = word_of 1 (w * 2 ^ 14 + h)

-- "Kind 2, key, second: K in 15..0."
abbrev pub key_word : (key : ℕ) → ℕ
key_word k = word_of 2 k

-- "A strip may carry, third, a word of kind 3 with W in bits 15..0" (2026-05), for a W of 16 bits
abbrev pub white_word : (W : ℕ) → ℕ
white_word W = word_of 3 W

-- "Strips with the word are one longer"
abbrev pub white_words : White → List ℕ
white_words None = []
white_words (Some W) = white_word W ∷ []

abbrev pub head_words : Header → List ℕ
head_words h = size_word h.width h.height ∷ key_word h.key ∷ white_words h.white

-- "Kinds 4, 5, 6: red, green, blue of each pixel in turn, left to right, top row first; E in 15..8, M in 7..0." The channels of a page are
-- numbered in this order from 0; a channel's E and M, in these bits, are its 16-bit code
abbrev pub channel_kind : (k : ℕ) → ℕ
channel_kind k = 4 + k % 3

abbrev pub channel_word : (k code : ℕ) → ℕ
channel_word k code = word_of (channel_kind k) code

-- the words of channels, the first of which is channel k
abbrev pub body_words : (k : ℕ) → List Channel → List ℕ
body_words k [] = []
body_words k (c ∷ cs) = channel_word k (code_of c) ∷ body_words (suc k) cs

-- "Kind 7, end, last: the pixel count in 27..0.", for a count of 28 bits
abbrev pub end_word : (pixels : ℕ) → ℕ
end_word n = word_of 7 n

-- ---- the strip

-- the index of the first channel word, behind size and key word, and the white word where there is one
abbrev pub body_start : Header → ℕ
body_start h = length (head_words h)

-- the index of the end word, behind three channel words a pixel
abbrev pub end_index : Header → ℕ
end_index h = body_start h + 3 * pixels h

-- "Length: 3 × pixels + 3.", and one more with the white word
abbrev pub strip_length : Header → ℕ
strip_length h = end_index h + 1

-- the strip of a page
abbrev pub strip_of : Header → List Channel → List ℕ
strip_of h cs = head_words h ++ (body_words 0 cs ++ end_word (pixels h) ∷ [])
