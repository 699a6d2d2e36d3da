-- The checks of a strip in their order. Assumes nothing.
-- "A strip: fewer than two words is 3; then first word 7, size 1, second word 7, key 2, length 3, row 20, tray 4 where one is lent; then
-- words in order, 7 before 8; last the end word." Of a white word (2026-05) "7 for spare bits, then 10 bad white .. both between key and
-- length".
use Rattle.std.specs.Prelude.{ℕ, ◌*◌, List, length, get_or, take, drop, ltb, leb, eqb}
use Rattle.refusal.specs.declared.Refusal.TheVariants.{WrongLength, SmallOutput, UnexpectedWord, NoSuchRow}
use Rattle.refusal.specs.Verdicts.{require, and_then, Verdict, accepted}
use Rattle.word.specs.declared.header.Header.{Header}
use Rattle.word.specs.Fields.{width_in, height_in, low16, white_in, decode_word, check_size_word, check_key_word, check_white_word}
use Rattle.word.specs.Words.{pixels, end_word, body_start, end_index, strip_length}
use Rattle.word.specs.Placing.{Placed, placed, first_refusal}

-- ---- where things stand in any row of words; a word that is not there counts as 0

abbrev pub word_at : List ℕ → (i : ℕ) → ℕ
word_at s i = get_or s i 0

abbrev pub header_fields : List ℕ → Header
header_fields s =
    record {
      width = width_in (word_at s 0);
      height = height_in (word_at s 0);
      key = low16 (word_at s 1);
      white = white_in (word_at s 2);
    }

-- the length that its size word declares, with a white word that it carries
abbrev pub declared_length : List ℕ → ℕ
declared_length s = strip_length (header_fields s)

-- three channels a pixel
abbrev pub channel_count : List ℕ → ℕ
channel_count s = 3 * pixels (header_fields s)

-- ---- the checks

-- the channel words, and what they decode to
abbrev pub body_part : List ℕ → List ℕ
body_part s = take (channel_count s) (drop (body_start (header_fields s)) s)

abbrev pub decoded_body : List ℕ → List Placed
decoded_body s = placed decode_word (body_start (header_fields s)) 0 (body_part s)

unfoldable pub check_head : List ℕ → Verdict
check_head s =
    require (leb 2 (length s)) WrongLength 0
    (and_then (check_size_word (word_at s 0))
    (and_then (check_key_word (word_at s 1))
    (and_then (check_white_word (word_at s 2))
    (require (eqb (length s) (declared_length s)) WrongLength 0
    accepted))))

unfoldable pub check_body : List ℕ → Verdict
check_body s =
    and_then (first_refusal (decoded_body s))
    (require (eqb (word_at s (end_index (header_fields s))) (end_word (pixels (header_fields s)))) UnexpectedWord (end_index (header_fields s))
    accepted)

-- a strip's checks, with what a call adds between length and words
unfoldable pub check_with : Verdict → List ℕ → Verdict
check_with added s = and_then (check_head s) (and_then added (check_body s))

unfoldable pub check_strip : List ℕ → Verdict
check_strip s = check_with accepted s

-- "tray shorter than the outcome", here of one element for each channel
unfoldable pub check_output : List ℕ → (room : ℕ) → Verdict
check_output s room = check_with (require (leb (channel_count s) room) SmallOutput 0 accepted) s

-- "row number, from 0, not below the height"
unfoldable pub check_row : List ℕ → (y : ℕ) → Verdict
check_row s y = check_with (require (ltb y (header_fields s).height) NoSuchRow 0 accepted) s
