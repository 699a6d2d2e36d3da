-- Converting: its checks in their order, and the strip that it writes. Assumes nothing.
-- "Converting: 1, 2, 3, 4, then elements in order, 5 before 6; a stored row can only give 8 there." With a
-- white point 10 stands between 2 and 3 (2026-05).
use Rattle.std.specs.Prelude.{ℕ, List, map, length}
use Rattle.number.specs.Channels.{code_of}
use Rattle.refusal.specs.Verdicts.{and_then, Verdict}
use Rattle.word.specs.declared.header.Header.{Header}
use Rattle.word.specs.Words.{strip_of}
use Rattle.word.specs.Placing.{first_refusal, channels_of}
use Rattle.frame.specs.Frames.{check_frame}
use Rattle.convert.specs.Formats.{Format, per_pixel, decoded_source}

-- An element is refused by one number only: what is no number by 5, and only what is one can be too bright.
unfoldable pub check_source : Format → Header → List ℕ → (room : ℕ) → Verdict
check_source f h xs room = and_then (check_frame h (per_pixel f) (length xs) room) (first_refusal (decoded_source f xs))

-- "A source picture is converted with its width, height and key into a whole strip."
abbrev pub converted : Format → Header → List ℕ → List ℕ
converted f h xs = strip_of h (channels_of (decoded_source f xs))

-- the channels of a source as 16-bit numbers
abbrev pub source_codes : Format → List ℕ → List ℕ
source_codes f xs = map code_of (channels_of (decoded_source f xs))
