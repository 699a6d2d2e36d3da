-- What an accepted strip holds. Assumes nothing.
use Rattle.std.specs.Prelude.{ℕ, List, [], ◌∷◌, map, pos, Err, Ok, Result}
use Rattle.number.specs.declared.channel.Channel.{Channel}
use Rattle.number.specs.declared.channel.Pixel.{Pixel}
use Rattle.number.specs.Channels.{code_of}
use Rattle.refusal.specs.Told.{Told, holding, refusing}
use Rattle.white.specs.Whites.{present_in, tenths_in}
use Rattle.word.specs.declared.header.Header.{Header}
use Rattle.word.specs.Placing.{channels_of}
use Rattle.word.specs.Pixels.{pixels_of}
use Rattle.strip.specs.Checks.{header_fields, decoded_body, check_strip}
use Rattle.refusal.specs.Verdicts.{Verdict}
use Rattle.refusal.specs.declared.Fault.{Fault}

abbrev pub header_under : Verdict → Header → Result Header Fault
header_under (Ok u) h = Ok h
header_under (Err f) h = Err f

-- in numbers: width, height, key and white point, or the refusal
abbrev pub header_told : Result Header Fault → Told
header_told (Ok h) =
    holding
    (pos h.width ∷ pos h.height ∷ pos h.key ∷ pos (present_in h.white) ∷ pos (tenths_in h.white) ∷ [])
header_told (Err f) = refusing f.refusal f.index

-- its header; of a refused strip its refusal
abbrev pub read_header : List ℕ → Result Header Fault
read_header s = header_under (check_strip s) (header_fields s)

abbrev pub strip_channels : List ℕ → List Channel
strip_channels s = channels_of (decoded_body s)

-- its pixels, "left to right, top row first"
abbrev pub strip_pixels : List ℕ → List Pixel
strip_pixels s = pixels_of (strip_channels s)

-- unpacked: the channels as 16-bit numbers
abbrev pub strip_codes : List ℕ → List ℕ
strip_codes s = map code_of (strip_channels s)
