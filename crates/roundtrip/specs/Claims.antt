-- What reading and writing a strip are to each other, and what a row of stored channels can be refused by: claims about the definitions that
-- the contracts cite. Assumes nothing.
-- Proved as `reads_back`, `writes_again`, `converts_by_codes` (proofs/RoundTrips.antt) and `gives_eight` (proofs/StoredRows.antt).
use Rattle.std.specs.Prelude.{ℕ, ◌*◌, ◌≤◌, ◌<◌, ◌≡◌, List, map, length, Err, Ok}
use Rattle.refusal.specs.declared.Refusal.{Refusal}
use Rattle.refusal.specs.Refusals.{◌at◌, outcome_of}
use Rattle.word.specs.declared.header.Header.{Header}
use Rattle.word.specs.Words.{pixels, strip_length}
use Rattle.word.specs.Placing.{decoded_of, first_refusal}
use Rattle.strip.specs.Checks.{header_fields, decoded_body, check_strip, check_output}
use Rattle.strip.specs.Reading.{read_header, strip_channels, strip_codes}
use Rattle.convert.specs.Formats.{Format, stored, decoded_source}
use Rattle.convert.specs.Converting.{check_source, converted, source_codes}
use Rattle.number.specs.Channels.{Decoded}
use Rattle.refusal.specs.Verdicts.{accepted}
use Rattle.refusal.specs.declared.Fault.{Fault}

-- A strip is accepted, its header is h, and its channels, also as codes in an output that is long enough, are those that ds holds: ds has
-- no refusal.
pub record Yields (s : List ℕ) (h : Header) (ds : List Decoded) : Type 0 where
  pub header : read_header s ≡ Ok h
  pub long : length s ≡ strip_length h
  pub unpacked : (room : ℕ) → 3 * pixels h ≤ room → check_output s room ≡ accepted
  pub accepted : check_strip s ≡ accepted
  pub channels : map Ok (strip_channels s) ≡ ds
  pub count : length (strip_codes s) ≡ 3 * pixels h

-- What a conversion wrote yields the width, height, key and white point, or none, that were given, and the channels that the source
-- decodes to.
abbrev pub ReadsBack : Type 0
ReadsBack =
    (f : Format) (h : Header) (xs : List ℕ) (room : ℕ) → check_source f h xs room ≡ accepted
    → Yields (converted f h xs) h (decoded_of (decoded_source f xs))

-- An accepted strip yields the fields of its header words and the channels of its channel words. Unpacked and converted again with its own
-- header, it is accepted and is the same words.
pub record WrittenAgain (s : List ℕ) : Type 0 where
  pub yields : Yields s (header_fields s) (decoded_of (decoded_body s))
  pub accepted : (room : ℕ) → length s ≤ room → check_source stored (header_fields s) (strip_codes s) room ≡ accepted
  pub words : converted stored (header_fields s) (strip_codes s) ≡ s

abbrev pub WritesAgain : Type 0
WritesAgain = (s : List ℕ) → check_strip s ≡ accepted → WrittenAgain s

-- Converting an accepted source is converting the 16-bit numbers of its channels.
pub record ByCodes (f : Format) (h : Header) (xs : List ℕ) (room : ℕ) : Type 0 where
  pub accepted : check_source stored h (source_codes f xs) room ≡ accepted
  pub words : converted stored h (source_codes f xs) ≡ converted f h xs

abbrev pub ConvertsByCodes : Type 0
ConvertsByCodes = (f : Format) (h : Header) (xs : List ℕ) (room : ℕ) → check_source f h xs room ≡ accepted → ByCodes f h xs room

-- "elements in order, 5 before 6; a stored row can only give 8 there", at the index of an element
pub record EightAt (r : Refusal) (i count : ℕ) : Type 0 where
  pub outcome : outcome_of r i ≡ 8 at i
  pub within : i < count

abbrev pub GivesEight : Type 0
GivesEight = (xs : List ℕ) (f : Fault) → first_refusal (decoded_source stored xs) ≡ Err f → EightAt f.refusal f.index (length xs)
