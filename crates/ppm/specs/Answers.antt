-- What the picture program prints. Assumes nothing.
use Rattle.std.specs.Prelude.{ℕ, cond, List, [], ◌++◌, length, ltb}
use Rattle.refusal.specs.declared.Outcome.{Outcome}
use Rattle.refusal.specs.Refusals.{outcome_of}
use Rattle.refusal.specs.Verdicts.{and_then}
use Rattle.strip.specs.Checks.{header_fields}
use Rattle.page.specs.Checks.{check_tally}
use Rattle.page.specs.Mapping.{strip_levels}
use Rattle.ppm.specs.declared.answer.Answer.{Answer}
use Rattle.ppm.specs.Text.{ascii, two_numbers}
use Rattle.ppm.specs.Words.{little_endian, check_count}
use Rattle.std.specs.Prelude.{Err, Ok}
use Rattle.refusal.specs.Verdicts.{Verdict}

-- "P6, line feed, width, space, height, line feed, 255, line feed"
abbrev pub front_of : (width height : ℕ) → List ℕ
front_of w h = two_numbers (ascii "P6\n") w h (ascii "\n255\n")

-- "A refusal prints 'refused', number and place, with single spaces and a line feed."
abbrev pub refused_text : (number place : ℕ) → List ℕ
refused_text n p = two_numbers (ascii "refused ") n p (ascii "\n")

-- an answer: a text, and samples behind it
pub record Printed : Type 0 where
  pub text : List ℕ
  pub samples : List ℕ

abbrev pub text_alone : List ℕ → Printed
text_alone t = record { text = t; samples = [] }

abbrev pub printed_refusal : Outcome → Printed
printed_refusal o = text_alone (refused_text o.number o.place)

-- "Else it prints P6, .. then the levels."
abbrev pub picture_of : List ℕ → Printed
picture_of s = record { text = front_of (header_fields s).width (header_fields s).height; samples = strip_levels s }

abbrev pub printed_under : Verdict → List ℕ → Printed
printed_under (Ok u) s = picture_of s
printed_under (Err f) s = printed_refusal (outcome_of f.refusal f.index)

-- the answer to a strip: there is room for the samples of every page that the input can hold, so it is checked as for its tally
abbrev pub printed_of : List ℕ → Printed
printed_of s = printed_under (check_tally s) s

unfoldable pub check_input : List ℕ → Verdict
check_input bs = and_then (check_count bs) (check_tally (little_endian bs))

-- "It reads a strip of at most 65,536 bytes from standard input. More bytes: it prints 'long' and a line feed."
unfoldable pub printed_for : List ℕ → Printed
printed_for bs = cond (ltb 65536 (length bs)) (text_alone (ascii "long\n")) (printed_under (check_input bs) (little_endian bs))

-- all its bytes
abbrev pub bytes_of : Printed → List ℕ
bytes_of p = p.text ++ p.samples

-- how many there are of each
abbrev pub counts_of : Printed → Answer
counts_of p = record { text = length p.text; samples = length p.samples }
