-- The worked examples of document 01 that are proved, T[192] as 2026-06 has it, and two of the rule of 2026-03, as one table of inputs and
-- answers. Assumes nothing.
-- "Marked ▲ are the proved ones. Hexadecimal halves and singles; (E,M) decimal."
use Rattle.std.specs.Prelude.{ℕ, ◌≡◌, List, [], ◌∷◌, map, ℤ, pos, neg_ℤ, length, get_or, replicate, Err, None, Ok, Option, Result, Some}
use Rattle.number.specs.declared.channel.Channel.TheVariants.{Black, Lit}
use Rattle.number.specs.Sources.{channel_of_value, half_value, single_value, rgbe_value}
use Rattle.refusal.specs.declared.Refusal.{Refusal}
use Rattle.refusal.specs.Refusals.{outcome_of}
use Rattle.word.specs.declared.header.Header.{Header}
use Rattle.word.specs.Words.{strip_length}
use Rattle.strip.specs.Checks.{channel_count}
use Rattle.refusal.specs.Output.{after}
use Rattle.convert.specs.Formats.{Format}
use Rattle.convert.specs.Converting.{check_source, converted}
use Rattle.average.specs.Tables.{log_of, root_of}
use Rattle.page.specs.Checks.{check_map}
use Rattle.page.specs.Tallying.{tally_told, tally_strip}
use Rattle.page.specs.Mapping.{strip_levels}
use Rattle.ppm.specs.Answers.{printed_for, bytes_of}
use Rattle.average.specs.Averages.{◌stored_as◌}
use Rattle.average.specs.declared.average.Average.{Average}
use Rattle.number.specs.Channels.{Decoded}
use Rattle.page.specs.declared.tally.PageTally.{PageTally}
use Rattle.refusal.specs.declared.Fault.{Fault}

-- a number of a source; the entry T[M], and X[f]; a page of one row of grey pixels, each given as a half; such a page, of which only the
-- average is asked; a file for the picture program
pub data Input : Type 0 where
  half : (bits : ℕ) → Input
  rgbe : (m e : ℕ) → Input
  single : (bits : ℕ) → Input
  log : (M : ℕ) → Input
  root : (f : ℕ) → Input
  greys : (key : ℕ) (halves : List ℕ) → Input
  averaged : (key : ℕ) (halves : List ℕ) → Input
  file : (bytes : List ℕ) → Input

-- a channel, or the number of a refusal; an entry; a page's strip, its A with the stored average, and its level bytes; its A alone; what is
-- printed
pub data Answer : Type 0 where
  black : Answer
  lit : (E M : ℕ) → Answer
  refused : (number : ℕ) → Answer
  entry : (n : ℕ) → Answer
  mapped : (strip : List ℕ) → Option Average → (levels : List ℕ) → Answer
  steps : (A : ℤ) → Answer
  prints : (bytes : List ℕ) → Answer

-- ---- what the definitions answer

-- the number is the same at every index
abbrev pub refused_by : Refusal → Answer
refused_by r = refused (outcome_of r 0).number

abbrev pub channel_answer : Decoded → Answer
channel_answer (Ok Black) = black
channel_answer (Ok (Lit E M)) = lit E M
channel_answer (Err r) = refused_by r

-- what mapping leaves in an output of zeros that is just long enough
abbrev pub levels_left : (strip : List ℕ) → List ℕ
levels_left s = let n = channel_count s in after (check_map s n) (strip_levels s) (replicate n 0)

abbrev pub page_answer : (strip : List ℕ) → Result PageTally Fault → Answer
page_answer s (Ok p) = mapped s p.average (levels_left s)
page_answer s (Err f) = refused_by f.refusal

-- A is the tally's fourth number
abbrev pub steps_answer : Result PageTally Fault → Answer
steps_answer a = steps (get_or (tally_told a).values 3 (pos 0))

-- each half three times
abbrev pub grey_source : (halves : List ℕ) → List ℕ
grey_source [] = []
grey_source (b ∷ bs) = b ∷ b ∷ b ∷ grey_source bs

abbrev pub grey_header : (key : ℕ) (halves : List ℕ) → Header
grey_header K bs = record { width = length bs; height = 1; key = K; white = None }

-- what converting leaves in an output of zeros that is just long enough
abbrev pub grey_strip : (key : ℕ) (halves : List ℕ) → List ℕ
grey_strip K bs =
    let h = grey_header K bs in
    let n = strip_length h in
    after (check_source Format.half h (grey_source bs) n) (converted Format.half h (grey_source bs)) (replicate n 0)

abbrev pub answer_of : Input → Answer
answer_of (half b) = channel_answer (channel_of_value (half_value b))
answer_of (rgbe m e) = channel_answer (channel_of_value (rgbe_value m e))
answer_of (single b) = channel_answer (channel_of_value (single_value b))
answer_of (log M) = entry (log_of M)
answer_of (root f) = entry (root_of f)
answer_of (greys K bs) = let s = grey_strip K bs in page_answer s (tally_strip s)
answer_of (averaged K bs) = steps_answer (tally_strip (grey_strip K bs))
answer_of (file bytes) = prints (bytes_of (printed_for bytes))

-- ---- what the papers answer

pub record Example : Type 0 where
  pub input : Input
  pub answer : Answer

infix 70 ◌gives◌
abbrev pub ◌gives◌ : Input → Answer → Example
i gives a = record { input = i; answer = a }

abbrev pub average : (A : ℤ) (E M : ℕ) → Option Average
average A E M = Some (A stored_as (record { exponent = E; mantissa = M }))

abbrev pub grey_words : List ℕ
grey_words =
    0x10008001 ∷ 0x200000B4 ∷ 0x400080FF ∷ 0x500080FF ∷ 0x600080FF ∷ 0x40007FFF ∷ 0x50007FFF ∷ 0x60007FFF ∷ 0x70000002 ∷ []

-- the same words in a file, "little-endian"
abbrev pub grey_file : List ℕ
grey_file =
    0x01 ∷ 0x80 ∷ 0x00 ∷ 0x10 ∷ 0xB4 ∷ 0x00 ∷ 0x00 ∷ 0x20 ∷
    0xFF ∷ 0x80 ∷ 0x00 ∷ 0x40 ∷ 0xFF ∷ 0x80 ∷ 0x00 ∷ 0x50 ∷ 0xFF ∷ 0x80 ∷ 0x00 ∷ 0x60 ∷
    0xFF ∷ 0x7F ∷ 0x00 ∷ 0x40 ∷ 0xFF ∷ 0x7F ∷ 0x00 ∷ 0x50 ∷ 0xFF ∷ 0x7F ∷ 0x00 ∷ 0x60 ∷
    0x02 ∷ 0x00 ∷ 0x00 ∷ 0x70 ∷ []

-- "Whole output, hexadecimal: 50 36 0A 32 20 31 0A 32 35 35 0A 34 34 34 1D 1D 1D"
abbrev pub grey_picture : List ℕ
grey_picture =
    0x50 ∷ 0x36 ∷ 0x0A ∷ 0x32 ∷ 0x20 ∷ 0x31 ∷ 0x0A ∷ 0x32 ∷ 0x35 ∷ 0x35 ∷ 0x0A ∷ 0x34 ∷ 0x34 ∷ 0x34 ∷ 0x1D ∷ 0x1D ∷ 0x1D ∷ []

abbrev pub table : List Example
table =
    -- "▲ half 3C00 → (128,255); ▲ 3C01 → (129,128); ▲ 0001 → (104,255)", "▲ 7BFF → (144,255)", "▲ FC00 refused 5"
    half 0x3C00 gives lit 128 255 ∷
    half 0x3C01 gives lit 129 128 ∷
    half 0x0001 gives lit 104 255 ∷
    half 0x7BFF gives lit 144 255 ∷
    half 0xFC00 gives refused 5 ∷
    -- "▲ byte 255, e 71 black; ▲ 127, e 185 → (184,255)"
    rgbe 255 71 gives black ∷
    rgbe 127 185 gives lit 184 255 ∷
    -- "▲ single 23000000 black", "▲ 5B800001 refused 6"
    single 0x23000000 gives black ∷
    single 0x5B800001 gives refused 6 ∷
    -- "▲ T[128] = 1793 .. T[255] = 2047; ▲ X[128] = 181", and "T[192] becomes 1943, T[128] stays 1793"
    log 128 gives entry 1793 ∷
    log 192 gives entry 1943 ∷
    log 255 gives entry 2047 ∷
    root 128 gives entry 181 ∷
    -- "▲ Greys 1.0 and 0.5: A = −129, average (128,180), levels 52 and 29. Greys 1.0, 1.0, 0.5: A = −87", under the "K 180" of
    -- document 01's line before it; the strip of the two is the picture program's input: "10008001 200000B4 400080FF 500080FF 600080FF
    -- 40007FFF 50007FFF 60007FFF 70000002"
    greys 180 (0x3C00 ∷ 0x3800 ∷ []) gives mapped grey_words (average (neg_ℤ (pos 129)) 128 180) (52 ∷ 52 ∷ 52 ∷ 29 ∷ 29 ∷ 29 ∷ []) ∷
    averaged 180 (0x3C00 ∷ 0x3C00 ∷ 0x3800 ∷ []) gives steps (neg_ℤ (pos 87)) ∷
    -- "refused when sixteen times its lit pixels is below its pixel count" (2026-03): one lit pixel of 16, and of 17; 1.0 has −1 steps
    averaged 180 (0x3C00 ∷ replicate 15 0) gives steps (neg_ℤ (pos 1)) ∷
    greys 180 (0x3C00 ∷ replicate 16 0) gives refused 9 ∷
    -- the picture program's input and output
    file grey_file gives prints grey_picture ∷
    []

-- The table is as the definitions have it. Proved as `table_holds` in proofs/Table.antt.
abbrev pub TableHolds : Type 0
TableHolds = map (λ (x : Example). answer_of x.input) table ≡ map (λ (x : Example). x.answer) table
