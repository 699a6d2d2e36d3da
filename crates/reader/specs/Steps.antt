-- What a page reader is, and what a step makes of it. Assumes nothing.
-- "A page reader keeps the lent strip and walks it pixel by pixel"
use Rattle.std.specs.Prelude.{ℕ, ◌+◌, Bool, cond, ◌&&◌, List, [], ◌∷◌, map, pos, length, get_or, ltb, eqb, Err, None, Ok, Option, Result, Some}
use Rattle.std.specs.Borrow.{Bor}
use Rattle.number.specs.declared.channel.Pixel.{Pixel as PixelType}
use Rattle.number.specs.Channels.{code_of}
use Rattle.refusal.specs.Told.{Told, holding, refusing}
use Rattle.word.specs.Words.{body_start}
use Rattle.word.specs.Pixels.{pixel_of, word_channel}
use Rattle.strip.specs.Checks.{word_at, header_fields, check_strip}
use Rattle.strip.specs.Reading.{strip_pixels}
use Rattle.reader.specs.declared.PageReader.{PageReader}
use Rattle.refusal.specs.declared.Fault.{Fault}
use Rattle.refusal.specs.Verdicts.{Verdict}

-- ---- a position: the index of the next pixel's red word; over a refused strip 0, where no pixel begins

abbrev pub start_under : Verdict → List ℕ → ℕ
start_under (Ok u) s = body_start (header_fields s)
start_under (Err f) s = 0

abbrev pub start_of : List ℕ → ℕ
start_of s = start_under (check_strip s) s

-- 0 stands for none; the three words of a pixel stand before the end word
abbrev pub pixel_begins : (length position : ℕ) → Bool
pixel_begins n p = ltb 0 p && ltb (p + 3) n

abbrev pub pixel_from : List ℕ → (position : ℕ) → PixelType
pixel_from s p = pixel_of (word_channel (word_at s p)) (word_channel (word_at s (p + 1))) (word_channel (word_at s (p + 2)))

-- ---- a step

-- the next pixel, `Ok (Some p)`; "page over", `Ok None`; or, over a refused strip, "that number and place", `Err f`
abbrev pub Step : Type 0
Step = Result (Option PixelType) Fault

abbrev pub pixel_answer : PixelType → Step
pixel_answer p = Ok (Some p)

-- "Row and reader take only an accepted strip and check it themselves"; no reader of an accepted strip comes to position 0
abbrev pub step_under : Verdict → Step
step_under (Ok u) = Ok None
step_under (Err f) = Err f

unfoldable pub step_at : List ℕ → (position : ℕ) → Step
step_at s p = cond (pixel_begins (length s) p) (Ok (Some (pixel_from s p))) (cond (eqb p 0) (step_under (check_strip s)) (Ok None))

-- in numbers: whether the page is over, and the pixel's channels as 16-bit numbers; or the refusal
abbrev pub step_told : Step → Told
step_told (Ok (Some p)) = holding (pos 0 ∷ pos (code_of p.red) ∷ pos (code_of p.green) ∷ pos (code_of p.blue) ∷ [])
step_told (Ok None) = holding (pos 1 ∷ [])
step_told (Err f) = refusing f.refusal f.index

unfoldable pub position_after : List ℕ → (position : ℕ) → ℕ
position_after s p = cond (pixel_begins (length s) p) (p + 3) p

-- ---- on readers

abbrev pub opened_of : Bor (List ℕ) → PageReader
opened_of strip = record { strip = strip; position = start_of strip.now }

abbrev pub step_of : PageReader → Step
step_of r = step_at r.strip.now r.position

abbrev pub moved_of : PageReader → PageReader
moved_of r = record { strip = r.strip; position = position_after r.strip.now r.position }

-- ---- a run

-- the answer of step n, counted from 0, of a reader that is opened over a strip: "any run of it answers as the list of the pixels, then
-- 'page over', and stays there" .. "a reader over a refused strip tells that number and place at every step"
abbrev pub number_under : Verdict → (n : ℕ) → List PixelType → Step
number_under (Ok u) n ps = get_or (map pixel_answer ps) n (Ok None)
number_under (Err f) n ps = Err f

unfoldable pub step_number : List ℕ → (n : ℕ) → Step
step_number s n = number_under (check_strip s) n (strip_pixels s)
