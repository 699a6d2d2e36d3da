-- What any run of a page reader answers. Assumes nothing.
use Rattle.std.specs.Prelude.{ℕ, zero, suc, ◌-◌, ◌≡◌, List, [], ◌∷◌, ◌++◌, map, length, take, replicate, Err, None, Ok}
use Rattle.std.specs.Borrow.{Bor}
use Rattle.number.specs.declared.channel.Pixel.{Pixel as PixelType}
use Rattle.strip.specs.Checks.{check_strip}
use Rattle.strip.specs.Reading.{strip_pixels}
use Rattle.reader.specs.declared.PageReader.{PageReader}
use Rattle.reader.specs.Steps.{Step, pixel_answer, opened_of, step_of, moved_of}
use Rattle.refusal.specs.Verdicts.{Verdict}

-- the answers of n steps, each by the reader that the one before it left
abbrev pub answers_of : (n : ℕ) → PageReader → List Step
answers_of zero r = []
answers_of (suc n) r = step_of r ∷ answers_of n (moved_of r)

-- "any run of it answers as the list of the pixels, then 'page over', and stays there" ..
-- "a reader over a refused strip tells that number and place at every step"
abbrev pub answers_under : Verdict → (n : ℕ) → List PixelType → List Step
answers_under (Ok u) n ps = take n (map pixel_answer ps) ++ replicate (n - length ps) (Ok None)
answers_under (Err f) n ps = replicate n (Err f)

-- a reader that answers so for a strip of these words, whatever the number of steps
abbrev pub AnswersFor : List ℕ → PageReader → Type 0
AnswersFor s r = (n : ℕ) → answers_of n r ≡ answers_under (check_strip s) n (strip_pixels s)

-- Proved as `every_run` in proofs/Runs.antt, and a clause of `PageReader::open`.
abbrev pub EveryRun : Type 0
EveryRun = (strip : Bor (List ℕ)) → AnswersFor strip.now (opened_of strip)
