-- What crosses to C: a page's header as numbers, and answers as structs of numbers. Assumes nothing.
-- Each answer is the one that its enum's definition gives in numbers, field by field; a field that an answer leaves free is 0.
use Rattle.std.specs.Prelude.{ℕ, zero, suc, ◌≡◌, List}
use Rattle.refusal.specs.declared.Outcome.{Outcome}
use Rattle.refusal.specs.Verdicts.{report_of}
use Rattle.refusal.specs.Output.{after}
use Rattle.word.specs.declared.header.Header.{Header}
use Rattle.strip.specs.Reading.{header_told}
use Rattle.row.specs.Rows.{row_told}
use Rattle.reader.specs.Steps.{step_told}
use Rattle.page.specs.Tallying.{tally_told}
use Rattle.answers.specs.Values.{value_at, signed_at}
use Rattle.answers.specs.declared.headers.Page.{Page}
use Rattle.answers.specs.declared.headers.HeaderAnswer.{HeaderAnswer}
use Rattle.answers.specs.declared.rows.RowAnswer.{RowAnswer}
use Rattle.answers.specs.declared.steps.StepAnswer.{StepAnswer}
use Rattle.answers.specs.declared.tallies.TallyAnswer.{TallyAnswer}
use Rattle.std.specs.Prelude.{None, Result, Some}
use Rattle.page.specs.declared.tally.PageTally.{PageTally}
use Rattle.reader.specs.Steps.{Step}
use Rattle.refusal.specs.Verdicts.{Verdict}
use Rattle.refusal.specs.declared.Fault.{Fault}
use Rattle.row.specs.declared.Part.{Part}
use Rattle.white.specs.Whites.{White}

-- the white point that two numbers of C stand for: none where the first is 0, whatever the second; else the second
unfoldable pub white_given : (present W : ℕ) → White
white_given zero W = None
white_given (suc n) W = Some W

-- the header that a page's numbers stand for
unfoldable pub header_of : Page → Header
header_of p = record { width = p.width; height = p.height; key = p.key; white = white_given p.white_present p.white }

-- a call with an output: what it tells, and what the output holds then, are both its verdict's
pub record Reports (verdict : Verdict) (front old : List ℕ) (told : Outcome) (new : List ℕ) : Type 0 where
  pub outcome : told ≡ report_of verdict
  pub content : new ≡ after verdict front old

-- a page's header, or its refusal
abbrev pub header_answer : Result Header Fault → HeaderAnswer
header_answer a =
    let t = header_told a in
    record {
      number = t.outcome.number;
      place = t.outcome.place;
      width = value_at t 0;
      height = value_at t 1;
      key = value_at t 2;
      white_present = value_at t 3;
      white = value_at t 4;
    }

-- where a row stands, or its refusal
abbrev pub row_answer : Result Part Fault → RowAnswer
row_answer a =
    let t = row_told a in
    record { number = t.outcome.number; place = t.outcome.place; start = value_at t 0; length = value_at t 1 }

-- a page's tally, or its refusal
abbrev pub tally_answer : Result PageTally Fault → TallyAnswer
tally_answer a =
    let t = tally_told a in
    record {
      number = t.outcome.number;
      place = t.outcome.place;
      lit = value_at t 0;
      sum = signed_at t 1;
      present = value_at t 2;
      average = signed_at t 3;
      exponent = value_at t 4;
      mantissa = value_at t 5;
      darkest_exponent = value_at t 6;
      darkest_mantissa = value_at t 7;
      brightest_exponent = value_at t 8;
      brightest_mantissa = value_at t 9;
    }

-- a step of a page reader, or the strip's refusal
abbrev pub step_answer : Step → StepAnswer
step_answer a =
    let t = step_told a in
    record {
      number = t.outcome.number;
      place = t.outcome.place;
      over = value_at t 0;
      red = value_at t 1;
      green = value_at t 2;
      blue = value_at t 3;
    }
