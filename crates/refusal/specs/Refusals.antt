-- The refusal list of document 01 with the lines that document 02 adds, the only list of numbers and places. The condition of each stands
-- with the check that makes it. Assumes nothing.
use Rattle.std.specs.Prelude.{ℕ}
use Rattle.refusal.specs.declared.Refusal.{Refusal}
use Rattle.refusal.specs.declared.Refusal.TheVariants.{
  BadSize,
  BadKey,
  WrongLength,
  SmallOutput,
  NotANumber,
  TooBright,
  UnexpectedWord,
  InvalidChannel,
  DarkPage,
  BadWhite,
  NoSuchRow,
  UnlikeBands,
}
use Rattle.refusal.specs.declared.Outcome.{Outcome}

infix 40 ◌at◌
abbrev pub ◌at◌ : (number place : ℕ) → Outcome
n at p = record { number = n; place = p }

-- "A refusal returns number and place: the index of the offending element or word for 5 to 8, else 0." i is that index.
abbrev pub outcome_of : Refusal → (i : ℕ) → Outcome
-- "bad size"
outcome_of BadSize i = 1 at 0
-- "bad key"
outcome_of BadKey i = 2 at 0
-- "wrong length"
outcome_of WrongLength i = 3 at 0
-- "small tray"
outcome_of SmallOutput i = 4 at 0
-- "no number"
outcome_of NotANumber i = 5 at i
-- "too bright"
outcome_of TooBright i = 6 at i
-- "foreign word"
outcome_of UnexpectedWord i = 7 at i
-- "wild channel"
outcome_of InvalidChannel i = 8 at i
-- "dark page" (2026-03)
outcome_of DarkPage i = 9 at 0
-- "bad white" (2026-05)
outcome_of BadWhite i = 10 at 0
-- "no such row"
outcome_of NoSuchRow i = 20 at 0
-- "unlike bands" (2026-02)
outcome_of UnlikeBands i = 21 at 0
