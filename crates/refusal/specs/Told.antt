-- Answers in the paper's numbers. Assumes nothing.
-- "Where an answer is an enum, a definition gives this paper's number and values for each of its cases, and the promises use that
-- definition." That of a verdict is `report_of`; every other is a `Told`, defined beside its enum.
use Rattle.std.specs.Prelude.{ℕ, List, [], ℤ}
use Rattle.refusal.specs.declared.Refusal.{Refusal}
use Rattle.refusal.specs.declared.Outcome.{Outcome}
use Rattle.refusal.specs.Refusals.{◌at◌, outcome_of}

-- number and place, and the values behind them
pub record Told : Type 0 where
  pub outcome : Outcome
  pub values : List ℤ

-- an accepted answer: its values
abbrev pub holding : List ℤ → Told
holding vs = record { outcome = 0 at 0; values = vs }

-- "A refusal returns number and place", and nothing else
abbrev pub refusing : Refusal → (i : ℕ) → Told
refusing r i = record { outcome = outcome_of r i; values = [] }
