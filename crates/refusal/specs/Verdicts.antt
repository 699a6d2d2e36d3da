-- The answer of a check, and how checks follow one another. Assumes nothing.
use Rattle.std.specs.Prelude.{ℕ, Bool, true, false, Result, Ok, Err}
use Rattle.refusal.specs.declared.Refusal.{Refusal}
use Rattle.refusal.specs.declared.Fault.{Fault}
use Rattle.refusal.specs.declared.Outcome.{Outcome}
use Rattle.refusal.specs.Faults.{◌found_at◌}
use Rattle.refusal.specs.Refusals.{◌at◌, outcome_of}

-- accepted, or a fault
abbrev pub Verdict : Type 0
Verdict = Result Unit Fault

abbrev pub accepted : Verdict
accepted = Ok tt

-- "A refusal returns number and place"; an accepted call has neither, and both are 0
abbrev pub report_of : Verdict → Outcome
report_of (Ok u) = 0 at 0
report_of (Err f) = outcome_of f.refusal f.index

-- A chain of checks is written in the order in which they are made: `require test refusal index rest`, one line a condition. The first
-- condition that is not met decides; where all are met, the chain ends in `accepted`. So no refusal comes without its condition, and
-- none is passed over. Elements and words in a row are chained likewise, by `and_then`.
unfoldable pub require : Bool → Refusal → (i : ℕ) → Verdict → Verdict
require true r i rest = rest
require false r i rest = Err (r found_at i)

-- one chain behind another
unfoldable pub and_then : Verdict → Verdict → Verdict
and_then (Ok u) rest = rest
and_then (Err f) rest = Err f
