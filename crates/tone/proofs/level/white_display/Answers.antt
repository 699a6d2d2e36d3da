-- `tone::level::white_display` meets its contract. Assumes nothing.
use mathlib.Core.Path.{sym}
use native.Mathlib.Omega.{arith}
use borrow.Author.Rules.{rules}
use Rattle.tone.proofs.Displays.{dark_is_itself}
use Rattle.tone.proofs.Whites.{white_one}
use Rattle.tone.proofs.level.white_display.Goals as goal

pub returns-then-exponent : goal.returns-then-exponent
returns-then-exponent c =
    sym (dark_is_itself _ c.requires.0 _ (omega arith) (search rules))

pub returns-then-tenths-eq10 : goal.returns-then-tenths-eq10
returns-then-tenths-eq10 c =
    rw c.if-tenths-eq10.true (sym (white_one _ (search rules)))
