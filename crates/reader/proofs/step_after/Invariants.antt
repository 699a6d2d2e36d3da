-- The reader is the opened one after as many steps as turns. Assumes nothing.
use Rattle.std.proofs.Common.{◌≡◌, ◌≤◌}
use Rattle.reader.proofs.Numbers.{moved_by}
use Rattle.reader.proofs.step_after.Given as goal

abbrev pub invariant-loop : goal.invariant-loop
invariant-loop l = record { in_range : l.counter ≤ l.taken; moved : l.reader ≡ moved_by l.counter l.initial.reader }
