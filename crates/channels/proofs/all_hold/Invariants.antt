-- The words of the blocks so far hold, in each quarter.
use Rattle.std.proofs.Common.{◌≡◌, ◌%◌, ◌≤◌}
use Rattle.channels.specs.loops.Holding.{QuartersHold}
use Rattle.channels.proofs.all_hold.Given as goal

abbrev pub invariant-loop-start : goal.invariant-loop-start
invariant-loop-start l = (l.start ≤ l.quarter) × (l.start % 48 ≡ 0) × QuartersHold l.words l.quarter 0 l.start
