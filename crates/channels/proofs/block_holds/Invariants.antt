-- As long as there is no fault, the words so far hold.
use Rattle.std.proofs.Common.{◌+◌, ◌≤◌}
use Rattle.channels.specs.loops.Holding.{NoFault, AllHold}
use Rattle.channels.proofs.block_holds.Given as goal

abbrev pub invariant-loop-j : goal.invariant-loop-j
invariant-loop-j l = (l.j ≤ 48) × (NoFault l.bits → AllHold l.words l.start (l.start + l.j))
