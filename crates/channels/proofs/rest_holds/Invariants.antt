-- The words so far hold.
use Rattle.channels.specs.loops.Holding.{AllHold}
use Rattle.channels.proofs.rest_holds.Given as goal

abbrev pub invariant-loop-k : goal.invariant-loop-k
invariant-loop-k l = AllHold l.words l.from l.k
