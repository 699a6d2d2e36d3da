-- What the loop keeps to.
use Rattle.bands.specs.loops.Walks.{strips_left}
use Rattle.bands.proofs.Walks.{Tallied}
use Rattle.bands.proofs.check.Bands.tally.Given as goal

abbrev pub invariant-loop-band : goal.invariant-loop-band
invariant-loop-band l = Tallied l.self.row.now l.tally (strips_left l.band-iterator)
