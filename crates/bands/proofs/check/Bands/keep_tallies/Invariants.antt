-- What the loop keeps to.
use Rattle.bands.specs.loops.Walks.{strips_left}
use Rattle.bands.proofs.Walks.{Kept}
use Rattle.bands.proofs.check.Bands.keep_tallies.Given as goal

abbrev pub invariant-loop-band : goal.invariant-loop-band
invariant-loop-band l = Kept l.self.row.now l.initial.output l.output l.tally (strips_left l.band-iterator) l.done
