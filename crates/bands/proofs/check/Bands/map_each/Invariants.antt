-- What the loop keeps to.
use Rattle.bands.specs.loops.Walks.{strips_left}
use Rattle.bands.proofs.Walks.{Mapped}
use Rattle.bands.proofs.check.Bands.map_each.Given as goal

abbrev pub invariant-loop-band : goal.invariant-loop-band
invariant-loop-band l = Mapped l.self.row.now l.tone l.initial.output l.output (strips_left l.band-iterator) l.done
