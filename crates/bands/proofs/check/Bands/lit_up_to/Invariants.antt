-- What the loop keeps to.
use Rattle.bands.specs.loops.Walks.{strips_left}
use Rattle.bands.proofs.Walks.{Counted}
use Rattle.bands.proofs.check.Bands.lit_up_to.Given as goal

abbrev pub invariant-loop-band : goal.invariant-loop-band
invariant-loop-band l = Counted l.self.row.now l.most l.lit (strips_left l.band-iterator)
