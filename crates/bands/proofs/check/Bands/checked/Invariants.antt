-- What the loop keeps to.
use Rattle.std.proofs.Common.{◌≡◌, ◌<◌, length}
use Rattle.strip.specs.Checks.{header_fields}
use Rattle.bands.specs.loops.Walks.{strips_left}
use Rattle.bands.proofs.Checking.{Checking}
use Rattle.bands.proofs.check.Bands.checked.Given as goal

abbrev pub invariant-loop-band : goal.invariant-loop-band
invariant-loop-band l =
    record {
      some : 0 < length l.row;
      first : l.first ≡ header_fields l.row;
      walk : Checking l.row l.first l.above (strips_left l.band-iterator);
    }
