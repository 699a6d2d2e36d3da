-- What the loop keeps to.
use mathlib.Core.Path.{◌≡◌}
use mathlib.Core.List.{map}
use lib.ListN.{length}
use Rattle.word.specs.Fields.{low16}
use Rattle.refusal.specs.Output.{onto}
use Rattle.word.proofs.Walks.{storing}
use Rattle.strip.proofs.read.store_codes.Given as goal

abbrev pub invariant-loop-i : goal.invariant-loop-i
invariant-loop-i l = (length l.output ≡ length l.initial.output) × (storing (map low16 l.words) l.i l.i l.output ≡ onto (map low16 l.words) l.initial.output)
