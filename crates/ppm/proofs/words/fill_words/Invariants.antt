-- What the loop keeps to.
use Rattle.std.proofs.Common.{◌≡◌, length}
use Rattle.refusal.specs.Output.{onto}
use Rattle.word.proofs.Walks.{storing}
use Rattle.ppm.specs.Words.{little_endian}
use Rattle.ppm.proofs.words.fill_words.Given as goal

abbrev pub invariant-loop-i : goal.invariant-loop-i
invariant-loop-i l = (length l.output ≡ length l.initial.output) × (storing (little_endian l.bytes) l.i l.i l.output ≡ onto (little_endian l.bytes) l.initial.output)
