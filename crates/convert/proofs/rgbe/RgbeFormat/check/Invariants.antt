-- The verdict on the pixels that are left is that on all.
use Rattle.std.proofs.Common.{◌≡◌}
use Rattle.word.specs.Placing.{first_refusal}
use Rattle.convert.specs.Formats.{rgbe, decoded_source}
use Rattle.convert.proofs.Pixels.{left}
use Rattle.convert.proofs.rgbe.RgbeFormat.check.Given as goal

abbrev pub invariant-loop-p : goal.invariant-loop-p
invariant-loop-p l = first_refusal (left l.source l.p) ≡ first_refusal (decoded_source rgbe l.source)
