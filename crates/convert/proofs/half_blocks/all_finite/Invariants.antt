-- While `most` is small, the verdict on the elements that are left is that on all.
use Rattle.std.proofs.Common.{◌≡◌, ◌<◌}
use Rattle.word.specs.Placing.{first_refusal}
use Rattle.word.proofs.Walks.{checking}
use Rattle.convert.specs.Formats.{half, half_element, decoded_source}
use Rattle.convert.proofs.half_blocks.all_finite.Given as goal

abbrev pub invariant-loop-half : goal.invariant-loop-half
invariant-loop-half l = l.most < 31744 → checking half_element 0 l.source l.half-index ≡ first_refusal (decoded_source half l.source)
