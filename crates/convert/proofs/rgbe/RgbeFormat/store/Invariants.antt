-- The words of the pixels that are left give the whole body.
use Rattle.std.proofs.Common.{◌≡◌, length}
use Rattle.word.specs.Words.{body_words}
use Rattle.word.specs.Placing.{channels_of}
use Rattle.convert.specs.Formats.{rgbe, decoded_source}
use Rattle.convert.proofs.Pixels.{writing}
use Rattle.convert.proofs.rgbe.RgbeFormat.store.Given as goal

abbrev pub invariant-loop-p : goal.invariant-loop-p
invariant-loop-p l =
    (length l.body ≡ length l.initial.body)
    × (writing l.source l.p l.body ≡ body_words 0 (channels_of (decoded_source rgbe l.source)))
