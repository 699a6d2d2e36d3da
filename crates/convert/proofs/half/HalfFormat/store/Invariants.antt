-- The words that are left give the same body as all.
use Rattle.std.proofs.Common.{◌≡◌, ◌*◌, length}
use Rattle.word.specs.loops.Walks.{writing}
use Rattle.convert.specs.Formats.{half_element}
use Rattle.convert.proofs.half.HalfFormat.store.Given as goal

abbrev pub invariant-loop-block : goal.invariant-loop-block
invariant-loop-block l =
    (length l.body ≡ length l.initial.body)
    × (writing half_element l.source (l.block * 48) l.body ≡ writing half_element l.source 0 l.initial.body)
