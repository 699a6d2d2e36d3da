-- The words that are left give the same body as all.
use Rattle.std.proofs.Common.{◌≡◌, ◌+◌, ◌≤◌, length}
use Rattle.word.specs.loops.Walks.{writing}
use Rattle.convert.specs.Formats.{half_element}
use Rattle.convert.proofs.half_blocks.store_plain.Given as goal

abbrev pub invariant-loop-j : goal.invariant-loop-j
invariant-loop-j l =
    (l.j ≤ 48) × (length l.body ≡ length l.initial.body)
    × (writing half_element l.source (l.start + l.j) l.body ≡ writing half_element l.source l.start l.initial.body)
