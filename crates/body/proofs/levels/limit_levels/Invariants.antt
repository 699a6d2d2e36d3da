-- What the loop keeps to.
use Rattle.std.proofs.Common.{◌≡◌, length}
use Rattle.word.proofs.Walks.{storing}
use Rattle.body.specs.loops.LevelBlocks.{limited_front}
use Rattle.body.proofs.levels.limit_levels.Given as goal

abbrev pub invariant-loop-j : goal.invariant-loop-j
invariant-loop-j l =
    (length l.output ≡ length l.initial.output)
    × (storing (limited_front (length l.initial.output) l.wide) l.j l.j l.output ≡ limited_front (length l.initial.output) l.wide)
