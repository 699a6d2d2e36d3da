-- What the loop keeps to.
use Rattle.std.proofs.Common.{◌≡◌, ◌*◌, length, take}
use Rattle.word.specs.Pixels.{word_pixels}
use Rattle.body.specs.Levels.{levels_under}
use Rattle.body.specs.loops.LevelBlocks.{limited_front}
use Rattle.body.proofs.levels.Mapper.wide_levels.Given as goal

abbrev pub invariant-loop-j : goal.invariant-loop-j
invariant-loop-j l =
    (l.self.tone ≡ l.initial.self.tone) × (length l.wide ≡ 192)
    × (limited_front (3 * l.j) l.wide ≡ levels_under l.initial.self.tone (take l.j (word_pixels l.words)))
