-- What the loop keeps to.
use Rattle.std.proofs.Common.{◌≡◌, ◌*◌, min}
use Rattle.body.proofs.LevelBlocks.{filled}
use Rattle.body.proofs.levels.map_levels.Given as goal

abbrev pub invariant-loop-block : goal.invariant-loop-block
invariant-loop-block l =
    (l.mapper.tone ≡ l.initial.mapper.tone)
    × (l.output ≡ filled l.initial.mapper.tone l.words l.initial.output (min (64 * l.block) l.pixels))
