-- What the loop keeps to.
use Rattle.std.proofs.Common.{◌≡◌, min, map, length, take}
use Rattle.body.specs.loops.Tallying.{lowest, from_darkest, from_brightest}
use Rattle.body.proofs.tally.Lanes.keep_lowest.Given as goal

abbrev pub invariant-loop-j : goal.invariant-loop-j
invariant-loop-j l =
    (length l.self.dark ≡ 16) × (lowest l.self.dark ≡ min (lowest l.initial.self.dark) (lowest (map from_darkest (take l.j l.indices))))
    × (length l.self.bright ≡ 16) × (lowest l.self.bright ≡ min (lowest l.initial.self.bright) (lowest (map from_brightest (take l.j l.indices))))
