-- What the loop keeps to.
use Rattle.std.proofs.Common.{◌≡◌, ◌*◌, ◌≤◌, min, length}
use Rattle.body.specs.loops.Tallying.{steps_at, unlit_at, lowest, from_darkest, from_brightest}
use Rattle.body.proofs.Walks.{summing, lowering, indexed}
use Rattle.body.proofs.tally.index_pixels.Given as goal

abbrev pub invariant-loop-block : goal.invariant-loop-block
invariant-loop-block l =
    let p = min (16 * l.block) l.pixels in
    (length l.output ≡ length l.initial.output) × (length l.words ≤ length l.initial.output → l.output ≡ indexed l.initial.output 0 l.words p)
    × (lowest l.lanes.dark ≡ lowering from_darkest l.words p) × (lowest l.lanes.bright ≡ lowering from_brightest l.words p)
    × (l.sums.unlit ≡ summing unlit_at l.words p) × (l.sums.raised ≡ summing steps_at l.words p)
