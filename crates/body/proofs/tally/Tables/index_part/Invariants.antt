-- What the loop keeps to.
use Rattle.std.proofs.Common.{◌≡◌, ◌≤◌, length}
use Rattle.body.specs.loops.Tallying.{steps_at, unlit_at}
use Rattle.body.proofs.Walks.{summing, noted, indexed}
use Rattle.body.proofs.tally.Tables.index_part.Given as goal

abbrev pub invariant-loop-p : goal.invariant-loop-p
invariant-loop-p l =
    (length l.output ≡ length l.initial.output) × (l.all ≤ length l.initial.output → l.output ≡ indexed l.initial.output l.at l.words l.p) × (l.indices ≡ noted l.initial.indices l.words l.p)
    × (l.unlit ≡ summing unlit_at l.words l.p) × (l.raised ≡ summing steps_at l.words l.p)
