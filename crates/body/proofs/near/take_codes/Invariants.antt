-- What the loop keeps to.
use Rattle.std.proofs.Common.{◌≡◌, ◌+◌, ◌*◌, get_or}
use Rattle.number.proofs.Laws.{Filled}
use Rattle.word.specs.Fields.{low16}
use Rattle.body.proofs.near.take_codes.Given as goal

abbrev pub invariant-loop-j : goal.invariant-loop-j
invariant-loop-j l = Filled (λ k w. w ≡ low16 (get_or l.words (l.start + 3 * k) 0)) 16 l.j l.codes
