-- The codes so far are those of the halves.
use Rattle.std.proofs.Common.{◌≡◌, ◌+◌, get_or}
use Rattle.number.specs.loops.Halves.{half_code}
use Rattle.number.proofs.Laws.{Filled}
use Rattle.convert.proofs.half_blocks.plain_codes.Given as goal

abbrev pub invariant-loop-j : goal.invariant-loop-j
invariant-loop-j l = Filled (λ k w. w ≡ half_code (get_or l.source (l.start + k) 0)) 48 l.j l.codes
