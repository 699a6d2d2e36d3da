-- What the loop keeps to.
use Rattle.std.proofs.Common.{◌≡◌, ◌*◌, ◌^◌}
use Rattle.number.proofs.Laws.{Filled}
use Rattle.luminance.proofs.index.weight_table.Given as goal

-- the first i entries are filled
abbrev pub invariant-loop-i : goal.invariant-loop-i
invariant-loop-i l = Filled (λ k w. w ≡ l.weight * 2 ^ k) 48 l.i l.table
