-- `least` is at most one less than each half so far.
use Rattle.std.proofs.Common.{ℕ, ◌+◌, ◌%◌, ◌<◌, ◌≤◌, get_or}
use Rattle.convert.proofs.half_blocks.is_plain.Given as goal

abbrev pub invariant-loop-j : goal.invariant-loop-j
invariant-loop-j l = (k : ℕ) → k < l.j → l.least ≤ (get_or l.source (l.start + k) 0 + 65535) % 65536
