-- A walk's `next` gives the first of the strips that are left, as its iterator says. Assumes nothing.
use Rattle.std.proofs.Common.{rules, ap, length}
use Rattle.series.proofs.Laws.{series_next, series_over}
use Rattle.bands.proofs.walk.StripsIterator.next.Goals as goal

pub returns-then-self-clause-steps : goal.returns-then-self-clause-steps
returns-then-self-clause-steps c = rw c.strip_at-words.ensures (series_next _ _ c.if-self.true)

pub returns-then-self-clause-goes : goal.returns-then-self-clause-goes
returns-then-self-clause-goes c = let shorter = ap length (returns-then-self-clause-steps c) in search rules

pub returns-else-self-clause-steps : goal.returns-else-self-clause-steps
returns-else-self-clause-steps c = let e = series_over _ _ c.if-self.false in (e, e)
