-- `body::tally::Lanes::keep_lowest` meets its contract: at each turn the lowest is that of the numbers so far. Assumes nothing.
use Rattle.std.proofs.Common.{◌<◌, length, get_or, set, ap, ◌∙◌, arith, length-set, rules}
use Rattle.body.specs.loops.Tallying.{lowest, from_darkest, from_brightest}
use Rattle.body.proofs.Tallying.{lowest_most, kept_next}
use Rattle.body.proofs.tally.Lanes.keep_lowest.Goals as goal

pub loop-j-init : goal.loop-j-init
unfolding lowest
loop-j-init c =
    let lanes = c.args.self.now in
    (search rules, omega (arith, lowest_most lanes.dark), search rules, omega (arith, lowest_most lanes.bright))

pub loop-j-preserved : goal.loop-j-preserved
loop-j-preserved c =
    let l = c.loop-j in
    let is = c.args.indices.now in
    let i = get_or is l.j 0 in
    let inv = l.invariant in
    let inside : l.j < length is = omega arith in (
      rw length-set inv.0,
      ap (λ w. lowest (set l.self.dark l.j w)) c.min.ensures
          ∙ kept_next from_darkest is l.j inside _ l.self.dark (omega (arith, inv.0, inside)) inv.1,
      rw length-set inv.2,
      ap (λ w. lowest (set l.self.bright l.j w)) c.min-in-loop-j.ensures
          ∙ kept_next from_brightest is l.j inside _ l.self.bright (omega (arith, inv.2, inside)) inv.3,
    )
