-- `screen::through_curve` meets its contract: at each turn the levels that are left give the whole. Assumes nothing.
use Rattle.std.proofs.Common.{rules, ◌∙◌, get_or, arith}
use lib.ListN.{length-set}
use Rattle.screen.specs.Samples.{sample_of}
use Rattle.screen.proofs.Printing.{printing_next}
use Rattle.screen.proofs.through_curve.Goals as goal

pub loop-i-preserved : goal.loop-i-preserved
loop-i-preserved c =
    let l = c.loop-i in
    let level = get_or l.levels l.i 0 in (
      length-set l.levels l.i _ ∙ l.invariant.0,
      printing_next sample_of l.levels l.i (omega arith) (c.sample_table-samples.ensures.entry level (search rules)) ∙ l.invariant.1,
    )
