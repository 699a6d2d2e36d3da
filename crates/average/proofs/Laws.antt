-- The laws of tallies and averages for the crates above. Assumes nothing.

-- what T promises, and the range of a luminance's steps
pub use Rattle.average.proofs.Rules.{log_below, log_above}
pub use Rattle.average.proofs.Sums.{steps_least, steps_most}
-- tallies: of lists one after the other; by raised steps; the range of the sum, which 64 bits hold; what `join` takes; the extremes
pub use Rattle.average.proofs.Sums.{tallies_join, total_append, sum_is, raised_most, sum_fits, is_tally}
pub use Rattle.average.proofs.Widening.{extremes_hold}
-- what X promises; the ranges of an average in steps and of a stored average; when one is reported
pub use Rattle.average.proofs.Rules.{root_below, root_above}
pub use Rattle.average.proofs.Averages.{sum_has_average, stored_average_range, Reported, reported, present, reported_range}
-- the first half of demand 3
pub use Rattle.average.proofs.Mean.{mean_bound}
