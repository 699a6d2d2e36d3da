-- The laws of strips in a row for the crates above. Assumes nothing.

-- the strips from one on; of a strip before other words
pub use Rattle.series.proofs.Strips.{strip_at_within, series_next, series_over, front_same, series_append}
-- the check of a strip where it stands
pub use Rattle.series.proofs.Strips.{standing_accepted, standing_met}
