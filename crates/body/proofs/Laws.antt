-- The laws of channel words tallied and mapped, for the crates above. Assumes nothing.

-- pixels of words are pixels; the luminance of a lit one; how many there are; their ranges
pub use Rattle.body.proofs.Luminances.{pixels_valid, stored_luminance, lit_luminance, lit_count_law, lit_few, luminances_few, every_luminance}
-- the codes of a pixel of words
pub use Rattle.body.proofs.Indices.{pixel_codes}
-- pixels one after another: how many are lit, their tally and their levels
pub use Rattle.body.proofs.Luminances.{lit_append, tally_join}
pub use Rattle.body.proofs.Bytes.{levels_append, length_levels}
-- indices that a tally left in an output, and levels in their place
pub use Rattle.body.proofs.Bytes.{indices_append, length_indices}
pub use Rattle.body.proofs.Indices.{indices_held, over_indices}
