-- The laws of levels for the crates above. Assumes nothing.

-- steps 4 to 6: the range of a scaled luminance and of a display luminance's mantissa; black gives 0
pub use Rattle.tone.proofs.Scaled.{is_scaled}
pub use Rattle.tone.proofs.PixelBounds.{display_mantissa}
pub use Rattle.tone.proofs.LevelSteps.{black_level}
-- below 255 no half is rounded
pub use Rattle.tone.proofs.Halves.{no_half}
-- a factor: its bound, that of a right table, and the levels by it
pub use Rattle.tone.proofs.Factors.{factor_most, factor_by_law, level_by_factor, level_unlit}
-- the second half of demand 3, for every curve that never stretches a ratio, and for that of every page
pub use Rattle.tone.proofs.Curves.{NeverStretches, curve_ratio}
pub use Rattle.tone.proofs.LevelBounds.{pixel_bound}
pub use Rattle.tone.proofs.PixelBounds.{level_bound}
