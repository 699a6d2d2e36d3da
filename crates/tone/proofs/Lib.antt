-- for the crates above
pub mod Laws
-- steps 4 to 6
pub mod Scaled
pub mod ScaledTables
pub mod Displays
pub mod Whites
pub mod LevelSteps
pub mod Halves
-- step 6 by factors
pub mod Powers
pub mod Factors
-- the second half of demand 3
pub mod Close
pub mod Curves
pub mod Rounding
pub mod LevelBounds
pub mod PixelBounds
