-- for the crates above
pub mod Laws
pub mod Products
pub mod Storables
-- sums cut short, and the luminance
pub mod Sticky
pub mod CutSums
pub mod Luminances
-- the index of a luminance
pub mod Indices
pub mod Octaves
