-- for the crates above
pub mod Laws
-- lists of pixels
pub mod Bytes
pub mod Luminances
-- the tally, and the indices that it keeps
pub mod Indices
pub mod NearBlocks
pub mod Tallying
pub mod Walks
-- the levels
pub mod Factors
pub mod LevelBlocks
