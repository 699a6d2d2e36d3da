-- What loops and tables keep to: no rule of the papers, and no claim.
pub mod Indices
pub mod Tallying
pub mod NearBlocks
pub mod FactorTables
pub mod LevelBlocks
