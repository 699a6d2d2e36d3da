-- What loops and tables keep to: no rule of the papers, and no claim.
pub mod HalfBlocks
pub mod Stores
pub mod Counts
