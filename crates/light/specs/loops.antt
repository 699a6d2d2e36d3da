-- What loops keep to: no rule of the papers, and no claim.
pub mod Counting
