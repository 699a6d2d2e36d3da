-- What loops and tables keep to: no rule of the papers, and no claim.
pub mod Factors
pub mod ScaledTables
pub mod Quotients
