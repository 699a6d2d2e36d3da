-- for the crates above
pub mod Laws
-- T and X
pub mod Rules
-- division of signed numbers
pub mod Division
pub mod Widths
-- extremes, sums and averages
pub mod Order
pub mod Widening
pub mod Spread
pub mod Sums
pub mod Averages
-- the first half of demand 3
pub mod Mean
