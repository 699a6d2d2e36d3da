pub mod Refusals
pub mod Faults
pub mod Verdicts
pub mod Output
pub mod Told
