pub mod Limits
pub mod Bodies
pub mod Parts
pub mod RoundTrip
pub mod Places
