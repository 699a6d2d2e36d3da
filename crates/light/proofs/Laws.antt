-- The laws of light for the crates above. Assumes nothing.

-- the rule: an accepted page has a lit pixel; its lit pixels may be counted up to what is enough
pub use Rattle.light.proofs.Light.{light_lit, counted_enough}
