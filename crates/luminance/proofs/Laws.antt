-- The laws of luminances for the crates above. Assumes nothing.

-- the luminance of a lit pixel is what is stored of its exact luminance, and lies from (67,246) to (184,255)
pub use Rattle.luminance.proofs.Luminances.{luminance_stores, luminance_range, luminance_in_range}
-- the luminances stand at their indices, which go from 128 on
pub use Rattle.luminance.proofs.Indices.{index_stored, index_range}
-- the index by codes is right where it is no multiple of 128
pub use Rattle.luminance.proofs.Octaves.{is_near}
