-- The laws of a page for the crates above. Assumes nothing.

-- what the checks of the two calls say of a strip, and what becomes of them where every page of its length has room
pub use Rattle.page.proofs.Checks.{tally_checked, tally_whole, tally_lit, map_checked, map_fits, room_enough}
-- the words and pixels of an accepted strip; its tally, and what it is mapped under; the number of its level bytes
pub use Rattle.page.proofs.Strips.{strip_body, strip_valid, strip_tally_law, strip_tone, length_levels}
-- what the two calls promise; demand 3
pub use Rattle.page.proofs.Bounds.{tally_bound, map_bound, demand_three}
