-- How far lit pixels are counted. Assumes nothing.
use Rattle.std.specs.Prelude.{ℕ, ◌+◌, ◌/◌}

-- the least number of lit pixels that is enough for a page
abbrev pub enough_for : (pixels : ℕ) → ℕ
enough_for pixels = (pixels + 15) / 16
