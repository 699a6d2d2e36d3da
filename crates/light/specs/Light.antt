-- Whether enough of a page's pixels are lit (2026-03). Assumes nothing.
-- "Twice a week someone photographs the lens cap and embosses a black plate."
use Rattle.std.specs.Prelude.{ℕ, ◌*◌, leb}
use Rattle.refusal.specs.declared.Refusal.TheVariants.{DarkPage}
use Rattle.refusal.specs.Verdicts.{require, Verdict, accepted}

-- "A page is now refused when sixteen times its lit pixels is below its pixel count."
unfoldable pub check_light : (lit pixels : ℕ) → Verdict
check_light lit pixels = require (leb pixels (16 * lit)) DarkPage 0 accepted
