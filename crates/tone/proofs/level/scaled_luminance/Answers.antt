-- `tone::level::scaled_luminance` meets its contract. Assumes nothing.
use mathlib.Core.Path.{◌∙◌}
use Rattle.luminance.proofs.Storables.{stored_in_law}
use Rattle.tone.proofs.Scaled.{scaled_storable, scaled_stored}
use Rattle.tone.proofs.level.scaled_luminance.Goals as goal

pub returns : goal.returns
returns c =
    c.stored_ratio.ensures ∙ stored_in_law (scaled_storable _ _ c.requires.0 c.requires.1) ∙ scaled_stored _ _ c.requires.0 c.requires.1
