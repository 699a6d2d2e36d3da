-- Demand 3, second half, of the steps as they are stored, for the curve of every page. Assumes nothing.
use native.Mathlib.Omega.{arith}
use Rattle.number.proofs.Laws.{stored_worth, IsMantissa, is_mantissa, near}
use Rattle.number.specs.declared.ratio.Stored.{Stored}
use Rattle.luminance.specs.Pixels.{IsLuminance}
use Rattle.tone.specs.declared.tone.Tone.{Tone}
use Rattle.tone.specs.Claims.{StepsStore, LevelIsBounded}
use Rattle.tone.specs.Levels.{IsTone, scaled_of, curve_of, display_under}
use Rattle.tone.proofs.Curves.{curve_ratio, curve_between}
use Rattle.tone.proofs.Displays.{display_stores}
use Rattle.tone.proofs.LevelBounds.{pixel_bound}
use Rattle.luminance.proofs.Luminances.{luminance_range, luminance_stores}
use Rattle.luminance.proofs.Storables.{StoresAs}
use Rattle.tone.proofs.Scaled.{is_scaled, scaled_stores}

-- the display luminance is stored by the rule
under_stores : (t : Tone) (y : Stored) → IsTone t → IsLuminance y
    → StoresAs (curve_of t.white (stored_worth (scaled_of t y))) (display_under t y)
under_stores t y tone range =
    let fits = tone.white in
    display_stores (curve_of t.white) (curve_ratio _ fits) (curve_between _ fits) (scaled_of t y) (is_scaled t y tone range)

pub level_bound : LevelIsBounded
level_bound p valid y e c _ t tone =
    let range = luminance_range p valid y e in
    pixel_bound (curve_of t.white) (curve_ratio _ tone.white) t y _ _ p c (near (luminance_stores p valid y e))
    (near (scaled_stores t y tone range)) (near (under_stores t y tone range)) (omega arith)

pub steps_store : StepsStore
steps_store p valid y e t tone =
    let range = luminance_range p valid y e in
    record {
      luminance = luminance_stores p valid y e;
      scaled = scaled_stores t y tone range;
      display = under_stores t y tone range;
    }

-- the mantissa of a display luminance
pub display_mantissa : (t : Tone) (y : Stored) → IsTone t → IsLuminance y → IsMantissa (display_under t y).mantissa
display_mantissa t y tone range = is_mantissa (under_stores t y tone range)
