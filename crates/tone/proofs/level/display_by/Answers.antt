-- `tone::level::display_by` meets its contract. Assumes nothing.
use mathlib.Core.Path.{◌≡◌, ◌∙◌, ap, sym, subst}
use Prim.Native.Nat.{ℕ, ◌-◌}
use native.Mathlib.Nat.{add-sub_of_le}
use native.Mathlib.Omega.{arith}
use mathlib.Core.List.{List}
use lib.ListN.{get_or}
use Rattle.number.specs.declared.ratio.Stored.{Stored}
use Rattle.luminance.specs.Pixels.{IsLuminance}
use Rattle.tone.specs.declared.tone.Tone.{Tone}
use Rattle.tone.specs.Levels.{IsTone, scaled_of, curve_of, display_of}
use Rattle.tone.specs.Claims.{IsScaled}
use Rattle.tone.specs.loops.ScaledTables.{scaled_code, IsScaledTable}
use Rattle.tone.proofs.Scaled.{is_scaled}
use Rattle.tone.proofs.ScaledTables.{Moved, scaled_moved}
use Rattle.tone.proofs.level.display_by.Goals as goal

-- by the entry that is read
moved : (codes : List ℕ) (t : Tone) (y : Stored) → IsScaledTable t codes × IsTone t × IsLuminance y
    → Moved (get_or codes (y.mantissa - 128) 0) y (scaled_of t y)
moved codes t y given = rw got (scaled_moved t y given.1 given.2)
  where
    got : get_or codes (y.mantissa - 128) 0 ≡ scaled_code t y.mantissa
    got =
        given.0.entry (y.mantissa - 128) (omega (arith, given.2.mantissa))
        ∙ ap (scaled_code t) (add-sub_of_le given.2.mantissa.least)

pub overflow_sub-scaled : goal.overflow_sub-scaled
overflow_sub-scaled c =
    omega (arith, (moved c.args.codes.now c.args.tone c.args.luminance c.requires).least)

pub overflow_cast-scaled-3 : goal.overflow_cast-scaled-3
overflow_cast-scaled-3 c =
    omega (arith, (moved c.args.codes.now c.args.tone c.args.luminance c.requires).most)

pub display_luminance-requires : goal.display_luminance-requires
display_luminance-requires c =
    let same = (moved c.args.codes.now c.args.tone c.args.luminance c.requires).same in
    (c.requires.1.white, subst IsScaled (sym same) (is_scaled _ _ c.requires.1 c.requires.2))

pub returns : goal.returns
returns c =
    let same = (moved c.args.codes.now c.args.tone c.args.luminance c.requires).same in
    c.display_luminance.ensures ∙ ap (display_of (curve_of c.args.tone.white)) same
