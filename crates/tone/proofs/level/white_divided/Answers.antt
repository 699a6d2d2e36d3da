-- `tone::level::white_divided` meets its contract. Assumes nothing.
use mathlib.Core.Path.{◌∙◌, ap}
use Prim.Native.Nat.{ℕ}
use native.Mathlib.Omega.{arith}
use Rattle.number.proofs.Laws.{◌over◌, unit, stored_of}
use Rattle.tone.specs.Levels.{white_point}
use Rattle.tone.proofs.Whites.{in_units, same_units}
use Rattle.tone.proofs.level.white_divided.Goals as goal

pub white_quotient-requires : goal.white_quotient-requires
white_quotient-requires c = (
  omega arith,
  omega arith,
  in_units _ _ _ _ _ (omega arith) (omega arith) c.min-units.ensures c.shift_left-one.ensures c.shift_left-part.ensures,
)

pub returns : goal.returns
returns c =
    c.white_quotient.ensures
    ∙ ap (λ (z : ℕ). stored_of (white_point c.args.tenths (z over unit)))
    (same_units c.args.value c.args.exponent _ _ c.min-units.ensures c.shift_left-part.ensures)
