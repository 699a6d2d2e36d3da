-- `number::ratio::mantissa_by_division` meets its contract. Assumes nothing.
use Rattle.std.proofs.Common.{ℕ, ◌+◌, ◌*◌, ◌/◌, ◌<◌, ◌≤◌, le_refl, div-lt_iff_lt-mul, le-div_iff_mul-le, arith}
use Rattle.number.specs.Storing.{Normalised}
use Rattle.number.proofs.Normalised.{cell}
use Rattle.number.proofs.ratio.mantissa_by_division.Goals as goal

module _ (rest part : ℕ) (h : (0 < rest) × (rest < 128 * part)) where
  positive : 0 < part
  positive = omega arith

  seven : rest / part < 128
  seven = (div-lt_iff_lt-mul positive).1 h.1

  divided : Normalised (128 * part + rest) (256 * part) (128 + rest / part)
  divided =
      let q = rest / part in
      let floor : q * part ≤ rest = (le-div_iff_mul-le positive).0 (le_refl q) in
      let ceiling : rest < (q + 1) * part = (div-lt_iff_lt-mul positive).0 (omega arith) in
      cell (omega arith) (omega (arith, seven)) (omega arith) (omega arith)

pub returns : goal.returns
returns c =
    divided _ _ c.requires
