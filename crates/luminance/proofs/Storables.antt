-- Words for what is stored: a ratio in units, one that fits, a fraction as a stored number. Assumes nothing.
use Rattle.std.proofs.Common.{◌≡◌, ℕ, ◌*◌, ◌^◌, sym, ap, subst}
use Rattle.number.proofs.Laws.{Frac, ◌over◌, Stores, unit, stored_of, ratio_of, unit_power}
use Rattle.number.specs.declared.ratio.Stored.{Stored}
use Rattle.luminance.specs.loops.Ratios.{stored_in}
use Rattle.std.specs.Prelude.{Some}

-- num / den · 2^exp in units of 2^-137
abbrev pub unit_ratio : (num den exp : ℕ) → Frac
unit_ratio num den exp = num * 2 ^ exp over den * unit

-- F has a stored number with an exponent of eight bits
pub record Storable (F : Frac) : Type 0 where
  pub in_range : ratio_of F ≡ Some (stored_of F)

pub stored_in_law : {F : Frac} → Storable F → stored_in (ratio_of F) ≡ stored_of F
stored_in_law s = ap stored_in s.in_range

-- F is stored as s
abbrev pub StoresAs : Frac → Stored → Type 0
StoresAs F s = Stores F s.exponent s.mantissa

-- what holds of 2^137 written out holds of the unit
pub shut : (P : ℕ → Type 0) → P (2 ^ 137) → P unit
shut P h = subst P (sym unit_power) h
