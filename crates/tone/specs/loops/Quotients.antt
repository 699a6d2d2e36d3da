-- A luminance as a quotient of numbers that stay small enough to be multiplied. Assumes nothing.
use Rattle.std.specs.Prelude.{◌≡◌, ℕ, ◌*◌, ◌^◌, ◌≤◌}
use Rattle.number.proofs.Laws.{unit}

-- part / one, where `one` times 2^e units are 1
pub record IsQuotient (part one e : ℕ) : Type 0 where
  pub scale : one * 2 ^ e ≡ unit
  pub exponent_least : 114 ≤ e
  pub exponent_most : e ≤ 137
  pub positive : 1 ≤ part
  pub part_most : part ≤ 2 ^ 24
  pub one_most : one ≤ 2 ^ 23
  pub product : part * one ≤ 2 ^ 32
