-- The values of an answer, as fields of a struct: one that is not there is 0. Assumes nothing.
use Rattle.std.specs.Prelude.{ℕ, ℤ, pos, nat_abs, get_or}
use Rattle.refusal.specs.Told.{Told}

-- value k, counted from 0, of those that may be negative
abbrev pub signed_at : Told → (k : ℕ) → ℤ
signed_at t k = get_or t.values k (pos 0)

-- and of those that are not
abbrev pub value_at : Told → (k : ℕ) → ℕ
value_at t k = nat_abs (signed_at t k)
