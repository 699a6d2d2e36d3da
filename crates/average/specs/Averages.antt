-- Steps 2 and 3: the steps of a luminance, their average and the stored average. Assumes nothing.
use Rattle.std.specs.Prelude.{cond, None, Option, Some, List, [], ◌∷◌, ℕ, ◌+◌, ◌-◌, ◌*◌, ◌/◌, ◌%◌, ◌≤◌, eqb, ℤ, pos, negsuc, neg_ℤ, nat_abs, ◌+ℤ◌, ◌≤ℤ◌}
use Rattle.std.proofs.Math.IntN.{sub_ℕ}
use Rattle.refusal.specs.Told.{Told, holding}
use Rattle.number.proofs.Laws.{IsMantissa}
use Rattle.number.specs.declared.ratio.Stored.{Stored}
use Rattle.average.specs.Tables.{log_of, root_of}
use Rattle.average.specs.declared.average.Average.{Average}

-- "Steps of a lit pixel: 256(E−136) + T[M]."
abbrev pub steps_of : Stored → ℤ
steps_of y = sub_ℕ (256 * y.exponent + log_of y.mantissa) (256 * 136)

-- z divided by n, "rounded toward minus infinity"; `negsuc a` is −(a + 1)
abbrev pub floor_div : ℤ → ℕ → ℤ
floor_div (pos a) n = pos (a / n)
floor_div (negsuc a) n = negsuc (a / n)

-- and what is left over, 0 to n − 1
abbrev pub floor_mod : ℤ → ℕ → ℕ
floor_mod (pos a) n = a % n
floor_mod (negsuc a) n = n - 1 - a % n

-- "A = 256q + f, f 0 to 255. The stored average is (q+128, 255) if f = 0, else (q+129, X[f])". For the averages that there are, q + 128
-- is positive.
unfoldable pub stored_average : ℤ → Stored
stored_average A =
    cond (eqb (floor_mod A 256) 0)
    (record { exponent = nat_abs (floor_div A 256 +ℤ pos 128); mantissa = 255 })
    (record { exponent = nat_abs (floor_div A 256 +ℤ pos 129); mantissa = root_of (floor_mod A 256) })

-- an average in steps, with the stored one
infix 40 ◌stored_as◌
abbrev pub ◌stored_as◌ : ℤ → Stored → Average
A stored_as a = record { steps = A; stored = a }

-- "Average A: the sum of steps over the N lit pixels, divided by N"
abbrev pub average_steps : (count : ℕ) (sum : ℤ) → ℤ
average_steps count sum = floor_div sum count

-- with the stored average. "If N = 0 .. the average is reported as absent".
unfoldable pub average_of : (count : ℕ) (sum : ℤ) → Option Average
average_of count sum = cond (eqb count 0) None (Some (average_steps count sum stored_as stored_average (average_steps count sum)))

-- in numbers: whether there is an average, A, E and M; all are 0 where there is none
abbrev pub average_values : Option Average → List ℤ
average_values None = pos 0 ∷ pos 0 ∷ pos 0 ∷ pos 0 ∷ []
average_values (Some a) = pos 1 ∷ a.steps ∷ pos a.stored.exponent ∷ pos a.stored.mantissa ∷ []

abbrev pub average_told : Option Average → Told
average_told a = holding (average_values a)

-- the averages that there are: a luminance has from −15,630 to 14,335 steps
pub record IsAverage (A : ℤ) : Type 0 where
  pub least : neg_ℤ (pos 15630) ≤ℤ A
  pub most : A ≤ℤ pos 14335

-- where stored averages lie
pub record IsStoredAverage (a : Stored) : Type 0 where
  pub least : 67 ≤ a.exponent
  pub most : a.exponent ≤ 184
  pub mantissa : IsMantissa a.mantissa
