-- The range of an average in steps and that of the stored average. Assumes nothing.
use mathlib.Core.Path.{◌≡◌, refl, ap, subst, ◌∙◌}
use mathlib.Core.Bool.{Bool, true, false, cond}
use Prim.Native.Nat.{ℕ, zero, suc, ◌+◌, ◌-◌, ◌/◌, ◌%◌, ◌≤◌, ◌<◌}
use native.Mathlib.Nat.{div-lt_iff_lt-mul, pos_of_ne-zero}
use native.Mathlib.Omega.{arith}
use lib.Dec.{eqb, lit<}
use lib.IntN.{ℤ, pos, sub_ℕ, nat_abs, ◌+ℤ◌}
use borrow.Author.Tests.{eqb-true, eqb-false, ne_eqb}
use Rattle.number.proofs.Laws.{same_difference, sub_pos, sub_plus, sub_least, sub_most, lowered}
use Rattle.number.specs.declared.ratio.Stored.{Stored}
use Rattle.average.specs.Averages.{floor_div, floor_mod, stored_average, average_steps, ◌stored_as◌, average_of, IsAverage, IsStoredAverage}
use Rattle.average.specs.loops.Sums.{IsSum, HasAverage}
use Rattle.average.specs.Tables.{root_of}
use Rattle.average.specs.Claims.{AveragesInRange}
use Rattle.average.proofs.Division.{floor_sub, mod_sub}
use Rattle.average.proofs.Rules.{root_mantissa}
use Rattle.average.proofs.Sums.{InSteps, sum_lowered, tally_is_sum}
use Rattle.average.specs.declared.average.Average.{Average}
use Rattle.std.specs.Prelude.{None, Some}
use Rattle.std.proofs.lemmas.Option.{same_Some}

average_in_range : {n : ℕ} {z : ℤ} → 0 < n → IsSum n z → IsAverage (floor_div z n)
average_in_range {n} h s =
    let d = sum_lowered s in
    let q = d.from / n in
    let below : q < 29966 = (div-lt_iff_lt-mul h).1 (omega (arith, d.most)) in
    rw (d.is, floor_sub d.from 15630 n h)
    (record { least = sub_least 15630 q 15630 (omega arith); most = sub_most 14335 q 15630 (omega arith) })

pub sum_has_average : {n : ℕ} {z : ℤ} → IsSum n z → HasAverage n z
sum_has_average s = record { in_range = λ h. average_in_range h s }

-- an average as a difference, and its quotient and rest by 256
record Raised (A : ℤ) : Type 0 where
  pub steps : ℕ
  pub is : A ≡ sub_ℕ steps 34816
  pub range : InSteps steps

raised : (A : ℤ) → IsAverage A → Raised A
raised A v =
    let d = lowered 15630 14335 A v.least v.most in
    record {
      steps = d.from + 19186;
      is = d.is ∙ same_difference d.from 15630 (d.from + 19186) 34816 (omega arith);
      range = record { least = omega arith; most = omega (arith, d.most) };
    }

module _ (A : ℤ) (v : IsAverage A) where
  abbrev a : ℕ
  a = (raised A v).steps

  rest_is : floor_mod A 256 ≡ a % 256
  rest_is = ap (λ z. floor_mod z 256) (raised A v).is ∙ mod_sub a 136 256 (lit< tt)

  module _ (k : ℕ) (low : 128 ≤ k) (high : k ≤ 129) where
    exponent_is : floor_div A 256 +ℤ pos k ≡ pos (a / 256 + k - 136)
    exponent_is =
        ap (λ z. floor_div z 256 +ℤ pos k) (raised A v).is ∙ ap (λ z. z +ℤ pos k) (floor_sub a 136 256 (lit< tt))
        ∙ sub_plus (a / 256) 136 k ∙ sub_pos (a / 256 + k) 136 (a / 256 + k - 136) (omega (arith, (raised A v).range.least))

  pub stored_average_range : IsStoredAverage (stored_average A)
  unfolding stored_average
  stored_average_range = by (eqb (floor_mod A 256) 0) refl
    where
      by : (b : Bool) → eqb (floor_mod A 256) 0 ≡ b
          → IsStoredAverage (cond b (record { exponent = nat_abs (floor_div A 256 +ℤ pos 128); mantissa = 255 })
          (record { exponent = nat_abs (floor_div A 256 +ℤ pos 129); mantissa = root_of (floor_mod A 256) }))
      by true e =
          let r = (raised A v).range in
          let whole : a % 256 ≡ 0 = rw rest_is at (eqb-true (floor_mod A 256) 0 e) in
          rw (exponent_is 128 (omega arith) (omega arith))
          (record {
            least = omega (arith, whole, r.least);
            most = omega (arith, r.most);
            mantissa = record { least = omega arith; most = omega arith };
          })
      by false e =
          let r = (raised A v).range in
          rw (exponent_is 129 (omega arith) (omega arith))
          (record { least = omega (arith, r.least); most = omega (arith, r.most); mantissa = root_mantissa (floor_mod A 256) })

-- ---- an average is reported of one luminance or more, and of no others

pub record Reported (n : ℕ) (z A : ℤ) (average : Stored) : Type 0 where
  pub lit : 0 < n
  pub steps : floor_div z n ≡ A
  pub stored : stored_average A ≡ average

module _ (n : ℕ) (z : ℤ) where
  pub reported : {A : ℤ} {average : Stored} → average_of n z ≡ Some (A stored_as average) → Reported n z A average
  unfolding average_of
  reported {A} {average} = by (eqb n 0) refl
    where
      by : (b : Bool) → eqb n 0 ≡ b → cond b None (Some (floor_div z n stored_as stored_average (floor_div z n))) ≡ Some (A stored_as average)
          → Reported n z A average
      by true q e = let clash : suc zero ≡ zero = cc in record { lit = omega arith; steps = cc; stored = cc }
      by false q e =
          let same = same_Some _ _ e in
          let steps : floor_div z n ≡ A = ap (λ (a : Average). a.steps) same in
          let stored : stored_average (floor_div z n) ≡ average = ap (λ (a : Average). a.stored) same in
          record { lit = pos_of_ne-zero (eqb-false n 0 q); steps = steps; stored = cc }

  pub present : 0 < n → average_of n z ≡ Some (average_steps n z stored_as stored_average (average_steps n z))
  unfolding average_of
  present some = rw (ne_eqb n 0 (λ e. omega arith))

  pub reported_range : {A : ℤ} {average : Stored} → IsSum n z → average_of n z ≡ Some (A stored_as average) → IsStoredAverage average
  reported_range s e =
      let r = reported e in
      subst IsStoredAverage r.stored (stored_average_range _ (subst IsAverage r.steps (average_in_range r.lit s)))

pub averages_in_range : AveragesInRange
averages_in_range ys h few A average e =
    let s = tally_is_sum ys h few in
    let r = reported _ _ e in
    let steps : IsAverage A = subst IsAverage r.steps (average_in_range r.lit s) in
    record { least = steps.least; most = steps.most; stored = reported_range _ _ s e }
