-- The steps of luminances and their sums: from −15,630 to 14,335 for each luminance. Assumes nothing.
use mathlib.Core.Path.{◌≡◌, refl}
use mathlib.Core.List.{List, [], ◌∷◌, ◌++◌}
use Prim.Native.Nat.{ℕ, suc, ◌+◌, ◌*◌, ◌^◌, ◌≤◌, ◌<◌}
use native.Mathlib.Nat.{lt_of_not-le}
use native.Mathlib.Decide.{dec_le}
use native.Mathlib.Numerals.{add-one}
use native.Mathlib.Omega.{arith}
use lib.IntN.{ℤ, pos, neg_ℤ, sub_ℕ, ◌+ℤ◌, +ℤ_idl, +ℤ_assoc, +ℤ_comm}
use lib.ListN.{length, length-append}
use lib.Signed.{◌≤ℤ◌, le_z_yes}
use mir.Syntax.{w64}
use mir.Val.{SFits}
use Rattle.number.proofs.Laws.{Every, sub_pos, sub_neg, sub_cases, sub_add, sub_least, sub_most, Lowered, lowered}
use Rattle.number.specs.declared.ratio.Stored.{Stored}
use Rattle.average.specs.Averages.{steps_of}
use Rattle.average.specs.loops.Sums.{total, raised_steps, IsSum, IsTally}
use Rattle.luminance.specs.Pixels.{IsLuminance}
use Rattle.average.specs.Tables.{log_test}
use Rattle.average.specs.Tallies.{sum_of, tally_of}
use Rattle.average.specs.Claims.{TalliesJoin}
use Rattle.average.proofs.Rules.{log_le, log_from}
use Rattle.average.proofs.Widening.{extremes_append, extremes_mantissas}

-- ---- one luminance

pub raised_most : (y : Stored) → raised_steps y ≤ 256 * y.exponent + 2047
raised_most y = omega (arith, log_le y.mantissa)

pub record InSteps (steps : ℕ) : Type 0 where
  pub least : 19186 ≤ steps
  pub most : steps ≤ 49151

raised_range : (y : Stored) → IsLuminance y → InSteps (raised_steps y)
unfolding log_test
raised_range y l = record { least = low (dec_le 246 y.mantissa); most = omega (arith, log_le y.mantissa) }
  where
    low : Dec (246 ≤ y.mantissa) → 19186 ≤ raised_steps y
    low (yes h) = omega (arith, log_from 246 2034 y.mantissa (omega arith) tt h)
    low (no h) = omega (arith, lt_of_not-le h, log_from 128 1793 y.mantissa (omega arith) tt l.mantissa.least)

pub steps_least : (y : Stored) → IsLuminance y → neg_ℤ (pos 15630) ≤ℤ steps_of y
steps_least y l = sub_least 15630 (raised_steps y) 34816 (omega (arith, (raised_range y l).least))

pub steps_most : (y : Stored) → IsLuminance y → steps_of y ≤ℤ pos 14335
steps_most y l = sub_most 14335 (raised_steps y) 34816 (omega (arith, (raised_range y l).most))

-- ---- sums

-- a sum as a difference
pub sum_lowered : {n : ℕ} {z : ℤ} → IsSum n z → Lowered (15630 * n) (14335 * n) z
sum_lowered {n} {z} s = lowered (15630 * n) (14335 * n) z s.least s.most

difference_is_sum : (n a b : ℕ) → n ≤ 2 ^ 40 → b ≤ a + 15630 * n → a ≤ b + 14335 * n → IsSum n (sub_ℕ a b)
difference_is_sum n a b few l m = record { few = few; least = sub_least (15630 * n) a b l; most = sub_most (14335 * n) a b m }

-- 64 bits hold it
sub_fits : (a b : ℕ) → a < 2 ^ 63 → b < 2 ^ 63 → SFits w64 (sub_ℕ a b)
sub_fits =
    sub_cases (λ a b. a < 2 ^ 63 → b < 2 ^ 63 → SFits w64 (sub_ℕ a b))
    (λ b d ha hb. rw (sub_pos (b + d) b d refl) (record { sfits = omega arith }))
    (λ a d ha hb. rw (sub_neg a (suc a + d) d refl) (record { sfits = omega arith }))

pub sum_fits : {n : ℕ} {z : ℤ} → IsSum n z → SFits w64 z
sum_fits {n} s =
    let d = sum_lowered s in
    let few : n ≤ 2 ^ 40 = s.few in
    rw d.is (sub_fits d.from (15630 * n) (omega (arith, d.most)) (omega arith))

sum_more : {n : ℕ} {z : ℤ} (y : Stored) → IsSum n z → n < 2 ^ 40 → IsLuminance y → IsSum (n + 1) (z +ℤ steps_of y)
sum_more {n} y s few l =
    let d = sum_lowered s in
    let r = raised_range y l in
    rw (d.is, sub_add d.from (15630 * n) (raised_steps y) 34816)
    (difference_is_sum (n + 1) (d.from + raised_steps y) (15630 * n + 34816) (omega arith) (omega (arith, r.least))
    (omega (arith, d.most, r.most)))

-- ---- the sum of a list

pub sum_is : (ys : List Stored) → sum_of ys ≡ sub_ℕ (total raised_steps ys) (34816 * length ys)
unfolding sum_of
sum_is [] = refl
sum_is (y ∷ ys) =
    let e : 34816 * suc (length ys) ≡ 34816 + 34816 * length ys = omega arith in
    rw (sum_is ys, e) (sub_add (raised_steps y) 34816 _ _)

pub tally_is_sum : (ys : List Stored) → Every IsLuminance ys → length ys ≤ 2 ^ 40 → IsSum (length ys) (sum_of ys)
unfolding sum_of
tally_is_sum [] h few = record { few = few; least = le_z_yes tt; most = le_z_yes tt }
tally_is_sum (y ∷ ys) h few =
    rw (+ℤ_comm (steps_of y) (sum_of ys), ← add-one (length ys))
    (sum_more y (tally_is_sum ys h.1 (omega arith)) (omega arith) h.0)

pub is_tally : (ys : List Stored) → Every IsLuminance ys → length ys ≤ 2 ^ 40 → IsTally (tally_of ys)
is_tally ys h few = record { sum = tally_is_sum ys h few; extremes = extremes_mantissas ys h }

-- ---- lists one after the other

pub total_append : {X : Type 0} (f : X → ℕ) (xs ys : List X) → total f (xs ++ ys) ≡ total f xs + total f ys
total_append f [] ys = omega arith
total_append f (x ∷ xs) ys = omega (arith, total_append f xs ys)

sum_append : (xs ys : List Stored) → sum_of (xs ++ ys) ≡ sum_of xs +ℤ sum_of ys
unfolding sum_of
sum_append [] ys = rw +ℤ_idl
sum_append (x ∷ xs) ys = rw (sum_append xs ys, +ℤ_assoc)

pub tallies_join : TalliesJoin
tallies_join xs ys = rw (sum_append, length-append, extremes_append)
