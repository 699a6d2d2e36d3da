-- The order of stored numbers that the code compares by, exponents first and then mantissas, is that of their worths. Assumes nothing.
use Rattle.std.proofs.Common.{◌≡◌, ℕ, ◌+◌, ◌*◌, ◌≤◌, Bool, true, false, not, cond, ap, ◌∙◌, arith}
use Rattle.std.proofs.lemmas.Bool.Decides.{nat_tests}
use Rattle.std.specs.Ordering.{nat_cmp, ordering_then, is_lt}
use Rattle.number.proofs.Laws.{IsMantissa, stored_worth, at_most, by_code}
use Rattle.number.specs.declared.ratio.Stored.{Stored}
use Rattle.average.specs.Tallies.{darker, brighter}
use lib.Dec.{leb}

abbrev code : Stored → ℕ
code y = 256 * y.exponent + y.mantissa

abbrev less : Stored → Stored → Bool
less x y = is_lt (ordering_then (nat_cmp x.exponent y.exponent) (nat_cmp x.mantissa y.mantissa))

by_bytes : (E M E' M' : ℕ) → M ≤ 255 → M' ≤ 255
    → is_lt (ordering_then (nat_cmp E' E) (nat_cmp M' M)) ≡ not (leb (256 * E + M) (256 * E' + M'))
by_bytes E M E' M' h h' = grind (arith, nat_tests)

by_less : (x y : Stored) → IsMantissa x.mantissa → IsMantissa y.mantissa → less y x ≡ not (at_most (stored_worth x) (stored_worth y))
by_less x y m m' = by_bytes _ _ _ _ m.most m'.most ∙ ap not (by_code _ _ _ _ m m')

either : (b c : Bool) (x y : Stored) → b ≡ not c → cond b y x ≡ cond c x y
either b true x y e = rw e
either b false x y e = rw e

pub darker_is : (x y : Stored) → IsMantissa x.mantissa → IsMantissa y.mantissa → cond (less y x) y x ≡ darker x y
darker_is x y m m' = either _ _ _ _ (by_less x y m m')

pub brighter_is : (x y : Stored) → IsMantissa x.mantissa → IsMantissa y.mantissa → cond (less y x) x y ≡ brighter x y
brighter_is x y m m' = either _ _ _ _ (by_less x y m m')
