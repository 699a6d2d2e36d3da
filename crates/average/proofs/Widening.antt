-- The extremes of luminances: that they are what is claimed, and no others are; of lists one after the other.
-- Assumes nothing.
use mathlib.Core.Path.{◌≡◌, refl, sym, ap, ap₂, ◌∙◌}
use mathlib.Core.Logic.{inl, inr}
use mathlib.Core.Bool.{Bool, true, false, cond}
use mathlib.Core.List.{List, [], ◌∷◌, ◌++◌}
use Prim.Native.Nat.{ℕ, ◌+◌, ◌*◌, ◌≤◌}
use native.Mathlib.Nat.{le_refl, le_trans, le_of_lt, lt_trans}
use native.Mathlib.Omega.{arith}
use lib.Dec.{leb}
use lib.ListN.{length}
use borrow.Author.Tests.{leb-true, leb-false, le-leb, lt-leb}
use Rattle.number.proofs.Laws.{Every, every_map, Occurs, every_occurs, AtMost, IsMantissa, unit, stored_worth, by_code}
use Rattle.number.specs.declared.ratio.Stored.{Stored}
use Rattle.average.specs.Tallies.{darker, brighter, ◌up_to◌, join_extremes, extremes_of}
use Rattle.luminance.specs.Pixels.{IsLuminance}
use Rattle.average.specs.loops.Sums.{HaveMantissas}
use Rattle.average.specs.Claims.{Between, AreExtremes, HasExtremes, ExtremesHold, ExtremesAreOne}
use Rattle.std.specs.Prelude.{None, Option, Some}
use Rattle.average.specs.declared.tally.Extremes.{Extremes}

-- a worth, as the tests of `darker` and `brighter` compare it
abbrev size : Stored → ℕ
size y = (stored_worth y).num * unit

-- ---- the claim

at_most_refl : (y : Stored) → AtMost (stored_worth y) (stored_worth y)
at_most_refl y = record { cross = le_refl (size y) }

module _ (x y : Stored) (P : Stored → Type 0) where
  -- what holds of the one that is at most the other holds of the darker, and of the brighter likewise
  darker_of : (AtMost (stored_worth x) (stored_worth y) → P x) → (AtMost (stored_worth y) (stored_worth x) → P y) → P (darker x y)
  darker_of f g = by (leb (size x) (size y)) refl
    where
      by : (b : Bool) → leb (size x) (size y) ≡ b → P (cond b x y)
      by true e = f (record { cross = leb-true _ _ e })
      by false e = g (record { cross = le_of_lt (leb-false _ _ e) })

  brighter_of : (AtMost (stored_worth y) (stored_worth x) → P x) → (AtMost (stored_worth x) (stored_worth y) → P y) → P (brighter x y)
  brighter_of f g = by (leb (size x) (size y)) refl
    where
      by : (b : Bool) → leb (size x) (size y) ≡ b → P (cond b y x)
      by true e = g (record { cross = leb-true _ _ e })
      by false e = f (record { cross = le_of_lt (leb-false _ _ e) })

-- one luminance more
one_more : (y d b : Stored) (ys : List Stored) → AreExtremes d b ys → AreExtremes (darker y d) (brighter y b) (y ∷ ys)
one_more y d b ys before =
    let low : AtMost (stored_worth (darker y d)) (stored_worth d) =
    darker_of y d (λ z. AtMost (stored_worth z) (stored_worth d)) (λ h. h) (λ _. at_most_refl d) in
    let high : AtMost (stored_worth b) (stored_worth (brighter y b)) =
    brighter_of y b (λ z. AtMost (stored_worth b) (stored_worth z)) (λ h. h) (λ _. at_most_refl b) in
    record {
      darkest_occurs = darker_of y d (λ z. Occurs z (y ∷ ys)) (λ _. inl refl) (λ _. inr before.darkest_occurs);
      brightest_occurs = brighter_of y b (λ z. Occurs z (y ∷ ys)) (λ _. inl refl) (λ _. inr before.brightest_occurs);
      between = (
        record {
          low = darker_of y d (λ z. AtMost (stored_worth z) (stored_worth y)) (λ _. at_most_refl y) (λ h. h);
          high = brighter_of y b (λ z. AtMost (stored_worth y) (stored_worth z)) (λ _. at_most_refl y) (λ h. h);
        },
        every_map
            (λ x m.
            record {
              low = record { cross = le_trans low.cross m.low.cross };
              high = record { cross = le_trans m.high.cross high.cross };
            })
            ys before.between,
      );
    }

pub extremes_hold : ExtremesHold
unfolding extremes_of
extremes_hold [] = refl
extremes_hold (y ∷ ys) = by (extremes_of ys) (extremes_hold ys)
  where
    alone : (xs : List Stored) → length xs ≡ 0 → AreExtremes y y (y ∷ xs)
    alone [] e = record {
      darkest_occurs = inl refl;
      brightest_occurs = inl refl;
      between = (record { low = at_most_refl y; high = at_most_refl y }, tt);
    }
    alone (x ∷ xs) e = absurd (omega (arith, e))

    by : (e : Option Extremes) → HasExtremes e ys → HasExtremes (join_extremes (Some (y up_to y)) e) (y ∷ ys)
    by None h = alone ys h
    by (Some e) h = one_more y e.darkest e.brightest ys h

-- both are luminances, and so they have mantissas
pub extremes_mantissas : (ys : List Stored) → Every IsLuminance ys → HaveMantissas (extremes_of ys)
extremes_mantissas ys valid = by (extremes_of ys) (extremes_hold ys)
  where
    lit : (y : Stored) → Occurs y ys → IsMantissa y.mantissa
    lit y o = (every_occurs IsLuminance ys y valid o).mantissa

    by : (e : Option Extremes) → HasExtremes e ys → HaveMantissas e
    by None h = tt
    by (Some e) h = (lit e.darkest h.darkest_occurs, lit e.brightest h.brightest_occurs)

-- ---- no other two

-- 256E + M
abbrev code : Stored → ℕ
code y = 256 * y.exponent + y.mantissa

-- a worth that is at most another has no larger code
code_le : (x y : Stored) → IsLuminance x → IsLuminance y → AtMost (stored_worth x) (stored_worth y) → code x ≤ code y
code_le x y l m h = leb-true _ _ (by_code _ _ _ _ l.mantissa m.mantissa ∙ le-leb _ _ h.cross)

same : (x y : Stored) → IsLuminance x → IsLuminance y → AtMost (stored_worth x) (stored_worth y) → AtMost (stored_worth y) (stored_worth x) → x ≡ y
same x y l m h g =
    let a = code_le x y l m h in
    let b = code_le y x m l g in
    ap₂ (λ (E M : ℕ). record { exponent = E; mantissa = M })
    (omega (arith, a, b, l.mantissa.least, l.mantissa.most, m.mantissa.least, m.mantissa.most))
    (omega (arith, a, b, l.mantissa.least, l.mantissa.most, m.mantissa.least, m.mantissa.most))

pub extremes_one : ExtremesAreOne
extremes_one ys valid d b d' b' one other =
    let lit : (y : Stored) → Occurs y ys → IsLuminance y = λ y o. every_occurs IsLuminance ys y valid o in
    record {
      darkest =
          same d d' (lit d one.darkest_occurs) (lit d' other.darkest_occurs)
          (every_occurs (Between d b) ys d' one.between other.darkest_occurs).low
          (every_occurs (Between d' b') ys d other.between one.darkest_occurs).low;
      brightest =
          same b b' (lit b one.brightest_occurs) (lit b' other.brightest_occurs)
          (every_occurs (Between d' b') ys b other.between one.brightest_occurs).high
          (every_occurs (Between d b) ys b' one.between other.brightest_occurs).high;
    }

-- ---- of three

darker_assoc : (x y z : Stored) → darker (darker x y) z ≡ darker x (darker y z)
darker_assoc x y z = by (leb (size x) (size y)) (leb (size y) (size z)) refl refl
  where
    by : (b c : Bool) → leb (size x) (size y) ≡ b → leb (size y) (size z) ≡ c → darker (cond b x y) z ≡ darker x (cond c y z)
    by true true e f = rw (le-leb (size x) (size z) (le_trans (leb-true _ _ e) (leb-true _ _ f)), e)
    by true false e f = refl
    by false true e f = rw (e, f)
    by false false e f = rw (f, lt-leb (size x) (size z) (lt_trans (leb-false _ _ f) (leb-false _ _ e)))

brighter_assoc : (x y z : Stored) → brighter (brighter x y) z ≡ brighter x (brighter y z)
brighter_assoc x y z = by (leb (size x) (size y)) (leb (size y) (size z)) refl refl
  where
    by : (b c : Bool) → leb (size x) (size y) ≡ b → leb (size y) (size z) ≡ c → brighter (cond b y x) z ≡ brighter x (cond c z y)
    by true true e f = rw (le-leb (size x) (size z) (le_trans (leb-true _ _ e) (leb-true _ _ f)), f)
    by true false e f = rw (e, f)
    by false true e f = refl
    by false false e f = rw (e, lt-leb (size x) (size z) (lt_trans (leb-false _ _ f) (leb-false _ _ e)))

join_extremes_assoc : (e f g : Option Extremes) → join_extremes (join_extremes e f) g ≡ join_extremes e (join_extremes f g)
join_extremes_assoc None f g = refl
join_extremes_assoc (Some e) None g = refl
join_extremes_assoc (Some e) (Some f) None = refl
join_extremes_assoc (Some e) (Some f) (Some g) =
    rw (darker_assoc e.darkest f.darkest g.darkest, brighter_assoc e.brightest f.brightest g.brightest)

-- ---- lists one after the other

pub extremes_append : (xs ys : List Stored) → extremes_of (xs ++ ys) ≡ join_extremes (extremes_of xs) (extremes_of ys)
unfolding extremes_of
extremes_append [] ys = refl
extremes_append (x ∷ xs) ys =
    ap (join_extremes (Some (x up_to x))) (extremes_append xs ys) ∙ sym (join_extremes_assoc (Some (x up_to x)) (extremes_of xs) (extremes_of ys))
