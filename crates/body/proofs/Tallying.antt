-- The tally of pixels by the indices of their luminances: sums, lowest numbers, and what they come to. Assumes nothing.
use Rattle.std.proofs.Common.{◌≡◌, ℕ, zero, suc, ◌+◌, ◌-◌, ◌*◌, ◌<◌, ◌≤◌, min, Bool, true, false, cond, leb, List, [], ◌∷◌, ◌++◌, fold, map, length, get_or, take, drop, set, replicate, sym, refl, ap, ◌∙◌, ap₂, le_refl, add-one, arith, take-suc, ne_eqb, le-leb, leb-false, leb-true}
use mathlib.Core.List.{map-append}
use borrow.Author.Tests.{lt-leb}
use Rattle.number.specs.declared.channel.Pixel.{Pixel}
use Rattle.number.specs.declared.ratio.Stored.{Stored}
use Rattle.number.proofs.Laws.{Every, IsMantissa, at_most, stored_worth, by_code}
use Rattle.refusal.specs.Output.{onto}
use Rattle.luminance.specs.Pixels.{IsPixel, luminance_of, IsLuminance, Luminance}
use Rattle.luminance.specs.loops.Codes.{index_of, index_count, stored_at}
use Rattle.luminance.proofs.Laws.{luminance_range, index_stored, index_range}
use Rattle.average.specs.Tallies.{darker, brighter, join_extremes, extremes_of, tally_of, ◌up_to◌}
use Rattle.average.specs.loops.Sums.{total, raised_steps}
use Rattle.average.proofs.Laws.{raised_most, sum_is}
use Rattle.body.specs.Luminances.{if_lit, luminances_of}
use Rattle.body.specs.loops.Indices.{index_list}
use Rattle.body.specs.loops.Tallying.{steps_at, unlit_at, lowest, from_darkest, from_brightest, extremes_at, tally_from}
use Rattle.body.proofs.Luminances.{every_luminance}
use Rattle.std.specs.Prelude.{None, Some}

-- ---- the lowest of several lists

pub lowest_most : (xs : List ℕ) → lowest xs ≤ 65535
unfolding lowest
lowest_most [] = le_refl 65535
lowest_most (x ∷ xs) = omega (arith, lowest_most xs)

pub lowest_append : (xs ys : List ℕ) → lowest (xs ++ ys) ≡ min (lowest xs) (lowest ys)
unfolding lowest
lowest_append [] ys = omega (arith, lowest_most ys)
lowest_append (x ∷ xs) ys = omega (arith, lowest_append xs ys)

-- one number more
pub lowest_next : (xs : List ℕ) (x : ℕ) → lowest (xs ++ (x ∷ [])) ≡ min (lowest xs) x
unfolding lowest
lowest_next xs x = lowest_append xs (x ∷ []) ∙ omega (arith, lowest_most xs)

-- a place that keeps the lower of what it has and of one number more
lowest_set : (xs : List ℕ) (j x : ℕ) → j < length xs → lowest (set xs j (min (get_or xs j 0) x)) ≡ min (lowest xs) x
unfolding lowest
lowest_set [] j x h = absurd (omega arith)
lowest_set (y ∷ xs) zero x h = omega arith
lowest_set (y ∷ xs) (suc j) x h = omega (arith, lowest_set xs j x (omega arith))

-- the same from the front
pub fold_lowest : (low : ℕ) (xs : List ℕ) → low ≤ 65535 → fold (λ (low x : ℕ). min low x) low xs ≡ min low (lowest xs)
unfolding lowest
fold_lowest low [] h = omega arith
fold_lowest low (x ∷ xs) h = fold_lowest (min low x) xs (omega arith) ∙ omega arith

module _ (f : ℕ → ℕ) (is : List ℕ) (j : ℕ) (inside : j < length is) where
  pub low_next : (n : ℕ) → n ≡ lowest (map f (take j is)) → min n (f (get_or is j 0)) ≡ lowest (map f (take (j + 1) is))
  low_next n e =
      rw (add-one j, take-suc is j 0 inside, map-append f (take j is) (get_or is j 0 ∷ []))
      (ap (λ m. min m (f (get_or is j 0))) e ∙ sym (lowest_next (map f (take j is)) (f (get_or is j 0))))

  pub kept_next : (low : ℕ) (xs : List ℕ) → j < length xs → lowest xs ≡ min low (lowest (map f (take j is)))
      → lowest (set xs j (min (get_or xs j 0) (f (get_or is j 0)))) ≡ min low (lowest (map f (take (j + 1) is)))
  kept_next low xs room e =
      lowest_set xs j (f (get_or is j 0)) room ∙ omega (arith, e, low_next (lowest (map f (take j is))) refl)

-- numbers behind, where f gives the highest, make no difference
module _ (f : ℕ → ℕ) (last : f 0 ≡ 65535) where
  unlit_last : (n k : ℕ) → lowest (map f (drop k (replicate n 0))) ≡ 65535
  unfolding lowest
  unlit_last zero zero = refl
  unlit_last zero (suc k) = refl
  unlit_last (suc n) zero = omega (arith, last, unlit_last n zero)
  unlit_last (suc n) (suc k) = unlit_last n k

  pub lowest_front : (is : List ℕ) (n : ℕ) → lowest (map f (onto is (replicate n 0))) ≡ lowest (map f is)
  lowest_front is n =
      ap lowest (map-append f is _) ∙ lowest_append (map f is) _
      ∙ omega (arith, lowest_most (map f is), unlit_last n (length is))

-- ---- the order of indices is that of worths

pub mantissa_at : (i : ℕ) → IsMantissa (stored_at i).mantissa
mantissa_at i = record { least = omega arith; most = omega arith }

-- 256E + M of the luminance at an index
abbrev code_at : (i : ℕ) → ℕ
code_at i = 256 * (stored_at i).exponent + (stored_at i).mantissa

pub record IsPlace (i : ℕ) : Type 0 where
  pub least : 128 ≤ i
  pub most : i < index_count

module _ (i j : ℕ) (p : IsPlace i) (q : IsPlace j) where
  index_order : at_most (stored_worth (stored_at i)) (stored_worth (stored_at j)) ≡ leb i j
  index_order = sym (by_code _ _ _ _ (mantissa_at i) (mantissa_at j)) ∙ by (leb i j) refl
    where
      by : (b : Bool) → leb i j ≡ b → leb (code_at i) (code_at j) ≡ b
      by true e = le-leb (code_at i) (code_at j) (omega (arith, leb-true i j e))
      by false e = lt-leb (code_at i) (code_at j) (omega (arith, leb-false i j e))

  darker_at : darker (stored_at i) (stored_at j) ≡ stored_at (min i j)
  darker_at = rw index_order (by (leb i j) refl)
    where
      by : (b : Bool) → leb i j ≡ b → cond b (stored_at i) (stored_at j) ≡ stored_at (min i j)
      by true e = ap stored_at (omega (arith, leb-true i j e))
      by false e = ap stored_at (omega (arith, leb-false i j e))

  brighter_at : brighter (stored_at i) (stored_at j) ≡ stored_at (65535 - min (65535 - i) (65535 - j))
  brighter_at = rw index_order (by (leb i j) refl)
    where
      by : (b : Bool) → leb i j ≡ b → cond b (stored_at j) (stored_at i) ≡ stored_at (65535 - min (65535 - i) (65535 - j))
      by true e = ap stored_at (omega (arith, leb-true i j e))
      by false e = ap stored_at (omega (arith, leb-false i j e))

-- ---- the extremes of luminances, by their indices

abbrev places : List Stored → List ℕ
places ys = map (λ y. index_of (Some y)) ys

from_darkest_law : (i : ℕ) → IsPlace i → from_darkest i ≡ i - 1
from_darkest_law i p = omega (arith, p.least, p.most)

-- the lower of two, each less one
less_one : (i j : ℕ) → min (i - 1) (j - 1) ≡ min i j - 1
less_one i j = omega arith

twice : (x : ℕ) → x ≤ 65535 → 65535 - (65535 - x) ≡ x
twice x h = omega arith

-- of at least one
record Found (ys : List Stored) : Type 0 where
  pub darkest : ℕ
  pub brightest : ℕ
  pub dark_place : IsPlace darkest
  pub bright_place : IsPlace brightest
  pub dark : lowest (map from_darkest (places ys)) ≡ darkest - 1
  pub bright : lowest (map from_brightest (places ys)) ≡ 65535 - brightest
  pub both : extremes_of ys ≡ Some ((stored_at darkest) up_to (stored_at brightest))

found : (y : Stored) (ys : List Stored) → Every IsLuminance (y ∷ ys) → Found (y ∷ ys)
unfolding lowest extremes_of
found y [] h =
    let range = index_range y h.0 in
    let place : IsPlace (index_of (Some y)) = record { least = range.0; most = range.1 } in
    record {
      darkest = index_of (Some y);
      brightest = index_of (Some y);
      dark_place = place;
      bright_place = place;
      dark = omega (arith, range.0, range.1);
      bright = omega (arith, range.0, range.1);
      both = rw (index_stored y h.0);
    }
found y (z ∷ ys) h =
    let i = index_of (Some y) in
    let range = index_range y h.0 in
    let place : IsPlace i = record { least = range.0; most = range.1 } in
    let f = found z ys h.1 in
    let d = f.dark_place in
    let b = f.bright_place in
    record {
      darkest = min i f.darkest;
      brightest = 65535 - min (65535 - i) (65535 - f.brightest);
      dark_place = record { least = omega (arith, range.0, d.least); most = omega (arith, range.1, d.most) };
      bright_place = record { least = omega (arith, range.0, b.least, b.most); most = omega (arith, range.1, b.most) };
      dark = ap₂ min (from_darkest_law i place) f.dark ∙ less_one i f.darkest;
      bright = ap (min (65535 - i)) f.bright ∙ sym (twice (min (65535 - i) (65535 - f.brightest)) (omega arith));
      both =
          ap (join_extremes (Some (y up_to y))) f.both
          ∙ ap₂ (λ (d b : Stored). Some (d up_to b))
          (ap (λ x. darker x (stored_at f.darkest)) (sym (index_stored y h.0)) ∙ darker_at i f.darkest place d)
          (ap (λ x. brighter x (stored_at f.brightest)) (sym (index_stored y h.0)) ∙ brighter_at i f.brightest place b);
    }

extremes_at_law : (ys : List Stored) → Every IsLuminance ys
    → extremes_at (lowest (map from_darkest (places ys))) (lowest (map from_brightest (places ys))) ≡ extremes_of ys
unfolding lowest extremes_of extremes_at
extremes_at_law [] h = refl
extremes_at_law (y ∷ ys) h =
    let f = found y ys h in
    let d = f.dark_place in
    let b = f.bright_place in
    let first : f.darkest - 1 + 1 ≡ f.darkest = omega (arith, d.least) in
    let last : 65535 - (65535 - f.brightest) ≡ f.brightest = omega (arith, b.most) in
    rw (f.dark, f.bright, ne_eqb (65535 - f.brightest) 65535 (λ e. omega (arith, e, b.least, b.most)), first, last) (sym f.both)

-- ---- pixels

-- an unlit pixel makes no difference to the lowest, and a lit one stands at its index
module _ (f : ℕ → ℕ) (last : f 0 ≡ 65535) where
  pub lowest_lit : (ps : List Pixel) → lowest (map f (index_list ps)) ≡ lowest (map f (places (luminances_of ps)))
  unfolding lowest luminances_of
  lowest_lit [] = refl
  lowest_lit (p ∷ ps) = by (luminance_of p) (lowest_lit ps)
    where
      by : (y : Luminance) → lowest (map f (index_list ps)) ≡ lowest (map f (places (luminances_of ps)))
          → min (f (index_of y)) (lowest (map f (index_list ps))) ≡ lowest (map f (places (if_lit y (luminances_of ps))))
      by None e = omega (arith, last, e, lowest_most (map f (index_list ps)))
      by (Some y) e = omega (arith, e)

-- of n pixels with these indices and luminances: how many are unlit, and the raised steps of the others
pub record Summed (is : List ℕ) (ys : List Stored) (n : ℕ) : Type 0 where
  pub count : total unlit_at is + length ys ≡ n
  pub steps : total steps_at is ≡ total unlit_at is * steps_at 0 + total raised_steps ys
  pub most : total steps_at is ≤ 49151 * n

steps_most : (i : ℕ) → i < index_count → steps_at i ≤ 49151
steps_most i h = omega (arith, raised_most (stored_at i))

more_steps : (u v s t r q z : ℕ) → u ≡ 0 → s ≡ r → t ≡ v * z + q → s + t ≡ (u + v) * z + (r + q)
more_steps u v s t r q z e f g = rw (e, f, g) (omega arith)

pub summed : (ps : List Pixel) → Every IsPixel ps → Summed (index_list ps) (luminances_of ps) (length ps)
unfolding luminances_of
summed [] h = record { count = refl; steps = omega arith; most = omega arith }
summed (p ∷ ps) h = by (luminance_of p) refl (summed ps h.1)
  where
    by : (y : Luminance) → luminance_of p ≡ y → Summed (index_list ps) (luminances_of ps) (length ps)
        → Summed (index_of y ∷ index_list ps) (if_lit y (luminances_of ps)) (suc (length ps))
    by None e s =
        record {
          count = omega (arith, s.count);
          steps = omega (arith, s.steps);
          most = omega (arith, s.most, steps_most 0 (omega arith));
        }
    by (Some y) e s =
        let lit = luminance_range p h.0 y e in
        let range = index_range y lit in
        let here : unlit_at (index_of (Some y)) ≡ 0 = rw (ne_eqb (index_of (Some y)) 0 (λ q. omega (arith, q, range.0))) in
        let steps : steps_at (index_of (Some y)) ≡ raised_steps y = ap raised_steps (index_stored y lit) in
        let most = steps_most (index_of (Some y)) range.1 in
        record {
          count = omega (arith, here, s.count);
          steps = more_steps _ _ _ _ _ _ (steps_at 0) here steps s.steps;
          most = omega (arith, most, s.most);
        }

module _ (ps : List Pixel) (valid : Every IsPixel ps) where
  pub tally_from_law : {n u r d b : ℕ} → n ≡ length ps → u ≡ total unlit_at (index_list ps) → r ≡ total steps_at (index_list ps)
      → d ≡ lowest (map from_darkest (index_list ps)) → b ≡ lowest (map from_brightest (index_list ps))
      → tally_from n u r d b ≡ tally_of (luminances_of ps)
  unfolding tally_from
  tally_from_law n u r d b =
      let s = summed ps valid in
      let ys = luminances_of ps in
      let count : length ps - total unlit_at (index_list ps) ≡ length ys = omega (arith, s.count) in
      let steps : total steps_at (index_list ps) - total unlit_at (index_list ps) * steps_at 0 ≡ total raised_steps ys =
      omega (arith, s.steps) in
      let dark = lowest_lit from_darkest refl ps in
      let bright = lowest_lit from_brightest refl ps in
      rw (n, u, r, count, steps, d, b, dark, bright, ← sum_is ys, extremes_at_law ys (every_luminance ps valid))
