-- Laws of the strips of a row. Assumes nothing.
use Prim.Native.Nat.{ℕ, zero, suc, ◌+◌, ◌-◌, ◌*◌, ◌^◌, ◌≤◌, ◌<◌, min}
use mathlib.Core.Path.{◌≡◌, refl, ap, ◌∙◌}
use mathlib.Core.List.{List, [], ◌∷◌, ◌++◌}
use native.Mathlib.Omega.{arith}
use lib.ListN.{length, take, drop, length-take, length-drop, length-append, drop_of_length-le}
use lib.Seq.{drop-drop, drop-nil, take_at, drop_at}
use Rattle.word.specs.Words.{strip_length}
use Rattle.word.proofs.Limits.{head_short, pixels_small}
use Rattle.strip.specs.Checks.{word_at, header_fields, declared_length, check_strip}
use Rattle.strip.proofs.Places.{place_within}
use Rattle.series.specs.Series.{Standing, front_strip, strips_from, moved_by, check_standing, strip_at, standing_at}
use Rattle.series.specs.loops.Walks.{series_from, PlacesFit}
use Rattle.std.specs.Prelude.{Err, Ok}
use Rattle.refusal.specs.Verdicts.{Verdict, accepted}

-- ---- the strip at the front of some words

pub front_length : (ws : List ℕ) → length (front_strip ws) ≡ min (declared_length ws) (length ws)
front_length ws = length-take (declared_length ws) ws

-- words that belong to the strip before are passed over
passed : (i left : ℕ) (ws : List ℕ) → strips_from i left ws ≡ strips_from (i + min left (length ws)) 0 (drop left ws)
unfolding strips_from
passed i left [] = rw (drop-nil {A = ℕ} left)
passed i zero (w ∷ ws) = let e : i + min zero (suc (length ws)) ≡ i = omega arith in rw e
passed i (suc left) (w ∷ ws) =
    let e : i + min (suc left) (suc (length ws)) ≡ suc i + min left (length ws) = omega arith in
    rw e (passed (suc i) left ws)

-- as many words as there are, or more
drop_min : (n : ℕ) (ws : List ℕ) → drop (min n (length ws)) ws ≡ drop n ws
drop_min zero ws = let e : min zero (length ws) ≡ zero = omega arith in rw e
drop_min (suc n) [] = drop-nil (min (suc n) 0)
drop_min (suc n) (w ∷ ws) = let e : min (suc n) (suc (length ws)) ≡ suc (min n (length ws)) = omega arith in rw e (drop_min n ws)

front_next : (i : ℕ) (ws : List ℕ) → 0 < length ws
    → strips_from i 0 ws
    ≡ record { start = i; strip = front_strip ws } ∷ strips_from (i + length (front_strip ws)) 0 (drop (length (front_strip ws)) ws)
unfolding strips_from
front_next i [] h = absurd (omega (arith, h))
front_next i (w ∷ ws) h =
    let n = declared_length (w ∷ ws) - 1 in
    let long : length (front_strip (w ∷ ws)) ≡ suc (min n (length ws)) = front_length (w ∷ ws) ∙ omega arith in
    let e : i + suc (min n (length ws)) ≡ suc i + min n (length ws) = omega arith in
    ap (λ ss. record { start = i; strip = front_strip (w ∷ ws) } ∷ ss)
    (passed (suc i) n ws ∙ rw (long, e, drop_min n ws))

-- ---- the strips from an index on

module _ (r : List ℕ) (i : ℕ) where
  pub series_over : length r ≤ i → series_from r i ≡ []
  unfolding strips_from
  series_over h = rw (drop_of_length-le r {i = i} h)

  pub series_next : i < length r → series_from r i ≡ standing_at r i ∷ series_from r (i + length (strip_at r i))
  series_next h =
      let n = length-drop i r in
      front_next i (drop i r) (omega arith)
      ∙ ap (λ ws. standing_at r i ∷ strips_from (i + length (strip_at r i)) 0 ws) (drop-drop (length (strip_at r i)) i r)

  -- where a strip begins, it has a word or more, and ends with the row
  pub strip_at_within : i < length r → (0 < length (strip_at r i)) × (i + length (strip_at r i) ≤ length r)
  strip_at_within h =
      let n = length-drop i r in
      let m = front_length (drop i r) in
      (omega arith, omega arith)

  -- no place overflows: a refused strip names a word up to where its end word should stand
  pub places_fit : i ≤ length r → length r * 4 < 2 ^ 63 → PlacesFit i (check_strip (strip_at r i))
  places_fit h few = by (check_strip (strip_at r i)) refl
    where
      by : (v : Verdict) → check_strip (strip_at r i) ≡ v → PlacesFit i v
      by (Ok u) e = tt
      by (Err f) e =
          let within = place_within (strip_at r i) e in
          let small = pixels_small _ (word_at (strip_at r i) 0) refl in
          omega (arith, head_short (header_fields (strip_at r i)))

-- ---- a strip before other words

module _ (s rest : List ℕ) (long : length s ≡ declared_length s) where
  pub front_same : header_fields (s ++ rest) ≡ header_fields s
  front_same = by s long
    where
      by : (t : List ℕ) → length t ≡ declared_length t → header_fields (t ++ rest) ≡ header_fields t
      by [] e = absurd (omega (arith, e))
      by (a ∷ []) e = absurd (omega (arith, e))
      by (a ∷ b ∷ []) e = absurd (omega (arith, e))
      by (a ∷ b ∷ c ∷ t) e = refl

  pub series_append : (i : ℕ) → strips_from i 0 (s ++ rest) ≡ record { start = i; strip = s } ∷ strips_from (i + length s) 0 rest
  series_append i =
      let some : 0 < length (s ++ rest) = rw (length-append s rest) (omega arith) in
      let front : front_strip (s ++ rest) ≡ s =
      ap (λ h. take (strip_length h) (s ++ rest)) front_same ∙ take_at s rest (declared_length s) long in
      front_next i (s ++ rest) some ∙ rw (front, drop_at s rest (length s) refl)

-- ---- the check of a strip where it stands

moved_accepted : (start : ℕ) (v : Verdict) → moved_by start v ≡ accepted → v ≡ accepted
moved_accepted start (Ok u) e = refl
moved_accepted start (Err f) e = cc

module _ (b : Standing) where
  pub standing_accepted : check_standing b ≡ accepted → check_strip b.strip ≡ accepted
  unfolding check_standing
  standing_accepted e = moved_accepted b.start _ e

  pub standing_met : check_strip b.strip ≡ accepted → check_standing b ≡ accepted
  unfolding check_standing
  standing_met e = rw e
