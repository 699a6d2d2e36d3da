-- Walks that tally: at each turn the sums and the indices are those of the pixels so far. Assumes nothing.
use Rattle.std.proofs.Common.{◌≡◌, ℕ, ◌+◌, ◌*◌, ◌/◌, ◌<◌, ◌≤◌, min, ◌⊎◌, List, [], ◌∷◌, ◌++◌, map, length, get_or, take, drop, set, replicate, sym, refl, ap, ◌∙◌, ⊎_elim, zero-add, arith, drop_of_length-le, length-take-le, get_or-drop, take_all, get_or-append-add, take-add}
use mathlib.Core.List.{map-append, flat_map}
use lib.ListN.{length-map, length-replicate}
use lib.Seq.{sets, set-get_or}
use Rattle.number.proofs.Laws.{every_take}
use Rattle.word.specs.Pixels.{word_pixels}
use Rattle.word.specs.loops.Walks.{pixel_at}
use Rattle.word.proofs.Pixels.{length_word_pixels, take_pixel, part_pixels}
use Rattle.refusal.specs.Output.{onto}
use Rattle.refusal.proofs.Outputs.{sets_front, sets_append}
use Rattle.luminance.specs.Pixels.{IsPixel}
use Rattle.average.specs.loops.Sums.{total}
use Rattle.average.proofs.Laws.{total_append}
use Rattle.body.specs.loops.Indices.{index_bytes, pixel_index, indices_of, index_list}
use Rattle.body.specs.loops.Tallying.{steps_at, unlit_at, lowest}
use Rattle.body.proofs.Bytes.{indices_append, length_indices}
use Rattle.body.proofs.Luminances.{pixels_valid}
use Rattle.body.proofs.Tallying.{lowest_append, lowest_front, summed}

-- a sum over the indices of the pixels of words before number p
unfoldable pub summing : (ℕ → ℕ) → List ℕ → (p : ℕ) → ℕ
summing f ws p = total f (index_list (take p (word_pixels ws)))

-- the lowest of numbers that go by these indices
unfoldable pub lowering : (ℕ → ℕ) → List ℕ → (p : ℕ) → ℕ
lowering f ws p = lowest (map f (index_list (take p (word_pixels ws))))

-- a block's row t with these indices in its front
unfoldable pub noted : List ℕ → List ℕ → (p : ℕ) → List ℕ
noted t ws p = sets t 0 (index_list (take p (word_pixels ws)))

-- the output t with the bytes of these indices from `at` on
unfoldable pub indexed : List ℕ → (at : ℕ) → List ℕ → (p : ℕ) → List ℕ
indexed t at ws p = sets t at (indices_of (take p (word_pixels ws)))

taken : (ws : List ℕ) (p : ℕ) → p ≤ length ws / 3 → length (take p (word_pixels ws)) ≡ p
taken ws p h = length-take-le p (word_pixels ws) (rw (length_word_pixels ws) h)

indices_long : (ws : List ℕ) (p : ℕ) → p ≤ length ws / 3 → length (indices_of (take p (word_pixels ws))) ≡ 3 * p
indices_long ws p h = length_indices (take p (word_pixels ws)) ∙ ap (λ n. 3 * n) (taken ws p h)

list_long : (ws : List ℕ) (p : ℕ) → p ≤ length ws / 3 → length (index_list (take p (word_pixels ws))) ≡ p
list_long ws p h = length-map (take p (word_pixels ws)) pixel_index ∙ taken ws p h

-- ---- at first

pub summing_none : (f : ℕ → ℕ) (ws : List ℕ) → 0 ≡ summing f ws 0
unfolding summing
summing_none f ws = refl

pub lowering_none : (f : ℕ → ℕ) (ws : List ℕ) → 65535 ≡ lowering f ws 0
unfolding lowering lowest
lowering_none f ws = refl

pub noted_none : (t : List ℕ) (ws : List ℕ) → t ≡ noted t ws 0
unfolding noted
noted_none t ws = refl

pub indexed_none : (t : List ℕ) (at : ℕ) (ws : List ℕ) → t ≡ indexed t at ws 0
unfolding indexed flat_map
indexed_none t at ws = refl

-- ---- one pixel more

module _ (ws : List ℕ) (p : ℕ) (inside : p < length ws / 3) where
  list_next : index_list (take (p + 1) (word_pixels ws)) ≡ index_list (take p (word_pixels ws)) ++ (pixel_index (pixel_at ws p) ∷ [])
  list_next = ap index_list (take_pixel ws p inside) ∙ map-append pixel_index (take p (word_pixels ws)) (pixel_at ws p ∷ [])

  -- what stands in the row behind the indices so far is what stood there
  pub noted_at : (t : List ℕ) → length t ≡ 16 → length ws ≤ 48 → get_or (noted t ws p) p 0 ≡ get_or t p 0
  unfolding noted
  noted_at t long few =
      let is = index_list (take p (word_pixels ws)) in
      let n = list_long ws p (omega arith) in
      let k : p ≡ length is + 0 = omega (arith, n) in
      ap (λ r. get_or r p 0) (sets_front is t (omega (arith, n, long))) ∙ ap (λ q. get_or (onto is t) q 0) k
      ∙ get_or-append-add is (drop (length is) t) 0 0 ∙ get_or-drop (length is) t 0 0 ∙ ap (λ q. get_or t q 0) (sym k)

  module _ {i : ℕ} (index : i ≡ pixel_index (pixel_at ws p)) where
    pub summing_next : (f : ℕ → ℕ) → summing f ws p + f i ≡ summing f ws (p + 1)
    unfolding summing
    summing_next f = rw (index, list_next, total_append f) (omega arith)

    pub noted_next : (t : List ℕ) → set (noted t ws p) p i ≡ noted t ws (p + 1)
    unfolding noted
    noted_next t =
        let is = index_list (take p (word_pixels ws)) in
        let k : p ≡ 0 + length is = omega (arith, list_long ws p (omega arith)) in
        ap (λ q. set (sets t 0 is) q i) k ∙ sets_append t 0 is (i ∷ [])
        ∙ ap (sets t 0) (ap (λ x. is ++ (x ∷ [])) index ∙ sym list_next)

    -- where the row has it already
    pub noted_same : (t : List ℕ) → get_or (noted t ws p) p 0 ≡ i → noted t ws p ≡ noted t ws (p + 1)
    noted_same t e = sym (set-get_or (noted t ws p) p 0) ∙ ap (set (noted t ws p) p) e ∙ noted_next t

    pub indexed_next : (t : List ℕ) (at : ℕ) → sets (indexed t at ws p) (at + 3 * p) (index_bytes i) ≡ indexed t at ws (p + 1)
    unfolding indexed flat_map
    indexed_next t at =
        let ps = take p (word_pixels ws) in
        rw (← indices_long ws p (omega arith), index, take_pixel ws p inside)
        (sets_append t at (indices_of ps) (index_bytes (pixel_index (pixel_at ws p))) ∙ ap (sets t at) (sym (indices_append ps (pixel_at ws p ∷ []))))

-- ---- all pixels

module _ (ws : List ℕ) (p : ℕ) (h : length ws / 3 ≤ p) where
  all : take p (word_pixels ws) ≡ word_pixels ws
  all = take_all p (word_pixels ws) (rw (length_word_pixels ws) h)

  pub summing_all : (f : ℕ → ℕ) → summing f ws p ≡ total f (index_list (word_pixels ws))
  unfolding summing
  summing_all f = rw all

  pub lowering_all : (f : ℕ → ℕ) → lowering f ws p ≡ lowest (map f (index_list (word_pixels ws)))
  unfolding lowering
  lowering_all f = rw all

  pub indexed_all : (t : List ℕ) (at : ℕ) → indexed t at ws p ≡ sets t at (indices_of (word_pixels ws))
  unfolding indexed
  indexed_all t at = rw all

  -- a row of 16 that had zeros, or all of whose places are written to
  pub noted_all : (t : List ℕ) → length t ≡ 16 → length ws ≤ 48 → (length ws ≡ 48) ⊎ (t ≡ replicate 16 0)
      → noted t ws p ≡ onto (index_list (word_pixels ws)) (replicate 16 0)
  unfolding noted
  noted_all t long few from =
      let is = index_list (word_pixels ws) in
      let n : length is ≡ length ws / 3 = length-map (word_pixels ws) pixel_index ∙ length_word_pixels ws in
      ap (λ ps. sets t 0 (index_list ps)) all ∙ sets_front is t (omega (arith, n, long))
      ∙ ⊎_elim
      (λ e. ap (λ r. is ++ r) (drop_of_length-le t {i = length is} (omega (arith, n, long, e))
      ∙ sym (drop_of_length-le (replicate 16 0) {i = length is} (omega (arith, n, e, length-replicate {A = ℕ} 16 0)))))
      (λ e. ap (onto is) e)
      from

-- ---- a block of n pixels more, in a walk over all

module _ (ws : List ℕ) (p n : ℕ) (inside : p + n ≤ length ws / 3) {part : List ℕ} (is : part ≡ take (3 * n) (drop (3 * p) ws)) where
  list_part : index_list (take (p + n) (word_pixels ws)) ≡ index_list (take p (word_pixels ws)) ++ index_list (word_pixels part)
  list_part =
      ap index_list (take-add p n (word_pixels ws)) ∙ map-append pixel_index (take p (word_pixels ws)) (take n (drop p (word_pixels ws)))
      ∙ ap (λ qs. index_list (take p (word_pixels ws)) ++ index_list qs) (sym (ap word_pixels is ∙ part_pixels ws p n inside))

  pub summing_part : (f : ℕ → ℕ) → summing f ws p + total f (index_list (word_pixels part)) ≡ summing f ws (p + n)
  unfolding summing
  summing_part f = sym (ap (total f) list_part ∙ total_append f (index_list (take p (word_pixels ws))) (index_list (word_pixels part)))

  pub lowering_part : (f : ℕ → ℕ) → f 0 ≡ 65535
      → min (lowering f ws p) (lowest (map f (onto (index_list (word_pixels part)) (replicate 16 0)))) ≡ lowering f ws (p + n)
  unfolding lowering
  lowering_part f last =
      let so_far = index_list (take p (word_pixels ws)) in
      let more = index_list (word_pixels part) in
      ap (min (lowest (map f so_far))) (lowest_front f last more 16)
      ∙ sym (ap (λ qs. lowest (map f qs)) list_part ∙ ap lowest (map-append f so_far more) ∙ lowest_append (map f so_far) (map f more))

  pub indexed_part : (t : List ℕ) → sets (indexed t 0 ws p) (3 * p) (indices_of (word_pixels part)) ≡ indexed t 0 ws (p + n)
  unfolding indexed
  indexed_part t =
      let ps = word_pixels ws in
      let k : 3 * p ≡ 0 + length (indices_of (take p ps)) = sym (zero-add _ ∙ indices_long ws p (omega arith)) in
      rw (is, part_pixels ws p n inside, take-add p n ps, indices_append (take p ps) (take n (drop p ps)), k)
      (sets_append t 0 (indices_of (take p ps)) (indices_of (take n (drop p ps))))

-- ---- the sums of the pixels so far fit

pub summing_most : (ws : List ℕ) (p : ℕ) → p ≤ length ws / 3 → (summing unlit_at ws p ≤ p) × (summing steps_at ws p ≤ 49151 * p)
unfolding summing
summing_most ws p h =
    let s = summed (take p (word_pixels ws)) (every_take IsPixel p (word_pixels ws) (pixels_valid ws)) in
    let n = taken ws p h in
    (omega (arith, s.count, n), omega (arith, s.most, n))
