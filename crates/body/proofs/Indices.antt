-- The indices of luminances, and how they stand in an output. Assumes nothing.
use Rattle.std.proofs.Common.{◌≡◌, ℕ, zero, suc, ◌+◌, ◌-◌, ◌*◌, ◌/◌, ◌<◌, min, List, [], ◌∷◌, ◌++◌, length, get_or, take, drop, sym, refl, ap, ◌∙◌, subst, arith, length-drop, length-take, get_or-drop, get_or-take, ne_eqb}
use mathlib.Core.List.{flat_map}
use lib.Seq.{drop-append_seam}
use Rattle.number.specs.Channels.{IsCode}
use Rattle.number.specs.declared.channel.Pixel.{Pixel}
use Rattle.refusal.specs.Output.{onto}
use Rattle.word.specs.Fields.{low16}
use Rattle.word.specs.Pixels.{word_pixels}
use Rattle.word.specs.loops.Walks.{pixel_at}
use Rattle.word.proofs.Pixels.{length_word_pixels, pixel_at_law}
use Rattle.luminance.specs.loops.Codes.{index_of, index_count, stored_at}
use Rattle.luminance.specs.Pixels.{IsPixel, luminance_of, IsLuminance, Luminance}
use Rattle.luminance.proofs.Laws.{luminance_range, index_stored, index_range}
use Rattle.body.specs.loops.Indices.{IsBody, luminance_at, InRange, IsIndex, pixel_index, indices_of, HoldsIndices}
use Rattle.body.proofs.Bytes.{length_indices}
use Rattle.std.specs.Prelude.{None, Some}

-- ---- a part of the words

pub body_part_law : (ws : List ℕ) → IsBody ws → (a k : ℕ) → IsBody (take k (drop a ws))
body_part_law ws body a k =
    let long : length (take k (drop a ws)) ≡ min k (length ws - a) = length-take k (drop a ws) ∙ ap (min k) (length-drop a ws) in
    record {
      few = omega (arith, body.few);
      code = λ j h. rw (get_or-take k (drop a ws) j 0 (omega arith), get_or-drop a ws j 0) (body.code (a + j) (omega arith));
    }

-- the codes of pixel p
pub pixel_codes : (ws : List ℕ) → IsBody ws → (p : ℕ) → p < length ws / 3
    → IsCode (low16 (get_or ws (3 * p) 0)) × IsCode (low16 (get_or ws (3 * p + 1) 0)) × IsCode (low16 (get_or ws (3 * p + 2) 0))
pixel_codes ws body p inside =
    (body.code (3 * p) (omega arith), body.code (3 * p + 1) (omega arith), body.code (3 * p + 2) (omega arith))

-- ---- any index but 0

module _ {i : ℕ} (lit : i ≡ 0 → ⊥) where
  at_lit : luminance_at i ≡ Some (stored_at i)
  unfolding luminance_at
  at_lit = rw (ne_eqb i 0 lit)

  pub is_luminance : IsIndex i → IsLuminance (stored_at i)
  is_luminance h = subst InRange at_lit h.luminance

-- ---- the luminance of a pixel stands at its index

index_at : (y : Luminance) → InRange y → (luminance_at (index_of y) ≡ y) × (index_of y < index_count)
unfolding luminance_at
index_at None h = (refl, omega arith)
index_at (Some y) h =
    let range = index_range y h in
    (rw (ne_eqb (index_of (Some y)) 0 (λ e. omega arith), index_stored y h), range.1)

in_range : (p : Pixel) → IsPixel p → InRange (luminance_of p)
in_range p valid = by (luminance_of p) refl
  where
    by : (y : Luminance) → luminance_of p ≡ y → InRange y
    by None e = tt
    by (Some y) e = luminance_range p valid y e

module _ (p : Pixel) (valid : IsPixel p) where
  luminance_at_law : luminance_at (pixel_index p) ≡ luminance_of p
  luminance_at_law = (index_at (luminance_of p) (in_range p valid)).0

  pub is_index : IsIndex (pixel_index p)
  is_index = record { small = (index_at (luminance_of p) (in_range p valid)).1; luminance = rw luminance_at_law (in_range p valid) }

-- ---- the indices in an output

-- the index of pixel p in its bytes
bytes_at : (ps : List Pixel) (p : ℕ) (d : Pixel) → p < length ps
    → get_or (indices_of ps) (3 * p) 0 + 256 * get_or (indices_of ps) (3 * p + 1) 0 ≡ pixel_index (get_or ps p d)
unfolding flat_map
bytes_at [] p d h = absurd (omega arith)
bytes_at (x ∷ ps) zero d h = omega arith
bytes_at (x ∷ ps) (suc p) d h =
    let e₀ : 3 * suc p ≡ suc (suc (suc (3 * p))) = omega arith in
    let e₁ : 3 * suc p + 1 ≡ suc (suc (suc (3 * p + 1))) = omega arith in
    rw (e₁, e₀) (bytes_at ps p d (omega arith))

pub index_read : (ws : List ℕ) (p : ℕ) {indices : List ℕ} → indices ≡ indices_of (word_pixels ws) → p < length ws / 3
    → get_or indices (3 * p) 0 + 256 * get_or indices (3 * p + 1) 0 ≡ pixel_index (pixel_at ws p)
index_read ws p e inside =
    rw e (bytes_at (word_pixels ws) p (pixel_at ws p) (rw (length_word_pixels ws) inside) ∙ ap pixel_index (pixel_at_law ws p inside))

-- other bytes in the front take the place of those that were there
onto_again : (xs ys old : List ℕ) → length xs ≡ length ys → onto ys (onto xs old) ≡ onto ys old
onto_again xs ys old e = rw (← e) (ap (λ r. ys ++ r) (drop-append_seam xs (drop (length xs) old)))

pub indices_held : (ws old : List ℕ) → HoldsIndices ws (onto (indices_of (word_pixels ws)) old)
indices_held ws old = record { front = onto_again (indices_of (word_pixels ws)) (indices_of (word_pixels ws)) old refl }

pub over_indices : (ps : List Pixel) (levels old : List ℕ) → length levels ≡ 3 * length ps
    → onto levels (onto (indices_of ps) old) ≡ onto levels old
over_indices ps levels old e = onto_again (indices_of ps) levels old (length_indices ps ∙ sym e)
