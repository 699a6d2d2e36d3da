-- The bytes of pixels, three for each, one after another. Assumes nothing.
use Rattle.std.proofs.Common.{◌≡◌, ℕ, ◌*◌, List, [], ◌∷◌, ◌++◌, length, sym, refl, ◌∙◌, append_assoc, arith, length-append}
use mathlib.Core.List.{flat_map}
use Rattle.number.specs.declared.channel.Pixel.{Pixel}
use Rattle.tone.specs.declared.tone.Tone.{Tone}
use Rattle.body.specs.Levels.{levels_of, levels_under}
use Rattle.body.specs.loops.Indices.{index_bytes, pixel_index, indices_of}

module _ {X : Type 0} (f : X → List ℕ) where
  bytes_append : (xs ys : List X) → flat_map f (xs ++ ys) ≡ flat_map f xs ++ flat_map f ys
  unfolding flat_map
  bytes_append [] ys = refl
  bytes_append (x ∷ xs) ys = rw (bytes_append xs ys) (sym (append_assoc (f x) (flat_map f xs) (flat_map f ys)))

  length_bytes : ((x : X) → length (f x) ≡ 3) → (xs : List X) → length (flat_map f xs) ≡ 3 * length xs
  unfolding flat_map
  length_bytes three [] = refl
  length_bytes three (x ∷ xs) =
      let e = length_bytes three xs in
      length-append (f x) (flat_map f xs) ∙ omega (arith, three x)

-- ---- levels

pub levels_append : (t : Tone) (ps qs : List Pixel) → levels_under t (ps ++ qs) ≡ levels_under t ps ++ levels_under t qs
levels_append t ps qs = bytes_append (levels_of t) ps qs

pub length_levels : (t : Tone) (ps : List Pixel) → length (levels_under t ps) ≡ 3 * length ps
length_levels t ps = length_bytes (levels_of t) (λ p. refl) ps

-- ---- indices

pub indices_append : (ps qs : List Pixel) → indices_of (ps ++ qs) ≡ indices_of ps ++ indices_of qs
indices_append ps qs = bytes_append (λ p. index_bytes (pixel_index p)) ps qs

pub length_indices : (ps : List Pixel) → length (indices_of ps) ≡ 3 * length ps
length_indices ps = length_bytes (λ p. index_bytes (pixel_index p)) (λ p. refl) ps
