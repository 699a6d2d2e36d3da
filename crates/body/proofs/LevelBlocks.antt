-- Blocks of pixels: their levels before the limit of 255, and then in the output. Assumes nothing.
use Rattle.std.proofs.Common.{◌≡◌, ℕ, suc, ◌+◌, ◌*◌, ◌/◌, ◌<◌, ◌≤◌, min, List, [], ◌∷◌, ◌++◌, map, length, get_or, take, drop, set, sym, refl, ap, ◌∙◌, append_assoc, append-nil, arith, length-append, length-drop, length-set, take-append-drop, drop_of_length-le, length-take-le, take_all, get_or-take, drop-drop, take-suc-set, take_at, take-add, drop_at}
use mathlib.Core.List.{map-append, flat_map}
use lib.ListN.{length-map, get_or-map}
use lib.Seq.{sets}
use borrow.Rule.Slice.PartMut.{put_mid}
use Rattle.number.specs.declared.channel.Pixel.{Pixel}
use Rattle.refusal.specs.Output.{onto}
use Rattle.word.specs.Pixels.{word_pixels}
use Rattle.word.specs.loops.Walks.{pixel_at}
use Rattle.word.proofs.Pixels.{length_word_pixels, take_pixel, part_pixels}
use Rattle.tone.specs.declared.tone.Tone.{Tone}
use Rattle.body.specs.declared.levels.WideLevels.{WideLevels}
use Rattle.body.specs.Levels.{levels_of, levels_under}
use Rattle.body.specs.loops.Indices.{indices_of, HoldsIndices}
use Rattle.body.specs.loops.FactorTables.{limited}
use Rattle.body.specs.loops.LevelBlocks.{IsBlock, limited_front, HoldsLevels}
use Rattle.body.proofs.Bytes.{levels_append, length_levels, indices_append, length_indices}

-- ---- the numbers with their limit

module _ (wide : List ℕ) (n : ℕ) where
  pub length_limited : n ≤ length wide → length (limited_front n wide) ≡ n
  length_limited h = length-map (take n wide) (min 255) ∙ length-take-le n wide h

  pub limited_at : (j : ℕ) → j < n → get_or (limited_front n wide) j 0 ≡ min 255 (get_or wide j 0)
  limited_at j h = get_or-map (min 255) (take n wide) j 0 ∙ ap (min 255) (get_or-take n wide j 0 h)

-- three more
front : (t : List ℕ) (k r g b : ℕ) → k + 2 < length t → take (k + 3) (sets t k (r ∷ g ∷ b ∷ [])) ≡ take k t ++ (r ∷ g ∷ b ∷ [])
front t k r g b h =
    let e : k + 3 ≡ suc (suc (suc k)) = omega arith in
    rw e (
    take-suc-set (set (set t k r) (suc k) g) (suc (suc k)) b (simp length-set (omega arith))
    ∙ rw (take-suc-set (set t k r) (suc k) g (simp length-set (omega arith)), take-suc-set t k r (omega arith)) (simp append_assoc)
    )

-- ---- a loop over a block

-- the block has three bytes a pixel
pub block_long : {ws output : List ℕ} → IsBlock ws output → length output ≡ 3 * (length ws / 3)
block_long {ws} b = rw b.indices (length_indices (word_pixels ws) ∙ ap (λ n. 3 * n) (length_word_pixels ws))

module _ (t : Tone) (ws : List ℕ) where
  pub block_none : (wide : List ℕ) → limited_front (3 * 0) wide ≡ levels_under t (take 0 (word_pixels ws))
  unfolding flat_map
  block_none wide = refl

  -- the numbers of pixel j are stored behind those of the pixels before
  pub block_next : (wide : List ℕ) (j : ℕ) → limited_front (3 * j) wide ≡ levels_under t (take j (word_pixels ws)) → 3 * j + 2 < length wide
      → j < length ws / 3 → (w : WideLevels) → limited w ≡ levels_of t (pixel_at ws j)
      → limited_front (3 * (j + 1)) (sets wide (3 * j) (w.red ∷ w.green ∷ w.blue ∷ [])) ≡ levels_under t (take (j + 1) (word_pixels ws))
  unfolding flat_map
  block_next wide j inv long inside w e =
      let p = pixel_at ws j in
      let ps = take j (word_pixels ws) in
      let k : 3 * (j + 1) ≡ 3 * j + 3 = omega arith in
      rw k (ap (map (min 255)) (front wide (3 * j) w.red w.green w.blue long)
      ∙ map-append (min 255) (take (3 * j) wide) (w.red ∷ w.green ∷ w.blue ∷ [])
      ∙ ap (λ r. r ++ limited w) inv ∙ ap (λ r. levels_under t ps ++ r) (e ∙ sym (append-nil (levels_of t p)))
      ∙ sym (levels_append t ps (p ∷ [])) ∙ ap (levels_under t) (sym (take_pixel ws j inside)))

pub block_whole : {t : Tone} {ws wide : List ℕ} {n : ℕ} → HoldsLevels t ws wide → n ≡ 3 * (length ws / 3)
    → limited_front n wide ≡ levels_under t (word_pixels ws)
block_whole {t} {ws} {wide} h e = ap (λ k. limited_front k wide) e ∙ h.levels

-- ---- a loop over blocks: the levels of the pixels before number p, the indices of the others, and what was behind

module _ (t : Tone) (ws : List ℕ) where
  unfoldable pub filled : List ℕ → (p : ℕ) → List ℕ
  filled old p = levels_under t (take p (word_pixels ws)) ++ (indices_of (drop p (word_pixels ws)) ++ drop (3 * length (word_pixels ws)) old)

  long : (n : ℕ) → n ≤ length ws / 3 → length (take n (word_pixels ws)) ≡ n
  long n h = length-take-le n (word_pixels ws) (rw (length_word_pixels ws) h)

  pub filled_none : (old : List ℕ) → HoldsIndices ws old → old ≡ filled old 0
  unfolding filled flat_map
  filled_none old held = sym held.front ∙ ap (λ n. indices_of (word_pixels ws) ++ drop n old) (length_indices (word_pixels ws))

  module _ (old : List ℕ) where
    pub filled_room : (p : ℕ) → p ≤ length ws / 3 → 3 * (length ws / 3) ≤ length (filled old p)
    unfolding filled
    filled_room p h =
        let ps = word_pixels ws in
        let a = length-append (levels_under t (take p ps)) (indices_of (drop p ps) ++ drop (3 * length ps) old) in
        let b = length-append (indices_of (drop p ps)) (drop (3 * length ps) old) in
        let c = length_levels t (take p ps) in
        let d = length_indices (drop p ps) in
        let e = length-drop p ps in
        let f = length_word_pixels ws in
        let g = long p h in
        omega arith

    -- n pixels from number p on
    module _ (p n : ℕ) (inside : p + n ≤ length ws / 3) where
      abbrev rest : List ℕ
      rest = drop (3 * length (word_pixels ws)) old

      abbrev block : List Pixel
      block = take n (drop p (word_pixels ws))

      abbrev behind : List Pixel
      behind = drop n (drop p (word_pixels ws))

      before : length (levels_under t (take p (word_pixels ws))) ≡ 3 * p
      before = length_levels t (take p (word_pixels ws)) ∙ ap (λ k. 3 * k) (long p (omega arith))

      left : drop (3 * p) (filled old p) ≡ indices_of block ++ (indices_of behind ++ rest)
      unfolding filled
      left =
          drop_at (levels_under t (take p (word_pixels ws))) _ (3 * p) before
          ∙ ap (λ ps. indices_of ps ++ rest) (sym (take-append-drop n (drop p (word_pixels ws))))
          ∙ ap (λ is. is ++ rest) (indices_append block behind) ∙ append_assoc (indices_of block) (indices_of behind) rest

      indices : length (indices_of block) ≡ 3 * n
      indices =
          length_indices block
          ∙ ap (λ k. 3 * k) (length-take-le n (drop p (word_pixels ws)) (rw (length-drop p (word_pixels ws), length_word_pixels ws) (omega arith)))

      -- the indices that stand there
      pub filled_part : take (3 * n) (drop (3 * p) (filled old p)) ≡ indices_of (word_pixels (take (3 * n) (drop (3 * p) ws)))
      filled_part =
          ap (take (3 * n)) left ∙ take_at (indices_of block) (indices_of behind ++ rest) (3 * n) indices
          ∙ ap indices_of (sym (part_pixels ws p n inside))

      -- and their levels in that place
      pub filled_next : put_mid (3 * p) (3 * n) (filled old p) (levels_under t (word_pixels (take (3 * n) (drop (3 * p) ws)))) ≡ filled old (p + n)
      unfolding filled
      filled_next =
          let ps = word_pixels ws in
          ap (λ r. r ++ (levels_under t (word_pixels (take (3 * n) (drop (3 * p) ws))) ++ drop (3 * n) (drop (3 * p) (filled old p))))
          (take_at (levels_under t (take p ps)) _ (3 * p) before)
          ∙ ap (λ r. levels_under t (take p ps) ++ (levels_under t (word_pixels (take (3 * n) (drop (3 * p) ws))) ++ r))
          (ap (drop (3 * n)) left ∙ drop_at (indices_of block) (indices_of behind ++ rest) (3 * n) indices)
          ∙ ap (λ qs. levels_under t (take p ps) ++ (levels_under t qs ++ (indices_of behind ++ rest))) (part_pixels ws p n inside)
          ∙ sym (append_assoc (levels_under t (take p ps)) (levels_under t block) (indices_of behind ++ rest))
          ∙ ap (λ r. r ++ (indices_of behind ++ rest)) (sym (levels_append t (take p ps) block) ∙ ap (levels_under t) (sym (take-add p n ps)))
          ∙ ap (λ qs. levels_under t (take (p + n) ps) ++ (indices_of qs ++ rest)) (drop-drop n p ps)

    pub filled_done : (p : ℕ) → length ws / 3 ≤ p → filled old p ≡ onto (levels_under t (word_pixels ws)) old
    unfolding filled flat_map
    filled_done p h =
        let ps = word_pixels ws in
        let over : length ps ≤ p = rw (length_word_pixels ws) h in
        rw (take_all p ps over, drop_of_length-le ps over, length_levels t ps)
