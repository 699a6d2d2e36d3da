-- Loops over the pixels of an RGBE picture. Assumes nothing.
use Rattle.std.proofs.Common.{◌≡◌, ℕ, zero, suc, ◌+◌, ◌*◌, ◌/◌, ◌<◌, ◌≤◌, List, [], ◌∷◌, ◌++◌, length, get_or, drop, set, sym, ap, refl, ◌∙◌, arith, lit<, add-zero, zero-add, get_or-take, get_or-drop, length-drop, length-set, drop-cons}
use lib.Seq.{sets}
use Rattle.std.specs.Simd.{first_chunks}
use Rattle.refusal.specs.Verdicts.{and_then, Verdict, accepted}
use Rattle.word.specs.Words.{body_words}
use Rattle.word.specs.Placing.{Placed, first_refusal, channels_of}
use Rattle.word.proofs.Walks.{refusal_append, words_whole}
use Rattle.convert.specs.Formats.{rgbe_pixels}
use Rattle.convert.specs.loops.Stores.{pixel_of, pixel_word}
use Rattle.std.specs.Prelude.{Err}
use Rattle.refusal.specs.declared.Fault.{Fault}

-- the four bytes at an index, and the rest
four : (xs : List ℕ) (i : ℕ) → i + 3 < length xs
    → drop i xs ≡ get_or xs i 0 ∷ get_or xs (i + 1) 0 ∷ get_or xs (i + 2) 0 ∷ get_or xs (i + 3) 0 ∷ drop (i + 4) xs
four xs i h =
    let a : i + 1 ≡ suc i = omega arith in
    let b : i + 2 ≡ suc (suc i) = omega arith in
    let c : i + 3 ≡ suc (suc (suc i)) = omega arith in
    let d : i + 4 ≡ suc (suc (suc (suc i))) = omega arith in
    rw (
      a,
      b,
      c,
      d,
      drop-cons xs i 0 (omega arith),
      drop-cons xs (suc i) 0 (omega arith),
      drop-cons xs (suc (suc i)) 0 (omega arith),
      drop-cons xs (suc (suc (suc i))) 0 (omega arith),
    )

-- less than a pixel stands for nothing
short : (i : ℕ) (xs : List ℕ) → length xs < 4 → rgbe_pixels i xs ≡ []
short i [] h = refl
short i (r ∷ []) h = refl
short i (r ∷ g ∷ []) h = refl
short i (r ∷ g ∷ b ∷ []) h = refl
short i (r ∷ g ∷ b ∷ e ∷ xs) h = absurd (omega arith)

-- pixel p: its four bytes, and what they decode to
abbrev pub bytes_at : List ℕ → (p : ℕ) → List ℕ
bytes_at xs p = get_or (first_chunks 4 (length xs / 4) xs) p []

byte_at : (xs : List ℕ) (n p j : ℕ) → p < n → j < 4 → get_or (get_or (first_chunks 4 n xs) p []) j 0 ≡ get_or xs (4 * p + j) 0
byte_at xs zero p j h i = absurd (omega arith)
byte_at xs (suc n) zero j h i = rw zero-add (get_or-take 4 xs j 0 i)
byte_at xs (suc n) (suc p) j h i =
    let k : 4 + (4 * p + j) ≡ 4 * suc p + j = omega arith in
    byte_at (drop 4 xs) n p j (omega arith) i ∙ get_or-drop 4 xs (4 * p + j) 0 ∙ ap (λ k. get_or xs k 0) k

-- the pixels that are left, from number p on
unfoldable pub left : List ℕ → (p : ℕ) → List Placed
left xs p = rgbe_pixels (4 * p) (drop (4 * p) xs)

pub left_all : (xs : List ℕ) → first_refusal (left xs 0) ≡ first_refusal (rgbe_pixels 0 xs)
unfolding left
left_all xs = refl

left_next : (xs : List ℕ) (p : ℕ) → p < length xs / 4 → left xs p ≡ pixel_of (4 * p) (bytes_at xs p) ++ left xs (p + 1)
unfolding left
left_next xs p h =
    let e : 4 * (p + 1) ≡ 4 * p + 4 = omega arith in
    let byte : (j : ℕ) → j < 4 → get_or (bytes_at xs p) j 0 ≡ get_or xs (4 * p + j) 0 = λ j. byte_at xs (length xs / 4) p j h in
    rw (e, four xs (4 * p) (omega arith), byte 0 (lit< tt), byte 1 (lit< tt), byte 2 (lit< tt), byte 3 (lit< tt), add-zero)

left_done : (xs : List ℕ) (p : ℕ) → length xs / 4 ≤ p → left xs p ≡ []
unfolding left
left_done xs p h = short (4 * p) (drop (4 * p) xs) (rw length-drop (omega arith))

-- ---- a loop that checks

module _ (xs : List ℕ) (p : ℕ) {all : Verdict} (inv : first_refusal (left xs p) ≡ all) where
  module _ (inside : p < length xs / 4) {v : Verdict} (pixel : v ≡ first_refusal (pixel_of (4 * p) (bytes_at xs p))) where
    step : and_then v (first_refusal (left xs (p + 1))) ≡ all
    step = rw pixel (sym (refusal_append (pixel_of (4 * p) (bytes_at xs p)) (left xs (p + 1))) ∙ (rw (left_next xs p inside) at inv))

    pub pixels_next : v ≡ accepted → first_refusal (left xs (p + 1)) ≡ all
    unfolding and_then
    pixels_next told = rw told at step

    pub pixels_refused : {f : Fault} → v ≡ Err f → Err f ≡ all
    unfolding and_then
    pixels_refused told = rw told at step

  pub pixels_done : length xs / 4 ≤ p → accepted ≡ all
  pixels_done h = rw (left_done xs p h) at inv

-- ---- a loop that stores

-- the words of the pixels that are left
unfoldable pub writing : List ℕ → (p : ℕ) → List ℕ → List ℕ
writing xs p t = sets t (3 * p) (body_words (3 * p) (channels_of (left xs p)))

pub writing_all : (xs t : List ℕ) → length t ≡ length (rgbe_pixels 0 xs) → writing xs 0 t ≡ body_words 0 (channels_of (rgbe_pixels 0 xs))
unfolding writing left
writing_all xs t long = words_whole (rgbe_pixels 0 xs) t long

module _ (xs : List ℕ) (p : ℕ) (t : List ℕ) {n : ℕ} {u : List ℕ} (inv : (length t ≡ n) × (writing xs p t ≡ u)) where
  pub writing_next : p < length xs / 4
      → let k = 3 * p in
      let bs = bytes_at xs p in
      let red = set t k (pixel_word k 0 bs) in
      let green = set red (k + 1) (pixel_word (k + 1) 1 bs) in
      let blue = set green (k + 2) (pixel_word (k + 2) 2 bs) in
      (length blue ≡ n) × (writing xs (p + 1) blue ≡ u)
  unfolding writing
  writing_next inside =
      let k = 3 * p in
      let next : 3 * (p + 1) ≡ suc (suc (suc k)) = omega arith in
      let green : k + 1 ≡ suc k = omega arith in
      let blue : k + 2 ≡ suc (suc k) = omega arith in
      (simp length-set inv.0, rw (next, green, blue) (rw (left_next xs p inside) at inv.1))

  pub writing_done : length xs / 4 ≤ p → t ≡ u
  unfolding writing
  writing_done h = rw (left_done xs p h) at inv.1
