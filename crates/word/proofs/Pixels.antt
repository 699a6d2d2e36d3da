-- Laws of the pixels that words stand for. Assumes nothing.
use Rattle.std.proofs.Common.{ℕ, zero, suc, ◌+◌, ◌*◌, ◌/◌, ◌%◌, ◌≤◌, ◌<◌, ◌≡◌, refl, sym, ap, ◌∙◌, List, [], ◌∷◌, ◌++◌, map, add-one, arith, length, get_or, take, drop, length-drop, take-append-drop, take-suc, drop-cons, length-take-le, take_at, drop_at}
use mathlib.Core.List.{map-append}
use lib.ListN.{length-map, get_or-map}
use Rattle.number.specs.declared.channel.Channel.{Channel}
use Rattle.number.specs.declared.channel.Channel.TheVariants.{Black}
use Rattle.number.specs.declared.channel.Pixel.{Pixel}
use Rattle.number.specs.Channels.{channel_of_code}
use Rattle.number.proofs.Laws.{IsChannel, code_channel_law, code_valid}
use Rattle.word.specs.Fields.{low16, decode_word}
use Rattle.word.specs.Pixels.{pixel_of, pixels_of, word_channel, word_pixels}
use Rattle.word.specs.loops.Walks.{pixel_at}
use Rattle.word.proofs.Decoding.{is_word}
use Rattle.std.specs.Prelude.{Ok}

-- ---- channels by threes

pub length_pixels : (cs : List Channel) → length (pixels_of cs) ≡ length cs / 3
length_pixels [] = omega arith
length_pixels (r ∷ []) = omega arith
length_pixels (r ∷ g ∷ []) = omega arith
length_pixels (r ∷ g ∷ b ∷ cs) = let e = length_pixels cs in omega arith

-- pixel p
pub get_or_pixels : (cs : List Channel) (p : ℕ) (d : Pixel) → p < length cs / 3
    → get_or (pixels_of cs) p d ≡ pixel_of (get_or cs (3 * p) Black) (get_or cs (3 * p + 1) Black) (get_or cs (3 * p + 2) Black)
get_or_pixels [] p d h = absurd (omega arith)
get_or_pixels (r ∷ []) p d h = absurd (omega arith)
get_or_pixels (r ∷ g ∷ []) p d h = absurd (omega arith)
get_or_pixels (r ∷ g ∷ b ∷ cs) zero d h = refl
get_or_pixels (r ∷ g ∷ b ∷ cs) (suc p) d h =
    let e₀ : 3 * suc p ≡ suc (suc (suc (3 * p))) = omega arith in
    let e₁ : 3 * suc p + 1 ≡ suc (suc (suc (3 * p + 1))) = omega arith in
    let e₂ : 3 * suc p + 2 ≡ suc (suc (suc (3 * p + 2))) = omega arith in
    rw (e₁, e₂, e₀) (get_or_pixels cs p d (omega arith))

-- the channels of whole pixels before others
pub pixels_append : (cs ds : List Channel) → length cs % 3 ≡ 0 → pixels_of (cs ++ ds) ≡ pixels_of cs ++ pixels_of ds
pixels_append [] ds h = refl
pixels_append (r ∷ []) ds h = absurd (omega arith)
pixels_append (r ∷ g ∷ []) ds h = absurd (omega arith)
pixels_append (r ∷ g ∷ b ∷ cs) ds h = rw (pixels_append cs ds (omega arith))

-- ---- the channels of words

-- the channel of an accepted word
pub word_channel_law : (k w : ℕ) {c : Channel} → decode_word k w ≡ Ok c → word_channel w ≡ c
word_channel_law k w {c} e =
    let q = (is_word k w e).coded in
    rw (← q.code, code_channel_law c q.valid)

-- whatever the word
pub word_valid : (w : ℕ) → IsChannel (word_channel w)
word_valid w = code_valid (low16 w)

-- ---- pixel p of channel words

black : word_channel 0 ≡ Black
unfolding channel_of_code
black = refl

channel_at : (ws : List ℕ) (i : ℕ) → get_or (map word_channel ws) i Black ≡ word_channel (get_or ws i 0)
channel_at ws i = ap (λ c. get_or (map word_channel ws) i c) (sym black) ∙ get_or-map word_channel ws i 0

pub length_word_pixels : (ws : List ℕ) → length (word_pixels ws) ≡ length ws / 3
length_word_pixels ws = length_pixels (map word_channel ws) ∙ ap (λ n. n / 3) (length-map ws word_channel)

module _ (ws : List ℕ) (p : ℕ) (inside : p < length ws / 3) where
  there : p < length (word_pixels ws)
  there = rw (length_word_pixels ws) inside

  pub pixel_at_law : get_or (word_pixels ws) p (pixel_at ws p) ≡ pixel_at ws p
  pixel_at_law =
      get_or_pixels (map word_channel ws) p (pixel_at ws p) (rw length-map inside)
      ∙ rw (channel_at ws (3 * p), channel_at ws (3 * p + 1), channel_at ws (3 * p + 2))

  pub take_pixel : take (p + 1) (word_pixels ws) ≡ take p (word_pixels ws) ++ (pixel_at ws p ∷ [])
  take_pixel = rw (add-one p) (take-suc (word_pixels ws) p (pixel_at ws p) there ∙ rw pixel_at_law)

  pub drop_pixel : drop p (word_pixels ws) ≡ pixel_at ws p ∷ drop (p + 1) (word_pixels ws)
  drop_pixel = rw (add-one p) (drop-cons (word_pixels ws) p (pixel_at ws p) there ∙ rw pixel_at_law)

-- the words of whole pixels before others
pub word_pixels_append : (vs ws : List ℕ) → length vs % 3 ≡ 0 → word_pixels (vs ++ ws) ≡ word_pixels vs ++ word_pixels ws
word_pixels_append vs ws h =
    ap pixels_of (map-append word_channel vs ws) ∙ pixels_append (map word_channel vs) (map word_channel ws) (rw length-map h)

-- the words of n pixels from number p on
module _ (ws : List ℕ) (p n : ℕ) (inside : p + n ≤ length ws / 3) where
  pub part_pixels : word_pixels (take (3 * n) (drop (3 * p) ws)) ≡ take n (drop p (word_pixels ws))
  part_pixels =
      let before = take (3 * p) ws in
      let behind = drop (3 * p) ws in
      let part = take (3 * n) behind in
      let rest = drop (3 * n) behind in
      let l₁ : length before ≡ 3 * p = length-take-le (3 * p) ws (omega arith) in
      let l₂ : length part ≡ 3 * n = length-take-le (3 * n) behind (rw (length-drop (3 * p) ws) (omega arith)) in
      let n₁ : length (word_pixels before) ≡ p = length_word_pixels before ∙ omega arith in
      let n₂ : length (word_pixels part) ≡ n = length_word_pixels part ∙ omega arith in
      let e₁ : word_pixels before ++ word_pixels behind ≡ word_pixels ws =
      sym (word_pixels_append before behind (omega arith)) ∙ ap word_pixels (take-append-drop (3 * p) ws) in
      let e₂ : word_pixels part ++ word_pixels rest ≡ word_pixels behind =
      sym (word_pixels_append part rest (omega arith)) ∙ ap word_pixels (take-append-drop (3 * n) behind) in
      sym (take_at (word_pixels part) (word_pixels rest) n n₂)
      ∙ ap (take n) (e₂ ∙ sym (drop_at (word_pixels before) (word_pixels behind) p n₁))
      ∙ ap (λ ps. take n (drop p ps)) e₁
