-- The luminances of a page's lit pixels. Assumes nothing.
use Rattle.std.proofs.Common.{◌≡◌, ℕ, suc, ◌+◌, ◌≤◌, Bool, true, false, cond, List, [], ◌∷◌, ◌++◌, length, sym, refl, ap, ◌∙◌, ap₂, arith, length-append}
use Rattle.number.specs.declared.channel.Pixel.{Pixel}
use Rattle.number.specs.declared.ratio.Stored.{Stored}
use Rattle.number.proofs.Laws.{Every, stored_of}
use Rattle.word.specs.Pixels.{pixel_of, word_channel, word_pixels}
use Rattle.word.proofs.Pixels.{word_valid}
use Rattle.luminance.specs.Pixels.{IsPixel, exact_luminance, any_lit, luminance_of, IsLuminance, Luminance}
use Rattle.average.specs.Tallies.{tally_of, join}
use Rattle.luminance.proofs.Laws.{luminance_range}
use Rattle.body.specs.Luminances.{if_lit, luminances_of, lit_count}
use Rattle.average.proofs.Laws.{tallies_join}
use Rattle.std.specs.Prelude.{None, Some}

-- ---- pixels one after another

one_append : (y : Luminance) (ys zs : List Stored) → if_lit y (ys ++ zs) ≡ if_lit y ys ++ zs
one_append None ys zs = refl
one_append (Some y) ys zs = refl

pub luminances_append : (ps qs : List Pixel) → luminances_of (ps ++ qs) ≡ luminances_of ps ++ luminances_of qs
unfolding luminances_of
luminances_append [] qs = refl
luminances_append (p ∷ ps) qs = rw (luminances_append ps qs) (one_append (luminance_of p) (luminances_of ps) (luminances_of qs))

pub tally_join : (ps qs : List Pixel)
    → tally_of (luminances_of (ps ++ qs)) ≡ join (tally_of (luminances_of ps)) (tally_of (luminances_of qs))
tally_join ps qs = ap tally_of (luminances_append ps qs) ∙ tallies_join (luminances_of ps) (luminances_of qs)

-- ---- the number of lit pixels

-- of a pixel with a lit channel
abbrev pub stored_luminance : Pixel → Stored
stored_luminance p = stored_of (exact_luminance p)

pub lit_luminance : (p : Pixel) → any_lit p ≡ true → luminance_of p ≡ Some (stored_luminance p)
unfolding luminance_of
lit_luminance p e = rw e

count_one : (lit : Bool) (y : Stored) (ys : List Stored)
    → length (if_lit (cond lit (Some y) None) ys) ≡ cond lit (suc (length ys)) (length ys)
count_one true y ys = refl
count_one false y ys = refl

pub lit_count_law : (ps : List Pixel) → length (luminances_of ps) ≡ lit_count ps
unfolding luminances_of luminance_of
lit_count_law [] = refl
lit_count_law (p ∷ ps) = rw (← lit_count_law ps) (count_one (any_lit p) (stored_luminance p) (luminances_of ps))

pub luminances_few : (ps : List Pixel) → length (luminances_of ps) ≤ length ps
unfolding luminances_of
luminances_few [] = omega arith
luminances_few (p ∷ ps) = by (luminance_of p) (luminances_few ps)
  where
    by : (y : Luminance) → length (luminances_of ps) ≤ length ps → length (if_lit y (luminances_of ps)) ≤ suc (length ps)
    by None h = omega arith
    by (Some y) h = omega arith

pub lit_append : (ps qs : List Pixel) → lit_count (ps ++ qs) ≡ lit_count ps + lit_count qs
lit_append ps qs =
    sym (lit_count_law (ps ++ qs)) ∙ ap length (luminances_append ps qs) ∙ length-append (luminances_of ps) (luminances_of qs)
    ∙ ap₂ (λ m n. m + n) (lit_count_law ps) (lit_count_law qs)

pub lit_few : (ps : List Pixel) → lit_count ps ≤ length ps
lit_few ps = let few = luminances_few ps in let count = lit_count_law ps in omega arith

-- ---- pixels of words are pixels, and their luminances lie in range

pub pixel_valid : (r g b : ℕ) → IsPixel (pixel_of (word_channel r) (word_channel g) (word_channel b))
pixel_valid r g b = record { red = word_valid r; green = word_valid g; blue = word_valid b }

pub pixels_valid : (ws : List ℕ) → Every IsPixel (word_pixels ws)
pixels_valid [] = tt
pixels_valid (r ∷ []) = tt
pixels_valid (r ∷ g ∷ []) = tt
pixels_valid (r ∷ g ∷ b ∷ ws) = (pixel_valid r g b, pixels_valid ws)

pub every_luminance : (ps : List Pixel) → Every IsPixel ps → Every IsLuminance (luminances_of ps)
unfolding luminances_of
every_luminance [] h = tt
every_luminance (p ∷ ps) h = by (luminance_of p) refl (every_luminance ps h.1)
  where
    by : (y : Luminance) → luminance_of p ≡ y → Every IsLuminance (luminances_of ps) → Every IsLuminance (if_lit y (luminances_of ps))
    by None e t = t
    by (Some y) e t = (luminance_range p h.0 y e, t)
