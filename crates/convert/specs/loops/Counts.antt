-- Each format has three channels a pixel: the law that it gives. Assumes nothing.
use Rattle.std.specs.Prelude.{◌≡◌, ℕ, suc, ◌+◌, ◌*◌, ◌/◌, List, [], ◌∷◌, length, map, refl}
use mathlib.Core.Path.{ap, ◌∙◌}
use native.Mathlib.Omega.{arith}
use Rattle.number.specs.Channels.{Decoded}
use Rattle.word.specs.Placing.{placed}
use Rattle.convert.specs.Formats.{Format, rgbe, half, single, stored, per_pixel, rgbe_pixels, decoded_source}

pub length_pixels : (i : ℕ) (xs : List ℕ) → length (rgbe_pixels i xs) ≡ 3 * (length xs / 4)
length_pixels i [] = refl
length_pixels i (r ∷ []) = refl
length_pixels i (r ∷ g ∷ []) = refl
length_pixels i (r ∷ g ∷ b ∷ []) = refl
length_pixels i (r ∷ g ∷ b ∷ e ∷ xs) = omega (arith, length_pixels (i + 4) xs)

length_of : (f : ℕ → ℕ → Decoded) (k : ℕ) (xs : List ℕ) → length (placed f 0 k xs) ≡ length xs
length_of f k [] = refl
length_of f k (x ∷ xs) = ap suc (length_of f (suc k) xs)

length_by : {A : Type 0} (f : ℕ → ℕ → Decoded) (number : A → ℕ) (k : ℕ) (xs : List A) → length (placed f 0 k (map number xs)) ≡ length xs
length_by f number k [] = refl
length_by f number k (x ∷ xs) = ap suc (length_by f number (suc k) xs)

pub length_elements : (f : Format) (n : ℕ) (xs : List ℕ) → length xs ≡ per_pixel f * n → length (decoded_source f xs) ≡ 3 * n
length_elements rgbe n xs e = omega (arith, length_pixels 0 xs, e)
length_elements half n xs e = length_of _ 0 xs ∙ e
length_elements single n xs e = length_of _ 0 xs ∙ e
length_elements stored n xs e = length_of _ 0 xs ∙ e

pub length_each : {A : Type 0} (f : ℕ → ℕ → Decoded) (number : A → ℕ) (n : ℕ) (xs : List A) → length xs ≡ 3 * n
    → length (placed f 0 0 (map number xs)) ≡ 3 * n
length_each f number n xs e = length_by f number 0 xs ∙ e
