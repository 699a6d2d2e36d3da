-- Laws of texts that are put together in an output, and of decimal digits. Assumes nothing.
use Prim.Native.Nat.{ℕ, zero, suc, ◌+◌, ◌-◌, ◌/◌, ◌%◌, ◌^◌, ◌≤◌, ◌<◌}
use mathlib.Core.Path.{◌≡◌, refl, ◌∙◌}
use mathlib.Core.Bool.{Bool, true, false}
use mathlib.Core.List.{List, ◌++◌}
use native.Mathlib.Nat.{pow-suc, one-le-pow, pow-le-pow_right}
use native.Mathlib.Omega.{arith}
use borrow.Author.Tests.{lt-ltb, le-ltb, leb-true, leb-false}
use lib.Dec.{ltb, leb}
use lib.ListN.{length, take, length-append}
use Rattle.std.proofs.Common.{append_assoc}
use Rattle.std.proofs.Math.Seq.{sets-eq}
use borrow.Rule.Slice.PartMut.{post_of, Post-is}
use lib.Seq.{sets}
use Rattle.io.specs.Digits.{hex_digit_ascii, last_digits, IsDigitCount}
use Rattle.refusal.specs.Output.{onto}
use Rattle.refusal.proofs.Outputs.{sets_front, sets_append}
use Rattle.ppm.specs.Text.{ascii, digit, decimal_in, decimal, two_numbers}

-- ---- one text behind another

-- bs put into t from i on, up to j, makes u
abbrev Put : (t : List ℕ) (i : ℕ) (bs u : List ℕ) (j : ℕ) → Type 0
Put t i bs u j = (u ≡ sets t i bs) × (j ≡ i + length bs)

then : (t : List ℕ) (i : ℕ) (ls bs : List ℕ) {u v : List ℕ} {j k : ℕ} → Put t i ls u j → Put u j bs v k → Put t i (ls ++ bs) v k
then t i ls bs p q = (
  q.0 ∙ rw (p.0, p.1) (sets_append t i ls bs),
  omega (arith, p.1, q.1, length-append ls bs),
)

-- what is copied into the part of t from i on is put there
pub stored : (i : ℕ) (bs t ys : List ℕ) → i + length bs ≤ length t → ys ≡ bs → take i t ++ (ys ++ post_of i (i + length bs - i) t) ≡ sets t i bs
stored i bs t ys fits e = rw (e, Post-is i (i + length bs) t (omega arith), sets-eq bs t i fits, append_assoc)

-- ---- decimal digits

glyph_digit : (d : ℕ) → d < 10 → hex_digit_ascii d ≡ digit d
glyph_digit d h = rw (lt-ltb d 10 h)

-- the fewest digits that hold n, where k of them do
digits_decimal : (k j n : ℕ) → k ≤ j → IsDigitCount 10 1 n k → last_digits 10 k n ≡ decimal_in j n
digits_decimal zero j n h f = absurd (omega (arith, f.0))
digits_decimal (suc k) zero n h f = absurd (omega arith)
digits_decimal (suc zero) (suc j) n h f =
    let small : n < 10 = omega (arith, f.1) in
    let e : n % 10 ≡ n = omega arith in
    rw (lt-ltb n 10 small, e, glyph_digit n small)
digits_decimal (suc (suc k)) (suc j) n h f =
    let e₁ : suc (suc k) - 1 ≡ suc k = omega arith in
    let e₀ : suc k - 1 ≡ k = omega arith in
    let low : 10 ^ suc k ≤ n = rw e₁ at (f.2 (omega arith)) in
    let p = pow-suc 10 k in
    let q = pow-suc 10 (suc k) in
    let big : 10 ≤ n = omega (arith, one-le-pow k 10 (omega arith), low, p) in
    let rest : IsDigitCount 10 1 (n / 10) (suc k) = (omega arith, omega (arith, f.1, q), λ more. rw e₀ (omega (arith, low, p))) in
    rw (le-ltb n 10 big, glyph_digit (n % 10) (omega arith), digits_decimal (suc k) j (n / 10) (omega arith) rest)

-- a 64-bit number has at most twenty
few_digits : (n k : ℕ) → n < 2 ^ 64 → IsDigitCount 10 1 n k → k ≤ 20
few_digits n k h f = go (leb k 20) refl
  where
    go : (b : Bool) → leb k 20 ≡ b → k ≤ 20
    go true e = leb-true k 20 e
    go false e =
        let long = leb-false k 20 e in
        let low = f.2 (omega (arith, long)) in
        let more : 10 ^ 20 ≤ 10 ^ (k - 1) = pow-le-pow_right {n = 10} (omega arith) {i = 20} {j = k - 1} (omega (arith, long)) in
        absurd (omega (arith, h, low, more))

-- what `io::decimal` makes of a 64-bit number
pub in_decimal : (n k : ℕ) → n < 2 ^ 64 → IsDigitCount 10 1 n k → last_digits 10 k n ≡ decimal n
unfolding decimal
in_decimal n k h f = digits_decimal k 20 n (few_digits n k h f) f

length_decimal_in : (k n : ℕ) → length (decimal_in k n) ≤ k
length_decimal_in zero n = omega arith
length_decimal_in (suc k) n = go (length_decimal_in k (n / 10)) (ltb n 10) refl
  where
    go : length (decimal_in k (n / 10)) ≤ k → (b : Bool) → ltb n 10 ≡ b → length (decimal_in (suc k) n) ≤ suc k
    go short true e = rw e (omega arith)
    go short false e = rw (e, length-append) (omega (arith, short))

pub length_decimal : (n : ℕ) → length (decimal n) ≤ 20
unfolding decimal
length_decimal n = length_decimal_in 20 n

-- ---- two numbers between two texts

module _ (before : List ℕ) (m n : ℕ) (behind t : List ℕ) {t₁ t₂ t₃ t₄ u : List ℕ} {i₁ i₂ i₃ i₄ k : ℕ} where
  pub numbers_put : length t ≡ 50 → length before + length behind ≤ 9 → Put t 0 before t₁ i₁ → Put t₁ i₁ (decimal m) t₂ i₂
      → Put t₂ i₂ (ascii " ") t₃ i₃ → Put t₃ i₃ (decimal n) t₄ i₄ → Put t₄ i₄ behind u k
      → (k ≡ length (two_numbers before m n behind)) × (u ≡ onto (two_numbers before m n behind) t)
  unfolding two_numbers
  numbers_put room h p₁ p₂ p₃ p₄ p₅ =
      let q₂ = then t 0 before (decimal m) p₁ p₂ in
      let q₃ = then t 0 (before ++ decimal m) (ascii " ") q₂ p₃ in
      let q₄ = then t 0 (before ++ decimal m ++ ascii " ") (decimal n) q₃ p₄ in
      let q : Put t 0 (two_numbers before m n behind) u k = then t 0 (before ++ decimal m ++ ascii " " ++ decimal n) behind q₄ p₅ in
      let small : k ≤ 50 = omega (arith, h, length_decimal m, length_decimal n, p₁.1, p₂.1, p₃.1, p₄.1, p₅.1) in
      (omega (arith, q.1), q.0 ∙ sets_front (two_numbers before m n behind) t (omega (arith, room, small, q.1)))
