-- What an accepted size and key keep to, and where the channel words begin. Assumes nothing.
use Rattle.std.proofs.Common.{ℕ, ◌*◌, ◌≤◌, ◌≡◌, true, mul-le-mul, mul-le-mul_left, arith, leb-true, le-leb, length}
use Rattle.white.proofs.Limits.{both_true}
use Rattle.word.specs.declared.header.Header.{Header}
use Rattle.word.specs.Words.{size_fits, key_fits, white_words, body_start}
use Rattle.word.specs.Fields.{width_in, height_in}
use Rattle.std.specs.Prelude.{None, Some}
use Rattle.white.specs.Whites.{White}

pub record Sized (w h : ℕ) : Type 0 where
  pub wide : 1 ≤ w
  pub width : w ≤ 8192
  pub high : 1 ≤ h
  pub height : h ≤ 8192
  pub count : w * h ≤ 16777216

pub size_limits : (w h : ℕ) → size_fits w h ≡ true → Sized w h
unfolding size_fits
size_limits w h e =
    let p = both_true _ _ e in
    let q = both_true _ _ p.0 in
    let r = both_true _ _ q.0 in
    let s = both_true _ _ r.0 in
    record {
      wide = leb-true _ _ s.0;
      width = leb-true _ _ s.1;
      high = leb-true _ _ r.1;
      height = leb-true _ _ q.1;
      count = leb-true _ _ p.1;
    }

-- fewer rows of a width within the limits are within them
pub fewer_rows : (w h n : ℕ) → size_fits w h ≡ true → 1 ≤ n → n ≤ h → size_fits w n ≡ true
unfolding size_fits
fewer_rows w h n e least most =
    let q = size_limits w h e in
    let high = q.height in
    let few = q.count in
    let count = mul-le-mul_left w most in
    rw (
      le-leb 1 w q.wide,
      le-leb w 8192 q.width,
      le-leb 1 n least,
      le-leb n 8192 (omega arith),
      le-leb (w * n) 16777216 (omega arith),
    )

pub record Keyed (k : ℕ) : Type 0 where
  pub least : 1 ≤ k
  pub most : k ≤ 1000

pub key_limits : (k : ℕ) → key_fits k ≡ true → Keyed k
unfolding key_fits
key_limits k e =
    let p = both_true _ _ e in
    record { least = leb-true _ _ p.0; most = leb-true _ _ p.1 }

-- both fields of a size word have 14 bits
pub pixels_small : (n w : ℕ) → n ≡ width_in w * height_in w → n ≤ 268402689
pixels_small n w e =
    let h : width_in w ≤ 16383 = omega arith in
    let k : height_in w ≤ 16383 = omega arith in
    omega (arith, mul-le-mul h k)

-- size and key word stand before the channels, and at most one more
pub behind_head : (h : Header) → 2 ≤ body_start h
behind_head h = omega arith

pub head_short : (h : Header) → body_start h ≤ 3
head_short h = omega (arith, by h.white)
  where
    by : (w : White) → length (white_words w) ≤ 1
    by None = omega arith
    by (Some W) = omega arith
