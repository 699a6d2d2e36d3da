-- Demand 3, second half: a level lies within 5/2 of the exact value, for every curve that never stretches a ratio. Of storing it uses
-- only that what is stored is near. Assumes nothing.
use Prim.Native.Nat.{ℕ, ◌+◌, ◌*◌, ◌^◌, ◌<◌}
use native.Mathlib.Omega.{arith}
use native.Mathlib.Nat.{add_comm, mul-le-mul_left, mul-pos}
use lib.Pow.{pow_pos}
use Rattle.number.proofs.Laws.{Frac, Positive, Near, worth_of, unit_pos, ◌·◌, ◌÷◌, ◌times◌, stored_worth}
use Rattle.number.specs.declared.channel.Channel.{Channel}
use Rattle.number.specs.declared.channel.Channel.TheVariants.{Black, Lit}
use Rattle.number.specs.declared.channel.Pixel.{Pixel}
use Rattle.number.specs.declared.ratio.Stored.{Stored}
use Rattle.tone.specs.declared.tone.Tone.{Tone}
use Rattle.tone.specs.Claims.{WithinHalves, exact_value, at_most255}
use Rattle.tone.specs.Levels.{key_over_average, to_level, level_of}
use Rattle.luminance.specs.Pixels.{exact_luminance}
use Rattle.tone.proofs.Close.{
  AtMostBy,
  Close,
  at_most_refl,
  at_most_times,
  at_most_trans,
  close_refl,
  near_close,
  near_pos,
}
use Rattle.tone.proofs.Curves.{NeverStretches}
use Rattle.tone.proofs.Rounding.{rounded}

-- divided by both luminances
quotients : (n : ℕ) (d c w g b y : Frac) → AtMostBy n (d · y · c) (g · w · b) → AtMostBy n (255 times d · c ÷ w) (255 times g · b ÷ y)
quotients n d c w g b y h = omega arith

module _ (f : Frac → Frac) (S : NeverStretches f) where
  -- up to n roundings: if v is at most u and x/u at most y/v, then f(x)/u is at most f(y)/v
  drift : (n : ℕ) (x y u v : Frac) → AtMostBy n v u → AtMostBy n (x · v) (y · u) → AtMostBy n (f x · v) (f y · u)
  drift n x y u v h k =
      let r = S.ratio (256 ^ n * (u.num * v.den)) (255 ^ n * (v.num * u.den)) x y h.cross (omega arith) in omega arith

  -- y is the exact luminance and k · y its scaled luminance; w, l and d are stored: luminance, scaled luminance, display luminance. The
  -- drift of the curve's argument cancels against the luminance that divides.
  display : (m : ℕ) (k y w l d : Frac) → 0 < y.den → 0 < l.den
      → Close m y w → Close m (k · w) l → Close 1 (f l) d → Close (1 + m) (d · y) (f (k · y) · w)
  display m k y w l d py pl hy hl hd =
      record {
        above = at_most_trans pos (at_most_times hd.below (at_most_refl y))
            (drift m l (k · y) w y hy.above (omega (arith, mul-le-mul_left (y.num * y.den) hl.below.cross)));
        below = rw (add_comm 1 m) (at_most_trans pos
            (drift m (k · y) l y w hy.below (omega (arith, mul-le-mul_left (y.num * y.den) hl.above.cross)))
            (at_most_times hd.above (at_most_refl y)));
      }
    where
      pos : 0 < (f l · y).den
      pos = mul-pos (S.den_pos l pl) py

  -- c is the channel, x and b the luminance and the channel of the exact value, m roundings from x to w and j from c to b
  level_within : (h m j : ℕ) (k x w l d c b : Frac) → 511 * 256 ^ (1 + m + j) < h * 256 ^ (1 + m + j) + 510 * 255 ^ (1 + m + j)
      → 0 < k.den → Positive x → 0 < c.den → 0 < b.den
      → Close m x w → Positive w → Close m (k · w) l → Near (f l) d → 0 < l.den → Close j c b
      → WithinHalves h (to_level (d · c ÷ w)) (at_most255 (255 times f (k · x) · b ÷ x))
  level_within h m j k x w l d c b room pk px pc pb hx pw hl hd pl hb =
      let s = display m k x w l d px.denominator pl hx hl (near_close hd) in
      rounded h (1 + m + j) (255 times d · c ÷ w) (255 times f (k · x) · b ÷ x) room
      (search (mul-pos, (near_pos hd).1, pw)) (search (mul-pos, S.den_pos))
      (record {
        above = quotients _ d c w (f (k · x)) b x (at_most_times s.above hb.above);
        below = quotients _ (f (k · x)) b x d c w (at_most_times s.below hb.below);
      })

  -- of a pixel with the stored luminance y, scaled luminance l and display luminance d: the luminance is rounded once, the channel not,
  -- and h halves have room for that
  pub pixel_bound : {h : ℕ} (t : Tone) (y l d : Stored) (p : Pixel) (c : Channel)
      → Near (exact_luminance p) (stored_worth y) → Near (key_over_average t · stored_worth y) (stored_worth l)
      → Near (f (stored_worth l)) (stored_worth d) → 511 * 256 ^ 2 < h * 256 ^ 2 + 510 * 255 ^ 2
      → WithinHalves h (level_of d c y) (exact_value f t (exact_luminance p) (worth_of c))
  unfolding level_of
  pixel_bound t y l d p c hy hl hd room =
      level_within _ 1 0 (key_over_average t) (exact_luminance p) (stored_worth y) (stored_worth l) (stored_worth d) (worth_of c) (worth_of c)
      room (mul-pos {m = 1000} (omega arith) (mul-pos (omega arith) (pow_pos t.average.exponent))) (near_pos hy).0
      (channel_pos c) (channel_pos c) (near_close hy) (near_pos hy).1 (near_close hl) hd unit_pos (close_refl (worth_of c))
    where
      channel_pos : (c : Channel) → 0 < (worth_of c).den
      channel_pos Black = unit_pos
      channel_pos (Lit E M) = unit_pos
