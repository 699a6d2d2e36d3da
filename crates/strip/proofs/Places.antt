-- A refused strip names a word up to where its end word should stand. Assumes nothing.
use Prim.Native.Nat.{ℕ, suc, ◌+◌, ◌≤◌}
use mathlib.Core.Path.{◌≡◌, subst}
use mathlib.Core.Bool.{Bool, true, false, cond}
use mathlib.Core.List.{List, [], ◌∷◌}
use native.Mathlib.Omega.{arith}
use lib.Dec.{eqb}
use lib.ListN.{length, drop, length-take}
use Rattle.refusal.specs.declared.Refusal.{Refusal}
use Rattle.refusal.specs.Verdicts.{require, and_then, Verdict, accepted}
use Rattle.word.specs.Fields.{kind_in, decode_word, check_size_word, check_key_word, check_white_word}
use Rattle.word.specs.Placing.{placed, verdict_at, first_refusal}
use Rattle.word.specs.Words.{body_start, end_index}
use Rattle.strip.specs.Checks.{word_at, header_fields, channel_count, body_part, check_head, check_body, check_with, check_strip}
use Rattle.std.specs.Prelude.{Err, Ok}
use Rattle.number.specs.Channels.{Decoded}
use Rattle.refusal.specs.declared.Fault.{Fault}

module _ (n : ℕ) where
  -- the place of a refusal is at most n
  abbrev UpTo : Verdict → Type 0
  UpTo (Ok u) = Unit
  UpTo (Err f) = f.index ≤ n

  up_require : (b : Bool) (r : Refusal) (i : ℕ) (v : Verdict) → i ≤ n → UpTo v → UpTo (require b r i v)
  unfolding require
  up_require true r i v h g = g
  up_require false r i v h g = h

  up_and : (v w : Verdict) → UpTo v → UpTo w → UpTo (and_then v w)
  unfolding and_then
  up_and (Ok u) w h g = g
  up_and (Err f) w h g = h

  up_decoded : (i : ℕ) (d : Decoded) → i ≤ n → UpTo (verdict_at i d)
  up_decoded i (Ok c) h = tt
  up_decoded i (Err r) h = h

  up_words : (start k : ℕ) (ws : List ℕ) → start + k + length ws ≤ n → UpTo (first_refusal (placed decode_word start k ws))
  up_words start k [] h = tt
  up_words start k (w ∷ ws) h =
      up_and _ _ (up_decoded (start + k) (decode_word k w) (omega arith)) (up_words start (suc k) ws (omega arith))

  up_size : (w : ℕ) → UpTo (check_size_word w)
  unfolding check_size_word
  up_size w = up_require _ _ _ _ (omega arith) (up_require _ _ _ _ (omega arith) tt)

  up_key : (w : ℕ) → 1 ≤ n → UpTo (check_key_word w)
  unfolding check_key_word
  up_key w h = up_require _ _ _ _ h (up_require _ _ _ _ (omega arith) tt)

  up_white : (w : ℕ) → 2 ≤ n → UpTo (check_white_word w)
  unfolding check_white_word
  up_white w h = by (eqb (kind_in w) 3) _ (up_require _ _ _ _ h (up_require _ _ _ _ (omega arith) tt))
    where
      by : (b : Bool) (v : Verdict) → UpTo v → UpTo (cond b v accepted)
      by true v g = g
      by false v g = tt

places : (s : List ℕ) → UpTo (end_index (header_fields s)) (check_strip s)
unfolding check_strip check_with check_head check_body
places s =
    let n = end_index (header_fields s) in
    let long = length-take (channel_count s) (drop (body_start (header_fields s)) s) in
    up_and n _ _
    (up_require n _ _ _ _ (omega arith)
    (up_and n _ _ (up_size n (word_at s 0))
    (up_and n _ _ (up_key n (word_at s 1) (omega arith))
    (up_and n _ _ (up_white n (word_at s 2) (omega arith)) (up_require n _ _ _ _ (omega arith) tt)))))
    (up_and n _ _ tt
    (up_and n _ _ (up_words n (body_start (header_fields s)) 0 (body_part s) (omega (arith, long))) (up_require n _ _ _ _ (omega arith) tt)))

pub place_within : (s : List ℕ) {f : Fault} → check_strip s ≡ Err f → f.index ≤ end_index (header_fields s)
place_within s e = subst (UpTo (end_index (header_fields s))) e (places s)
