-- The third word of a strip, which may be a white word. Assumes nothing.
use Rattle.std.proofs.Common.{ℕ, ◌^◌, ◌<◌, ◌≡◌, refl, sym, ap, Bool, true, false, cond, List, ◌∷◌, ◌++◌, arith, eqb, length, drop, eqb-true, eq-eqb, ne_eqb}
use Rattle.refusal.specs.declared.Refusal.TheVariants.{UnexpectedWord, BadWhite}
use Rattle.refusal.specs.Verdicts.{require}
use Rattle.refusal.proofs.Laws.{require_passed, require_met}
use Rattle.white.specs.Whites.{tenths_fit, white_fits}
use Rattle.white.proofs.Limits.{white_limits}
use Rattle.word.specs.Words.{white_word, white_words, channel_word}
use Rattle.word.specs.Fields.{kind_in, low16, white_in, check_white_word}
use Rattle.std.specs.Prelude.{None, Some}
use Rattle.refusal.specs.Verdicts.{accepted}
use Rattle.white.specs.Whites.{White}

-- w is the third word of a strip with this white point: one that fits, and the word that it is written as
pub record Third (w : ℕ) (white : White) : Type 0 where
  pub fits : white_fits white ≡ true
  pub written : (ws : List ℕ) → white_words white ++ drop (length (white_words white)) (w ∷ ws) ≡ w ∷ ws

abbrev pub IsThird : (w : ℕ) → Type 0
IsThird w = Third w (white_in w)

pub is_third : (w : ℕ) → check_white_word w ≡ accepted → IsThird w
unfolding check_white_word white_in white_fits
is_third w e = by (eqb (kind_in w) 3) e
  where
    by : (b : Bool)
        → cond b (require (eqb w (white_word (low16 w))) UnexpectedWord 2 (require (tenths_fit (low16 w)) BadWhite 0 accepted)) accepted ≡ accepted
        → Third w (cond b (Some (low16 w)) None)
    by true e =
        let a = require_passed _ _ _ _ e in
        record { fits = (require_passed _ _ _ _ a.1).0; written = λ ws. ap (λ v. v ∷ ws) (sym (eqb-true _ _ a.0)) }
    by false e = record { fits = refl; written = λ ws. refl }

-- ---- as it is written

-- a white word is accepted, and read as the white point that it is written as
pub white_read : (W : ℕ) → white_fits (Some W) ≡ true → white_in (white_word W) ≡ Some W
unfolding white_in
white_read W e =
    let small = (white_limits W e).most in
    let kind : kind_in (white_word W) ≡ 3 = omega arith in
    let low : low16 (white_word W) ≡ W = omega arith in
    simp (eq-eqb _ _ kind, low)

pub white_accepted : (W : ℕ) → white_fits (Some W) ≡ true → check_white_word (white_word W) ≡ accepted
unfolding check_white_word white_fits
white_accepted W e =
    let small = (white_limits W e).most in
    let kind : kind_in (white_word W) ≡ 3 = omega arith in
    let low : low16 (white_word W) ≡ W = omega arith in
    simp (eq-eqb _ _ kind, low) (require_met _ _ (eq-eqb (white_word W) _ refl) (require_met _ _ e refl))

-- a channel word is none
module _ (k n : ℕ) (h : n < 2 ^ 16) where
  other : kind_in (channel_word k n) ≡ 3 → ⊥
  other e = omega arith

  pub channel_no_white : white_in (channel_word k n) ≡ None
  unfolding white_in
  channel_no_white = simp (ne_eqb _ _ other)

  pub channel_accepted : check_white_word (channel_word k n) ≡ accepted
  unfolding check_white_word
  channel_accepted = simp (ne_eqb _ _ other)
