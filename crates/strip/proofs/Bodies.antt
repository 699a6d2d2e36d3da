-- Laws of the channel words of a strip. Assumes nothing.
use Prim.Native.Nat.{ℕ, suc, ◌≤◌}
use mathlib.Core.Path.{◌≡◌, refl, ap}
use mathlib.Core.List.{List, [], ◌∷◌, map}
use native.Mathlib.Omega.{arith}
use lib.ListN.{length}
use Rattle.number.specs.Channels.{code_of}
use Rattle.refusal.proofs.Laws.{and_passed}
use Rattle.word.specs.Words.{body_start}
use Rattle.word.specs.Placing.{placed, first_refusal, channels_of}
use Rattle.word.specs.Fields.{low16, decode_word}
use Rattle.word.specs.Pixels.{pixels_of, word_channel, word_pixels}
use Rattle.word.proofs.Decoding.{holds, is_word}
use Rattle.word.proofs.Pixels.{word_channel_law}
use Rattle.strip.specs.Checks.{header_fields, body_part, decoded_body, check_output}
use Rattle.strip.proofs.Limits.{output_limits, length_body}
use Rattle.strip.specs.Reading.{strip_codes, strip_pixels}
use Rattle.refusal.specs.Verdicts.{accepted}

-- ---- all words

-- the codes of accepted words are their lower halves
codes_low : (start k : ℕ) (ws : List ℕ) → first_refusal (placed decode_word start k ws) ≡ accepted
    → map code_of (channels_of (placed decode_word start k ws)) ≡ map low16 ws
codes_low start k [] e = refl
codes_low start k (w ∷ ws) e =
    let q = and_passed _ _ e in
    rw ((is_word k w (holds _ _ q.0)).coded.code, codes_low start (suc k) ws q.1)

pub codes_in : (s : List ℕ) → first_refusal (decoded_body s) ≡ accepted → strip_codes s ≡ map low16 (body_part s)
codes_in s e = codes_low (body_start (header_fields s)) 0 (body_part s) e

-- each channel is that of its word alone
channels_low : (start k : ℕ) (ws : List ℕ) → first_refusal (placed decode_word start k ws) ≡ accepted
    → channels_of (placed decode_word start k ws) ≡ map word_channel ws
channels_low start k [] e = refl
channels_low start k (w ∷ ws) e =
    let q = and_passed _ _ e in
    rw (word_channel_law k w (holds _ _ q.0), channels_low start (suc k) ws q.1)

pub pixels_in : (s : List ℕ) → first_refusal (decoded_body s) ≡ accepted → strip_pixels s ≡ word_pixels (body_part s)
pixels_in s e = ap pixels_of (channels_low (body_start (header_fields s)) 0 (body_part s) e)

-- ---- a strip that is accepted for an output

module _ (s : List ℕ) (room : ℕ) (ok : check_output s room ≡ accepted) where
  pub body_fits : length (body_part s) ≤ room
  body_fits = let q = output_limits s room ok in omega (arith, length_body s q.strip.head, q.fits)

  pub codes_of_body : strip_codes s ≡ map low16 (body_part s)
  codes_of_body = codes_in s (output_limits s room ok).strip.channels
