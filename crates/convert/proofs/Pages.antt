-- The channels of a source, and the verdict on it in two parts. Assumes nothing.
use Rattle.std.proofs.Common.{◌≡◌, ℕ, ◌-◌, ◌*◌, ◌<◌, List, length, get_or, map, sym, ◌∙◌}
use Rattle.std.proofs.lemmas.List.{get_or-map}
use borrow.Rule.Slice.PartMut.{put_mid}
use lib.ListN.{length-map}
use Rattle.refusal.specs.Verdicts.{and_then, Verdict, accepted}
use Rattle.word.specs.declared.header.Header.{Header}
use Rattle.word.specs.Words.{pixels, body_words, body_start, end_index, strip_of}
use Rattle.number.specs.Channels.{Decoded, channel_in}
use Rattle.word.specs.Placing.{Placed, channels_of}
use Rattle.refusal.specs.Output.{onto}
use Rattle.convert.specs.Formats.{Format, per_pixel, decoded_source}
use Rattle.frame.specs.Frames.{check_frame}
use Rattle.frame.specs.loops.Stores.{with_frame}
use Rattle.frame.proofs.Frames.{Page, page, framed}
use Rattle.convert.specs.loops.Counts.{length_elements}
use Rattle.std.specs.Prelude.{Err}
use Rattle.refusal.specs.declared.Fault.{Fault}

-- ---- three channels a pixel

pub channel_count_law : (f : Format) (n : ℕ) (xs : List ℕ) → length xs ≡ per_pixel f * n
    → length (channels_of (decoded_source f xs)) ≡ 3 * n
channel_count_law f n xs e = length-map (decoded_source f xs) (λ (p : Placed). channel_in p.decoded) ∙ length_elements f n xs e

-- ---- what element k decodes to, by its number

pub decoded_at : {A : Type 0} (number : A → ℕ) (f : ℕ → Decoded) (xs : List A) (k : ℕ) (x : A) {d : Decoded}
    → k < length xs → x ≡ get_or xs k x → d ≡ f (number x) → d ≡ f (get_or (map number xs) k 0)
decoded_at number f xs k x inside is e = rw (get_or-map number xs k x 0 inside, sym is) e

-- ---- one verdict behind another, of which the calls gave p and q

module _ {p v : Verdict} (e : p ≡ v) where
  pub first_decides : (w : Verdict) {f : Fault} → p ≡ Err f → Err f ≡ and_then v w
  unfolding and_then
  first_decides w told = simp (sym e, told)

  pub second_decides : {q w r : Verdict} → p ≡ accepted → q ≡ w → q ≡ r → r ≡ and_then v w
  unfolding and_then
  second_decides ok g told = simp (sym e, ok) (sym told ∙ g)

-- ---- an accepted page, and what is left in the output, where t was in it

module _ (h : Header) (per count : ℕ) (t : List ℕ) {p : Verdict} (e : p ≡ check_frame h per count (length t)) (ok : p ≡ accepted) where
  pub checked : Page h per count (length t)
  checked = page _ _ _ _ (sym e ∙ ok)

  pub all_stored : (ps : List Placed) {start end : ℕ} {ws u : List ℕ} → length ps ≡ 3 * pixels h → start ≡ body_start h → end ≡ end_index h
      → ws ≡ body_words 0 (channels_of ps) → u ≡ with_frame h (put_mid start (end - start) t ws) → u ≡ onto (strip_of h (channels_of ps)) t
  all_stored ps three first last words stores =
      let long = length-map ps (λ (p : Placed). channel_in p.decoded) ∙ three in
      stores ∙ rw (first, last, words) (framed _ (channels_of ps) t long checked.fits)
