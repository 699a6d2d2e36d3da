-- The claims of `specs/Claims.antt`. Assumes nothing.
use Prim.Native.Nat.{ℕ, ◌+◌, ◌*◌, ◌≤◌}
use mathlib.Core.Path.{◌≡◌, refl, ap, subst, ◌∙◌}
use mathlib.Core.List.{List, [], ◌∷◌, map}
use native.Mathlib.Omega.{arith}
use borrow.Author.Tests.{eq-eqb, le-leb}
use lib.ListN.{length, length-map}
use Rattle.number.specs.declared.channel.Channel.{Channel}
use Rattle.number.specs.Channels.{code_of}
use Rattle.number.proofs.Laws.{Every, IsChannel, code_channel_law, channel_code, half_valid, single_valid, rgbe_valid}
use Rattle.refusal.proofs.Laws.{and_passed, and_met, require_met}
use Rattle.word.specs.declared.header.Header.{Header}
use Rattle.word.specs.Words.{pixels, strip_length, strip_of}
use Rattle.word.specs.Placing.{first_refusal, decoded_of, channels_of}
use Rattle.strip.specs.Checks.{header_fields, decoded_body, check_strip}
use Rattle.strip.specs.Reading.{strip_channels}
use Rattle.strip.proofs.Limits.{whole_strip}
use Rattle.word.proofs.Decoding.{holds, all_held}
use Rattle.strip.proofs.RoundTrip.{
  channels_valid,
  ReadAs,
  row_read,
  IsPage,
  header_written,
  length_written,
  written_accepted,
  output_accepted,
  channels_written,
  same_words,
  page_read,
}
use Rattle.convert.specs.Formats.{
  Format,
  rgbe,
  half,
  single,
  stored,
  per_pixel,
  half_element,
  single_element,
  stored_element,
  rgbe_pixels,
  decoded_source,
}
use Rattle.frame.specs.Frames.{check_frame}
use Rattle.frame.proofs.Frames.{Page, page}
use Rattle.convert.specs.Converting.{check_source, converted}
use Rattle.roundtrip.specs.Claims.{Yields, ReadsBack, WritesAgain, ConvertsByCodes}
use Rattle.convert.proofs.Pages.{channel_count_law}
use Rattle.std.specs.Prelude.{Ok}
use Rattle.refusal.specs.Verdicts.{accepted}

-- ---- every channel of an accepted source is one

pixels_valid : (i : ℕ) (xs : List ℕ) → first_refusal (rgbe_pixels i xs) ≡ accepted → Every IsChannel (channels_of (rgbe_pixels i xs))
pixels_valid i [] h = tt
pixels_valid i (r ∷ []) h = tt
pixels_valid i (r ∷ g ∷ []) h = tt
pixels_valid i (r ∷ g ∷ b ∷ []) h = tt
pixels_valid i (r ∷ g ∷ b ∷ e ∷ xs) h =
    let q₁ = and_passed _ _ h in
    let q₂ = and_passed _ _ q₁.1 in
    let q₃ = and_passed _ _ q₂.1 in
    let red = rgbe_valid _ r e (holds _ _ q₁.0) in
    let green = rgbe_valid _ g e (holds _ _ q₂.0) in
    let blue = rgbe_valid _ b e (holds _ _ q₃.0) in
    (red, (green, (blue, pixels_valid (i + 4) xs q₃.1)))

elements_valid : (f : Format) (xs : List ℕ) → first_refusal (decoded_source f xs) ≡ accepted → Every IsChannel (channels_of (decoded_source f xs))
elements_valid rgbe xs e = pixels_valid 0 xs e
elements_valid half xs e = channels_valid half_element (λ k b c. half_valid c b) 0 0 xs e
elements_valid single xs e = channels_valid single_element (λ k b c. single_valid c b) 0 0 xs e
elements_valid stored xs e = channels_valid stored_element (λ k n c h. (channel_code n c h).valid) 0 0 xs e

-- ---- an accepted source is a page

module _ (f : Format) (h : Header) (xs : List ℕ) (room : ℕ) (ok : check_source f h xs room ≡ accepted) where
  parts : (check_frame h (per_pixel f) (length xs) room ≡ accepted) × (first_refusal (decoded_source f xs) ≡ accepted)
  unfolding check_source
  parts = and_passed _ _ ok

  limits : Page h (per_pixel f) (length xs) room
  limits = page h _ _ _ parts.0

  is_page : IsPage h (channels_of (decoded_source f xs))
  is_page =
      record {
        size = limits.size;
        key = limits.key;
        white = limits.white;
        count = channel_count_law f (pixels h) xs limits.long;
        valid = elements_valid f xs parts.1;
      }

-- ---- what a written page yields

page_yields : (h : Header) (cs : List Channel) → IsPage h cs → Yields (strip_of h cs) h (map Ok cs)
unfolding check_strip
page_yields h cs p =
    let ok = written_accepted h cs p accepted refl in
    let same = channels_written h cs p in
    record {
      header = simp ok (ap Ok (header_written h cs p));
      long = length_written h cs p;
      unpacked = output_accepted h cs p;
      accepted = ok;
      channels = ap (map Ok) same;
      count = length-map (strip_channels (strip_of h cs)) code_of ∙ ap length same ∙ p.count;
    }

pub reads_back : ReadsBack
reads_back f h xs room ok =
    subst (Yields (converted f h xs) h) (all_held (decoded_source f xs) (parts f h xs room ok).1)
    (page_yields h (channels_of (decoded_source f xs)) (is_page f h xs room ok))

-- ---- a page's channels as codes

codes_read : (k : ℕ) (cs : List Channel) → Every IsChannel cs → ReadAs stored_element 0 k (map code_of cs) cs
codes_read k cs t =
    row_read stored_element (λ j c. code_of c) (λ j ds. map code_of ds) (λ j. refl) (λ j c ds. refl) (λ j c. code_channel_law c) 0 k cs t

module _ (h : Header) (cs : List Channel) (p : IsPage h cs) where
  pub codes_accepted : (room : ℕ) → strip_length h ≤ room → check_source stored h (map code_of cs) room ≡ accepted
  unfolding check_source check_frame
  codes_accepted room fits =
      let count : length (map code_of cs) ≡ 3 * pixels h = length-map cs code_of ∙ p.count in
      and_met
      (require_met _ _ p.size
      (require_met _ _ p.key (require_met _ _ p.white (require_met _ _ (eq-eqb _ _ count) (require_met _ _ (le-leb _ _ fits) refl)))))
      (codes_read 0 cs p.valid).accepted

  pub codes_converted : converted stored h (map code_of cs) ≡ strip_of h cs
  codes_converted = ap (strip_of h) (codes_read 0 cs p.valid).channels

pub converts_by_codes : ConvertsByCodes
converts_by_codes f h xs room ok =
    let p = is_page f h xs room ok in
    let cs = channels_of (decoded_source f xs) in
    record {
      accepted = codes_accepted h cs p room (limits f h xs room ok).fits;
      words = codes_converted h cs p;
    }

pub writes_again : WritesAgain
writes_again s ok =
    let q = whole_strip s ok in
    let p = page_read s q in
    let same = same_words s q in
    let written = rw (all_held (decoded_body s) q.channels) at (page_yields (header_fields s) (strip_channels s) p) in
    record {
      yields = subst (λ (u : List ℕ). Yields u (header_fields s) (decoded_of (decoded_body s))) same written;
      accepted = λ room fits. codes_accepted (header_fields s) (strip_channels s) p room (omega (arith, q.head.long, fits));
      words = codes_converted (header_fields s) (strip_channels s) p ∙ same;
    }
