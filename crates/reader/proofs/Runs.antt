-- Any run of a page reader answers as the list of the pixels, then 'page over', and stays there. Assumes nothing.
use Prim.Native.Nat.{ℕ, zero, suc, ◌+◌, ◌*◌, ◌/◌, ◌<◌}
use mathlib.Core.Path.{◌≡◌, refl, sym, ap, ◌∙◌}
use mathlib.Core.List.{List, ◌∷◌, ◌++◌, map}
use native.Mathlib.Nat.{zero-sub, sub-zero, suc-sub-suc}
use native.Mathlib.Omega.{arith}
use borrow.Author.Tests.{lt-ltb, le-ltb}
use lib.ListN.{length, get_or, take, drop, replicate, drop_of_length-le}
use lib.Seq.{take-nil, get_or-take, get_or-drop}
use lib.Dec.{ltb}
use denote.Ref.{Bor}
use Rattle.number.specs.declared.channel.Pixel.{Pixel as PixelType}
use Rattle.word.specs.declared.header.Header.{Header}
use Rattle.word.specs.Words.{pixels, body_start}
use Rattle.word.specs.Pixels.{word_pixels}
use Rattle.word.proofs.Limits.{behind_head}
use Rattle.word.proofs.Pixels.{length_word_pixels, drop_pixel}
use Rattle.word.specs.loops.Walks.{pixel_at}
use Rattle.strip.specs.Checks.{header_fields, body_part, check_strip}
use Rattle.strip.specs.Reading.{strip_pixels}
use Rattle.strip.proofs.Limits.{Whole, whole_strip}
use Rattle.strip.proofs.Bodies.{pixels_in}
use Rattle.strip.proofs.RoundTrip.{count_pixels}
use Rattle.reader.specs.declared.PageReader.{PageReader}
use Rattle.reader.specs.Steps.{Step, pixel_answer, start_under, pixel_begins, pixel_from, step_under, step_at, position_after}
use Rattle.reader.specs.Claims.{answers_of, answers_under, EveryRun}
use Rattle.reader.proofs.Cases.{step_checked, step_pixel, after_pixel, step_over, after_stays}
use Rattle.std.specs.Prelude.{Err, None, Ok}
use Rattle.refusal.specs.Verdicts.{Verdict, accepted}

begins_at : (h : Header) (k n : ℕ) → let p = body_start h + 3 * k in pixel_begins n p ≡ ltb (p + 3) n
begins_at h k n = rw (lt-ltb 0 (body_start h + 3 * k) (omega (arith, behind_head h)))

-- the first pixel is the first answer
first_answer : (n : ℕ) (p : PixelType) (ps : List PixelType) → answers_under accepted (suc n) (p ∷ ps) ≡ pixel_answer p ∷ answers_under accepted n ps
first_answer n p ps = ap (λ m. pixel_answer p ∷ take n (map pixel_answer ps) ++ replicate m (Ok None)) (suc-sub-suc n (length ps))

module _ (strip : Bor (List ℕ)) where
  abbrev s : List ℕ
  s = strip.now

  abbrev count : ℕ
  count = pixels (header_fields s)

  abbrev start : ℕ
  start = body_start (header_fields s)

  abbrev reader : (position : ℕ) → PageReader
  reader p = record { strip = strip; position = p }

  -- ---- a reader that stays where it is

  same_answers : (p : ℕ) {a : Step} → step_at s p ≡ a → position_after s p ≡ p → (n : ℕ) → answers_of n (reader p) ≡ replicate n a
  same_answers p e f zero = refl
  same_answers p e f (suc n) = rw (e, f, same_answers p e f n)

  -- ---- a reader of an accepted strip

  module _ (ok : Whole s) where
    abbrev ws : List ℕ
    ws = body_part s

    thirds : length ws / 3 ≡ count
    thirds = sym (length_word_pixels ws) ∙ ap length (sym (pixels_in s ok.channels)) ∙ count_pixels s ok

    word_in : (i : ℕ) → i < 3 * count → get_or s (start + i) 0 ≡ get_or ws i 0
    word_in i h = sym (get_or-take (3 * count) (drop start s) i 0 h ∙ get_or-drop start s i 0)

    pixel_in : (k : ℕ) → k < count → pixel_from s (start + 3 * k) ≡ pixel_at ws k
    pixel_in k h =
        let e₁ : start + 3 * k + 1 ≡ start + (3 * k + 1) = omega arith in
        let e₂ : start + 3 * k + 2 ≡ start + (3 * k + 2) = omega arith in
        rw (e₁, e₂, word_in (3 * k) (omega arith), word_in (3 * k + 1) (omega arith), word_in (3 * k + 2) (omega arith))

    -- before pixel k, the first of m that are left
    answers_from : (m k n : ℕ) → k + m ≡ count → answers_of n (reader (start + 3 * k)) ≡ answers_under accepted n (drop k (word_pixels ws))
    answers_from zero k n e =
        let over = begins_at (header_fields s) k (length s) ∙ le-ltb (start + 3 * k + 3) (length s) (omega (arith, ok.head.long)) in
        let none = drop_of_length-le (word_pixels ws) {i = k} (rw (length_word_pixels ws, thirds) (omega arith)) in
        same_answers _ (step_over s _ over (λ z. omega (arith, behind_head (header_fields s)))) (after_stays s _ over) n ∙ rw (none, take-nil n, sub-zero n)
    answers_from (suc m) k zero e = rw zero-sub
    answers_from (suc m) k (suc n) e =
        let begins = begins_at (header_fields s) k (length s) ∙ lt-ltb (start + 3 * k + 3) (length s) (omega (arith, ok.head.long)) in
        let further : start + 3 * k + 3 ≡ start + 3 * (k + 1) = omega arith in
        let there : k < length ws / 3 = rw thirds (omega arith) in
        rw (step_pixel s _ begins, pixel_in k (omega arith), drop_pixel ws k there)
        (rw (after_pixel s _ begins, further, answers_from m (k + 1) n (omega arith))
        (sym (first_answer n (pixel_at ws k) (drop (k + 1) (word_pixels ws)))))

  -- ---- a reader of any strip

  answers_under_law : (v : Verdict) → check_strip s ≡ v → (n : ℕ) → answers_of n (reader (start_under v s)) ≡ answers_under v n (strip_pixels s)
  answers_under_law (Ok u) e n =
      let ok = whole_strip s e in
      let first : start ≡ start + 3 * 0 = omega arith in
      ap (λ p. answers_of n (reader p)) first ∙ answers_from ok count 0 n (omega arith) ∙ rw (pixels_in s ok.channels)
  answers_under_law (Err f) e n = same_answers 0 (step_checked s 0 refl ∙ ap step_under e) (after_stays s 0 refl) n

pub every_run : EveryRun
every_run strip n = answers_under_law strip (check_strip strip.now) refl n
