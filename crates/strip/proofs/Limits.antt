-- What an accepted header, strip or row keeps to. Assumes nothing.
use Prim.Native.Nat.{ℕ, ◌+◌, ◌*◌, ◌≤◌}
use mathlib.Core.Path.{◌≡◌, refl}
use mathlib.Core.List.{List}
use mathlib.Core.Bool.{true}
use native.Mathlib.Nat.{mul-le-mul_left, mul-suc}
use native.Mathlib.Omega.{arith}
use borrow.Author.Tests.{eqb-true, leb-true, ltb-true, le-leb}
use lib.ListN.{length, drop, length-drop}
use lib.Seq.{length-take-le}
use Rattle.refusal.specs.Verdicts.{require, and_then, Verdict, accepted}
use Rattle.refusal.proofs.Laws.{require_passed, and_passed, and_met}
use Rattle.word.specs.Words.{body_start, end_index, pixels, size_fits, key_fits, size_word, key_word, end_word}
use Rattle.word.specs.Placing.{first_refusal}
use Rattle.strip.specs.Checks.{
  word_at,
  header_fields,
  channel_count,
  declared_length,
  body_part,
  decoded_body,
  check_head,
  check_body,
  check_with,
  check_strip,
  check_output,
  check_row,
}
use Rattle.word.specs.Fields.{check_size_word, check_key_word}
use Rattle.word.proofs.Thirds.{IsThird, is_third}
use Rattle.std.specs.Prelude.{Err, Ok}

-- ---- a strip's header and length

pub record Head (s : List ℕ) : Type 0 where
  pub size : word_at s 0 ≡ size_word (header_fields s).width (header_fields s).height
  pub size_fits : size_fits (header_fields s).width (header_fields s).height ≡ true
  pub key : word_at s 1 ≡ key_word (header_fields s).key
  pub key_fits : key_fits (header_fields s).key ≡ true
  pub white : IsThird (word_at s 2)
  pub long : length s ≡ declared_length s

pub headed : (s : List ℕ) → check_head s ≡ accepted → Head s
unfolding check_head check_size_word check_key_word
headed s e =
    let a = and_passed _ _ (require_passed _ _ _ _ e).1 in
    let b = and_passed _ _ a.1 in
    let c = and_passed _ _ b.1 in
    let size = require_passed _ _ _ _ a.0 in
    let key = require_passed _ _ _ _ b.0 in
    record {
      size = eqb-true _ _ size.0;
      size_fits = (require_passed _ _ _ _ size.1).0;
      key = eqb-true _ _ key.0;
      key_fits = (require_passed _ _ _ _ key.1).0;
      white = is_third (word_at s 2) c.0;
      long = eqb-true _ _ (require_passed _ _ _ _ c.1).0;
    }

-- no channel word is missing
pub length_body : (s : List ℕ) → Head s → length (body_part s) ≡ channel_count s
length_body s h =
    let n = length-drop (body_start (header_fields s)) s in
    let l = h.long in
    length-take-le (channel_count s) (drop (body_start (header_fields s)) s) (omega arith)

-- ---- its words

pub record Whole (s : List ℕ) : Type 0 where
  pub head : Head s
  pub channels : first_refusal (decoded_body s) ≡ accepted
  pub end : word_at s (end_index (header_fields s)) ≡ end_word (pixels (header_fields s))

-- whatever a call adds
pub whole : (added : Verdict) (s : List ℕ) → check_with added s ≡ accepted → (added ≡ accepted) × Whole s
unfolding check_with check_body
whole added s e =
    let a = and_passed _ _ e in
    let b = and_passed _ _ a.1 in
    let c = and_passed _ _ b.1 in (
      b.0,
      record { head = headed s a.0; channels = c.0; end = eqb-true _ _ (require_passed _ _ _ _ c.1).0 },
    )

pub whole_strip : (s : List ℕ) → check_strip s ≡ accepted → Whole s
unfolding check_strip
whole_strip s e = (whole accepted s e).1

-- whatever a call adds, the strip itself is accepted
strip_accepted : (added : Verdict) (s : List ℕ) → check_with added s ≡ accepted → check_strip s ≡ accepted
unfolding check_strip check_with
strip_accepted added s e =
    let a = and_passed _ _ e in
    and_met a.0 (and_met refl (and_passed _ _ a.1).1)

-- ---- what a call may rely on

pub record Fits (s : List ℕ) (room : ℕ) : Type 0 where
  pub strip : Whole s
  pub fits : channel_count s ≤ room

pub output_limits : (s : List ℕ) (room : ℕ) → check_output s room ≡ accepted → Fits s room
unfolding check_output
output_limits s room e =
    let q = whole _ s e in
    record { strip = q.1; fits = leb-true _ _ (require_passed _ _ _ _ q.0).0 }

pub output_strip : (s : List ℕ) (room : ℕ) → check_output s room ≡ accepted → check_strip s ≡ accepted
unfolding check_output
output_strip s room e = strip_accepted _ s e

-- where every strip of its length has room, the output adds nothing to the checks
pub room_enough : (s : List ℕ) (room : ℕ) → (length s ≡ declared_length s → channel_count s ≤ room) → check_output s room ≡ check_strip s
unfolding check_output check_strip check_with and_then require
room_enough s room enough = go (check_head s) refl
  where
    go : (v : Verdict) → check_head s ≡ v → check_output s room ≡ check_strip s
    go (Ok u) e = rw (e, le-leb _ _ (enough (headed s e).long))
    go (Err f) e = rw e

pub record Inside (s : List ℕ) (y : ℕ) : Type 0 where
  pub strip : Whole s
  pub inside : (header_fields s).width * y + (header_fields s).width ≤ pixels (header_fields s)

pub row_limits : (s : List ℕ) (y : ℕ) → check_row s y ≡ accepted → Inside s y
unfolding check_row
row_limits s y e =
    let q = whole _ s e in
    let below = ltb-true y (header_fields s).height (require_passed _ _ _ _ q.0).0 in
    record { strip = q.1; inside = rw mul-suc at (mul-le-mul_left (header_fields s).width below) }
