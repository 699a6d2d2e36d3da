-- What an accepted page keeps to, and the stores that make a strip. Assumes nothing.
use Prim.Native.Nat.{ℕ, suc, ◌+◌, ◌-◌, ◌*◌, ◌<◌, ◌≤◌}
use mathlib.Core.Path.{◌≡◌, sym, ◌∙◌}
use mathlib.Core.List.{List, [], ◌∷◌, ◌++◌, append_assoc}
use mathlib.Core.Bool.{true}
use native.Mathlib.Omega.{arith}
use borrow.Author.Tests.{eqb-true, leb-true}
use borrow.Rule.Slice.PartMut.{put_mid}
use lib.ListN.{length, set, take, length-append}
use lib.Seq.{sets, length-take-le, drop_at, drop-drop, drop-cons, set_at, append_snoc}
use Rattle.number.specs.declared.channel.Channel.{Channel}
use Rattle.refusal.proofs.Laws.{require_passed}
use Rattle.white.specs.Whites.{white_fits}
use Rattle.word.specs.declared.header.Header.{Header}
use Rattle.word.specs.Words.{pixels, size_fits, key_fits, head_words, body_words, end_word, body_start, end_index, strip_length, strip_of}
use Rattle.refusal.specs.Output.{onto}
use Rattle.refusal.proofs.Outputs.{sets_front}
use Rattle.word.proofs.Walks.{length_words}
use Rattle.frame.specs.Frames.{check_frame}
use Rattle.frame.specs.loops.Stores.{with_frame}
use Rattle.refusal.specs.Verdicts.{accepted}

pub record Page (h : Header) (per count room : ℕ) : Type 0 where
  pub size : size_fits h.width h.height ≡ true
  pub key : key_fits h.key ≡ true
  pub white : white_fits h.white ≡ true
  pub long : count ≡ per * pixels h
  pub fits : strip_length h ≤ room

pub page : (h : Header) (per count room : ℕ) → check_frame h per count room ≡ accepted → Page h per count room
unfolding check_frame
page h per count room e =
    let a = require_passed _ _ _ _ e in
    let b = require_passed _ _ _ _ a.1 in
    let w = require_passed _ _ _ _ b.1 in
    let c = require_passed _ _ _ _ w.1 in
    record {
      size = a.0;
      key = b.0;
      white = w.0;
      long = eqb-true _ _ c.0;
      fits = leb-true _ _ (require_passed _ _ _ _ c.1).0;
    }

-- ---- the channel words in the part of the output that is theirs, and the words around them

-- ws is put into t with as many elements before it as hs has; then hs before it and e behind it
around : (hs ws : List ℕ) (e : ℕ) (t : List ℕ) → length hs + length ws < length t
    → set (sets (put_mid (length hs) (length ws) t ws) 0 hs) (length hs + length ws) e ≡ onto (hs ++ (ws ++ e ∷ [])) t
around hs ws e t fits =
    let k = length hs in
    let n = length ws in
    let front : length (take k t) ≡ k = length-take-le k t (omega arith) in
    let room : k ≤ length (put_mid k n t ws) = simp length-append (omega arith) in
    let both : length (hs ++ ws) ≡ k + n = length-append hs ws in
    let next : length (hs ++ (ws ++ e ∷ [])) ≡ suc (k + n) = simp length-append (omega arith) in
    rw (sets_front hs, drop_at, drop-drop, drop-cons t (k + n) 0, ← append_assoc hs ws, set_at, next, ← append_assoc hs ws (e ∷ []), append_snoc)

-- the only law that knows where the channel words begin
pub framed : (h : Header) (cs : List Channel) (t : List ℕ) → length cs ≡ 3 * pixels h → strip_length h ≤ length t
    → with_frame h (put_mid (body_start h) (end_index h - body_start h) t (body_words 0 cs)) ≡ onto (strip_of h cs) t
framed h cs t n fits =
    let ws = body_words 0 cs in
    let long : 3 * pixels h ≡ length ws = sym (length_words 0 cs ∙ n) in
    let part : end_index h - body_start h ≡ length ws = omega arith in
    rw (part, long) (around (head_words h) ws (end_word (pixels h)) t (omega arith))
