-- A strip and the header and channels that it is written from determine each other. Assumes nothing.
use Prim.Native.Nat.{ℕ, suc, ◌+◌, ◌*◌, ◌<◌, ◌≤◌}
use mathlib.Core.Path.{◌≡◌, refl, sym, ap, ◌∙◌}
use mathlib.Core.List.{List, [], ◌∷◌, ◌++◌}
use mathlib.Core.Bool.{true}
use native.Mathlib.Nat.{mul-pos}
use native.Mathlib.Omega.{arith}
use borrow.Author.Tests.{eq-eqb, le-leb}
use lib.ListN.{length, get_or, take, drop, length-map, length-append, length-drop}
use lib.Seq.{take_at, drop-append_seam, get_or_at, get_or-append-add, get_or-drop, take-suc, take_all}
use Rattle.number.specs.declared.channel.Channel.{Channel}
use Rattle.number.specs.Channels.{IsChannel, code_of, channel_in, Decoded}
use Rattle.number.proofs.Laws.{Every}
use Rattle.refusal.proofs.Laws.{and_passed, and_met, require_met}
use Rattle.white.specs.Whites.{white_fits, White}
use Rattle.word.specs.declared.header.Header.{Header}
use Rattle.word.specs.Words.{pixels, size_fits, key_fits, size_word, key_word, white_words, head_words, channel_word, body_words, end_word, body_start, end_index, strip_length, strip_of}
use Rattle.word.specs.Placing.{Placed, placed, first_refusal, channels_of}
use Rattle.strip.specs.Checks.{
  word_at,
  header_fields,
  channel_count,
  declared_length,
  body_part,
  decoded_body,
  check_head,
  check_body,
  check_with,
  check_output,
}
use Rattle.word.specs.Fields.{width_in, height_in, low16, white_in, decode_word, check_size_word, check_key_word, check_white_word}
use Rattle.strip.specs.Reading.{strip_channels, strip_pixels}
use Rattle.word.proofs.Walks.{length_placed, length_words}
use Rattle.word.proofs.Pixels.{length_pixels}
use Rattle.word.proofs.Limits.{size_limits, key_limits}
use Rattle.strip.proofs.Limits.{Whole, length_body}
use Rattle.word.proofs.Decoding.{holds, is_word, word_read, code_small}
use Rattle.word.proofs.Thirds.{white_read, white_accepted, channel_no_white, channel_accepted}
use Rattle.std.specs.Prelude.{None, Ok, Some}
use Rattle.refusal.specs.Verdicts.{Verdict, accepted}

-- ---- rows of elements that are read as channels, whatever f reads in one

pub channels_valid : (f : ℕ → ℕ → Decoded) → ((k x : ℕ) (c : Channel) → f k x ≡ Ok c → IsChannel c) → (start k : ℕ) (xs : List ℕ)
    → first_refusal (placed f start k xs) ≡ accepted → Every IsChannel (channels_of (placed f start k xs))
channels_valid f valid start k [] e = tt
channels_valid f valid start k (x ∷ xs) e =
    let q = and_passed _ _ e in
    (valid k x _ (holds _ _ q.0), channels_valid f valid start (suc k) xs q.1)

pub record ReadAs (f : ℕ → ℕ → Decoded) (start k : ℕ) (xs : List ℕ) (cs : List Channel) : Type 0 where
  pub accepted : first_refusal (placed f start k xs) ≡ accepted
  pub channels : channels_of (placed f start k xs) ≡ cs

-- a row that holds g k c for each channel c, from which f reads c again
module _
    (f : ℕ → ℕ → Decoded)
    (g : ℕ → Channel → ℕ)
    (row : ℕ → List Channel → List ℕ)
    (none : (k : ℕ) → row k [] ≡ [])
    (one : (k : ℕ) (c : Channel) (cs : List Channel) → row k (c ∷ cs) ≡ g k c ∷ row (suc k) cs)
    (read : (k : ℕ) (c : Channel) → IsChannel c → f k (g k c) ≡ Ok c) where
  pub row_read : (start k : ℕ) (cs : List Channel) → Every IsChannel cs → ReadAs f start k (row k cs) cs
  row_read start k [] t = rw (none k) (record { accepted = refl; channels = refl })
  row_read start k (c ∷ cs) t =
      let e = read k c t.0 in
      let q = row_read start (suc k) cs t.1 in
      rw (one k c cs) (record { accepted = rw e (and_met refl q.accepted); channels = rw (e, q.channels) })

-- ---- the words of channels are read as these channels, and accepted words are the words of their channels

words_read : (start k : ℕ) (cs : List Channel) → Every IsChannel cs → ReadAs decode_word start k (body_words k cs) cs
words_read = row_read decode_word (λ k c. channel_word k (code_of c)) body_words (λ k. refl) (λ k c cs. refl) word_read

words_written : (start k : ℕ) (ws : List ℕ) → first_refusal (placed decode_word start k ws) ≡ accepted
    → body_words k (channels_of (placed decode_word start k ws)) ≡ ws
words_written start k [] e = refl
words_written start k (w ∷ ws) e =
    let q = and_passed _ _ e in
    let w₁ = is_word k w (holds _ _ q.0) in
    rw (w₁.coded.code, ← w₁.written, words_written start (suc k) ws q.1)

word_valid : (k w : ℕ) (c : Channel) → decode_word k w ≡ Ok c → IsChannel c
word_valid k w c e = (is_word k w e).coded.valid

-- ---- a strip that was written

-- a header within its limits, with three channels a pixel
pub record IsPage (h : Header) (cs : List Channel) : Type 0 where
  pub size : size_fits h.width h.height ≡ true
  pub key : key_fits h.key ≡ true
  pub white : white_fits h.white ≡ true
  pub count : length cs ≡ 3 * pixels h
  pub valid : Every IsChannel cs

-- the third word of a strip of some channels, with n in its end word
abbrev third_of : White → List Channel → (n : ℕ) → ℕ
third_of w cs n = get_or (white_words w ++ (body_words 0 cs ++ end_word n ∷ [])) 0 0

record ThirdRead (w : White) (cs : List Channel) (n : ℕ) : Type 0 where
  read : white_in (third_of w cs n) ≡ w
  accepted : check_white_word (third_of w cs n) ≡ accepted

third_read : (w : White) (cs : List Channel) (n : ℕ) → white_fits w ≡ true → 0 < length cs → Every IsChannel cs → ThirdRead w cs n
third_read (Some W) cs n e h t = record { read = white_read W e; accepted = white_accepted W e }
third_read None [] n e h t = absurd (omega (arith, h))
third_read None (c ∷ cs) n e h t =
    let small = code_small c t.0 in
    record { read = channel_no_white 0 (code_of c) small; accepted = channel_accepted 0 (code_of c) small }

module _ (h : Header) (cs : List Channel) (ok : IsPage h cs) where
  width_read : width_in (size_word h.width h.height) ≡ h.width
  width_read = let q = size_limits _ _ ok.size in omega (arith, q.width, q.height)

  height_read : height_in (size_word h.width h.height) ≡ h.height
  height_read = let q = size_limits _ _ ok.size in omega (arith, q.width, q.height)

  key_read : low16 (key_word h.key) ≡ h.key
  key_read = let q = key_limits _ ok.key in omega (arith, q.most)

  third : ThirdRead h.white cs (pixels h)
  third =
      let q = size_limits _ _ ok.size in
      third_read h.white cs (pixels h) ok.white (omega (arith, ok.count, mul-pos q.wide q.high)) ok.valid

  pub header_written : header_fields (strip_of h cs) ≡ h
  header_written = rw (width_read, height_read, key_read, third.read)

  words_long : length (body_words 0 cs) ≡ 3 * pixels h
  words_long = length_words 0 cs ∙ ok.count

  pub length_written : length (strip_of h cs) ≡ strip_length h
  length_written = simp (length-append, words_long) (omega arith)

  body_written : body_part (strip_of h cs) ≡ body_words 0 cs
  body_written =
      ap (λ (g : Header). take (3 * pixels g) (drop (body_start g) (strip_of h cs))) header_written
      ∙ ap (take (3 * pixels h)) (drop-append_seam (head_words h) _)
      ∙ take_at (body_words 0 cs) (end_word (pixels h) ∷ []) (3 * pixels h) words_long

  end_written : word_at (strip_of h cs) (end_index (header_fields (strip_of h cs))) ≡ end_word (pixels (header_fields (strip_of h cs)))
  end_written =
      ap (λ (g : Header). word_at (strip_of h cs) (end_index g)) header_written
      ∙ get_or-append-add (head_words h) (body_words 0 cs ++ end_word (pixels h) ∷ []) (3 * pixels h) 0
      ∙ get_or_at (body_words 0 cs) (end_word (pixels h)) [] 0 (3 * pixels h) words_long
      ∙ sym (ap (λ (g : Header). end_word (pixels g)) header_written)

  head_accepted : check_head (strip_of h cs) ≡ accepted
  unfolding check_head check_size_word check_key_word
  head_accepted =
      let s = strip_of h cs in
      let n = length_written in
      let size : word_at s 0 ≡ size_word (header_fields s).width (header_fields s).height = rw (width_read, height_read) in
      let key : word_at s 1 ≡ key_word (header_fields s).key = rw key_read in
      let long : length s ≡ declared_length s = n ∙ sym (ap strip_length header_written) in
      require_met _ _ (le-leb 2 (length s) (omega arith))
      (and_met (require_met _ _ (eq-eqb _ _ size) (require_met _ _ (rw (width_read, height_read) ok.size) refl))
      (and_met (require_met _ _ (eq-eqb _ _ key) (require_met _ _ (rw key_read ok.key) refl))
      (and_met third.accepted
      (require_met _ _ (eq-eqb _ _ long) refl))))

  read : ReadAs decode_word (body_start (header_fields (strip_of h cs))) 0 (body_words 0 cs) cs
  read = words_read _ 0 cs ok.valid

  body_accepted : check_body (strip_of h cs) ≡ accepted
  unfolding check_body
  body_accepted =
      and_met (rw body_written read.accepted) (require_met _ _ (eq-eqb _ _ end_written) refl)

  -- what was written is accepted, whatever a call adds that is accepted
  pub written_accepted : (added : Verdict) → added ≡ accepted → check_with added (strip_of h cs) ≡ accepted
  unfolding check_with
  written_accepted added e = and_met head_accepted (and_met e body_accepted)

  pub output_accepted : (room : ℕ) → 3 * pixels h ≤ room → check_output (strip_of h cs) room ≡ accepted
  unfolding check_output
  output_accepted room fits =
      let enough : channel_count (strip_of h cs) ≤ room = rw (width_read, height_read) fits in
      written_accepted _ (require_met _ _ (le-leb _ _ enough) refl)

  pub channels_written : strip_channels (strip_of h cs) ≡ cs
  channels_written = rw body_written read.channels

-- ---- a strip that was accepted

-- n elements and one more
split_last : (n : ℕ) (xs : List ℕ) → length xs ≡ n + 1 → take n xs ++ (get_or xs n 0 ∷ []) ≡ xs
split_last n xs e =
    let inside : n < length xs = omega arith in
    let all : length xs ≤ suc n = omega arith in
    sym (take-suc xs n 0 inside) ∙ take_all (suc n) xs all

-- it is the strip of its header and channels
pub same_words : (s : List ℕ) → Whole s → strip_of (header_fields s) (strip_channels s) ≡ s
same_words [] q = absurd (omega (arith, q.head.long))
same_words (a ∷ []) q = absurd (omega (arith, q.head.long))
same_words (a ∷ b ∷ []) q = absurd (omega (arith, q.head.long))
same_words (a ∷ b ∷ c ∷ xs) q =
    let s = a ∷ b ∷ c ∷ xs in
    let n = 3 * (width_in a * height_in a) in
    let k = body_start (header_fields s) in
    let rest = drop k s in
    let last : get_or rest n 0 ≡ end_word (width_in a * height_in a) = get_or-drop k s n 0 ∙ q.end in
    let long : length rest ≡ n + 1 = omega (arith, length-drop k s, q.head.long) in
    rw (
      ← q.head.size,
      ← q.head.key,
      words_written k 0 (take n rest) q.channels,
      ← last,
      split_last n rest long,
      q.head.white.written xs,
    )

pub page_read : (s : List ℕ) → Whole s → IsPage (header_fields s) (strip_channels s)
page_read s q =
    let start = body_start (header_fields s) in
    let count : length (strip_channels s) ≡ channel_count s =
    length-map (decoded_body s) (λ (p : Placed). channel_in p.decoded) ∙ length_placed _ start 0 (body_part s)
    ∙ length_body s q.head in
    record {
      size = q.head.size_fits;
      key = q.head.key_fits;
      white = q.head.white.fits;
      count = count;
      valid = channels_valid decode_word word_valid start 0 (body_part s) q.channels;
    }

pub count_pixels : (s : List ℕ) → Whole s → length (strip_pixels s) ≡ pixels (header_fields s)
count_pixels s q = let n = length_pixels (strip_channels s) in let m = (page_read s q).count in omega arith
