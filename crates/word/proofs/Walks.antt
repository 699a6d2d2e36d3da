-- Loops over a row: one that checks each element, one that stores each. Assumes nothing.
use Rattle.std.proofs.Common.{ℕ, suc, ◌+◌, ◌<◌, ◌≤◌, ◌≡◌, refl, sym, ap, ◌∙◌, List, [], ◌∷◌, ◌++◌, append-nil, add-one, arith, length, get_or, set, drop, length-set, drop_of_length-le, drop-cons}
use lib.ListN.{length-map}
use lib.Seq.{sets}
use Rattle.number.specs.declared.channel.Channel.{Channel}
use Rattle.refusal.specs.declared.Fault.{Fault}
use Rattle.refusal.specs.Verdicts.{and_then}
use Rattle.refusal.proofs.Laws.{and_assoc}
use Rattle.refusal.proofs.Outputs.{sets_front}
use Rattle.number.specs.Channels.{code_of, channel_in}
use Rattle.word.specs.Words.{channel_word, body_words}
use Rattle.word.specs.Placing.{Placed, placed, verdict_at, first_refusal, channels_of}
use Rattle.word.specs.loops.Walks.{writing}
use Rattle.std.specs.Prelude.{Err}
use Rattle.number.specs.Channels.{Decoded}
use Rattle.refusal.specs.Verdicts.{Verdict, accepted}

-- ---- A loop that checks: at each turn the verdict on the elements that are left, from number i on, is that on all.

unfoldable pub checking : (f : ℕ → ℕ → Decoded) (start : ℕ) → List ℕ → (i : ℕ) → Verdict
checking f start xs i = first_refusal (placed f start i (drop i xs))

pub checking_all : (f : ℕ → ℕ → Decoded) (start : ℕ) (xs : List ℕ) → checking f start xs 0 ≡ first_refusal (placed f start 0 xs)
unfolding checking
checking_all f start xs = refl

module _ (f : ℕ → ℕ → Decoded) (start : ℕ) (xs : List ℕ) (i : ℕ) {all : Verdict} (inv : checking f start xs i ≡ all) where
  module _ (inside : i < length xs) {d : Decoded} (decoded : d ≡ f i (get_or xs i 0)) where
    step : checking f start xs i ≡ and_then (verdict_at (start + i) d) (checking f start xs (i + 1))
    unfolding checking
    step = rw (add-one i, drop-cons xs i 0 inside, decoded)

    pub checking_next : verdict_at (start + i) d ≡ accepted → checking f start xs (i + 1) ≡ all
    unfolding and_then
    checking_next told = rw told at (sym step ∙ inv)

    pub checking_refused : {x : Fault} → verdict_at (start + i) d ≡ Err x → Err x ≡ all
    unfolding and_then
    checking_refused told = rw told at (sym step ∙ inv)

  pub checking_done : length xs ≤ i → accepted ≡ all
  unfolding checking
  checking_done h = rw (drop_of_length-le xs h) at inv

-- the first refusal of two rows, one behind the other
pub refusal_append : (ps qs : List Placed) → first_refusal (ps ++ qs) ≡ and_then (first_refusal ps) (first_refusal qs)
unfolding and_then
refusal_append [] qs = refl
refusal_append (p ∷ ps) qs = rw (refusal_append ps qs, and_assoc (verdict_at p.index p.decoded) (first_refusal ps) (first_refusal qs))

-- ---- A loop that stores: at each turn the output, once all that are left are stored too, is the one that is meant.

-- the values vs from number i on, stored from the index j on
unfoldable pub storing : (vs : List ℕ) (i j : ℕ) → List ℕ → List ℕ
storing vs i j t = sets t j (drop i vs)

pub storing_all : (vs : List ℕ) (j : ℕ) (t : List ℕ) → storing vs 0 j t ≡ sets t j vs
unfolding storing
storing_all vs j t = refl

module _ (vs : List ℕ) (i j : ℕ) (t : List ℕ) {n : ℕ} {u : List ℕ} (inv : (length t ≡ n) × (storing vs i j t ≡ u)) where
  pub storing_next : {v : ℕ} → i < length vs → get_or vs i 0 ≡ v → (length (set t j v) ≡ n) × (storing vs (i + 1) (j + 1) (set t j v) ≡ u)
  unfolding storing
  storing_next inside e = (rw length-set inv.0, rw (add-one i, add-one j, ← e) (rw (drop-cons vs i 0 inside) at inv.1))

  pub storing_done : length vs ≤ i → t ≡ u
  unfolding storing
  storing_done h = rw (drop_of_length-le vs h) at inv.1

-- ---- lengths

pub length_placed : (f : ℕ → ℕ → Decoded) (start k : ℕ) (xs : List ℕ) → length (placed f start k xs) ≡ length xs
length_placed f start k [] = refl
length_placed f start k (x ∷ xs) = ap suc (length_placed f start (suc k) xs)

pub length_words : (k : ℕ) (cs : List Channel) → length (body_words k cs) ≡ length cs
length_words k [] = refl
length_words k (c ∷ cs) = ap suc (length_words (suc k) cs)

-- the words of a row fill an output that has one word for each channel
pub words_whole : (ps : List Placed) (t : List ℕ) → length t ≡ length ps → sets t 0 (body_words 0 (channels_of ps)) ≡ body_words 0 (channels_of ps)
words_whole ps t long =
    let ws = body_words 0 (channels_of ps) in
    let n : length ws ≡ length t = length_words 0 (channels_of ps) ∙ length-map ps (λ (p : Placed). channel_in p.decoded) ∙ sym long in
    sets_front ws t (omega arith) ∙ rw (drop_of_length-le t {i = length ws} (omega arith), append-nil)

-- ---- the words of the elements from number i on

pub writing_all : (f : ℕ → ℕ → Decoded) (xs t : List ℕ) → length t ≡ length xs → writing f xs 0 t ≡ body_words 0 (channels_of (placed f 0 0 xs))
unfolding writing
writing_all f xs t long = words_whole (placed f 0 0 xs) t (long ∙ sym (length_placed f 0 0 xs))

module _ (f : ℕ → ℕ → Decoded) (xs : List ℕ) (i : ℕ) (t : List ℕ) {n : ℕ} {u : List ℕ}
    (inv : (length t ≡ n) × (writing f xs i t ≡ u)) where
  pub writing_next : {w : ℕ} {d : Decoded} → i < length xs → d ≡ f i (get_or xs i 0) → w ≡ channel_word i (code_of (channel_in d))
      → (length (set t i w) ≡ n) × (writing f xs (i + 1) (set t i w) ≡ u)
  unfolding writing
  writing_next inside decoded e = (rw length-set inv.0, rw (add-one i, e, decoded) (rw (drop-cons xs i 0 inside) at inv.1))

  pub writing_done : length xs ≤ i → t ≡ u
  unfolding writing
  writing_done h = rw (drop_of_length-le xs h) at inv.1
