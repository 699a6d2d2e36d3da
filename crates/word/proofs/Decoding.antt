-- What an accepted channel word is. Assumes nothing.
use Rattle.std.proofs.Common.{ℕ, ◌^◌, ◌<◌, ◌≡◌, refl, List, [], ◌∷◌, map, Bool, true, false, cond, eqb, arith, eqb-true, eq-eqb}
use Rattle.number.specs.declared.channel.Channel.{Channel}
use Rattle.number.specs.declared.channel.Channel.TheVariants.{Black, Lit}
use Rattle.number.specs.Channels.{IsChannel, code_of, channel_of_code, channel_in}
use Rattle.number.proofs.Laws.{Coded, channel_code, code_channel_law}
use Rattle.refusal.specs.declared.Refusal.TheVariants.{UnexpectedWord}
use Rattle.refusal.proofs.Laws.{and_passed}
use Rattle.word.specs.Words.{channel_word}
use Rattle.word.specs.Fields.{low16, decode_word}
use Rattle.word.specs.Placing.{Placed, verdict_at, first_refusal, decoded_of, channels_of}
use Rattle.std.specs.Prelude.{Err, Ok}
use Rattle.number.specs.Channels.{Decoded}
use Rattle.refusal.specs.Verdicts.{accepted}

-- what is accepted holds its channel
pub holds : (i : ℕ) (d : Decoded) → verdict_at i d ≡ accepted → d ≡ Ok (channel_in d)
holds i (Ok c) e = refl
holds i (Err r) e = cc

-- every one of an accepted row does
pub all_held : (ps : List Placed) → first_refusal ps ≡ accepted → map Ok (channels_of ps) ≡ decoded_of ps
all_held [] e = refl
all_held (p ∷ ps) e =
    let q = and_passed _ _ e in
    rw (← holds _ p.decoded q.0, all_held ps q.1)

kind_read : (b : Bool) (d : Decoded) (c : Channel) → cond b d (Err UnexpectedWord) ≡ Ok c → (b ≡ true) × (d ≡ Ok c)
kind_read true d c e = (refl, e)
kind_read false d c e = (cc, cc)

-- a word that is read as channel k is written from its own lower half, which is the channel's code
pub record IsWord (k w : ℕ) (c : Channel) : Type 0 where
  pub written : w ≡ channel_word k (low16 w)
  pub coded : Coded (low16 w) c

pub is_word : (k w : ℕ) {c : Channel} → decode_word k w ≡ Ok c → IsWord k w c
unfolding decode_word
is_word k w e =
    let q = kind_read (eqb w (channel_word k (low16 w))) (channel_of_code (low16 w)) _ e in
    record { written = eqb-true _ _ q.0; coded = channel_code _ _ q.1 }

-- a channel's code has 16 bits
pub code_small : (c : Channel) → IsChannel c → code_of c < 2 ^ 16
code_small Black t = omega arith
code_small (Lit E M) t = omega (arith, t.most, t.mantissa.most)

-- the word that a channel is written as is read as that channel
pub word_read : (k : ℕ) (c : Channel) → IsChannel c → decode_word k (channel_word k (code_of c)) ≡ Ok c
unfolding decode_word
word_read k c t =
    let small = code_small c t in
    let low : low16 (channel_word k (code_of c)) ≡ code_of c = omega arith in
    simp (low, eq-eqb (channel_word k (code_of c)) (channel_word k (code_of c)) refl) (code_channel_law c t)
