-- Words that hold a channel of their kind. Assumes nothing.
use Rattle.std.proofs.Common.{◌≡◌, ℕ, zero, suc, ◌+◌, ◌/◌, ◌%◌, ◌^◌, ◌<◌, ◌≤◌, List, length, sym, refl, ap, ◌∙◌, le_refl, add-one, arith}
use lib.Bits.{bit_or, or_add_and, and_le_l, and_le_r, or_shr, or_mod}
use Rattle.number.specs.declared.channel.Channel.{Channel}
use Rattle.number.specs.declared.channel.Channel.TheVariants.{Black, Lit}
use Rattle.number.specs.Channels.{IsChannel, code_of}
use Rattle.word.specs.Words.{channel_word}
use Rattle.word.specs.Placing.{placed, first_refusal}
use Rattle.word.specs.Fields.{decode_word}
use Rattle.word.specs.Pixels.{word_channel}
use Rattle.word.proofs.Decoding.{word_read}
use Rattle.word.proofs.Pixels.{word_channel_law}
use Rattle.word.proofs.Walks.{checking, checking_all, checking_next, checking_done}
use Rattle.channels.specs.loops.Holding.{NoFault, HoldsKind, AllHold}
use Rattle.std.specs.Prelude.{Ok}
use Rattle.refusal.specs.Verdicts.{accepted}

-- the word of a channel holds it
word_holds : (k w : ℕ) (c : Channel) → IsChannel c → w ≡ channel_word k (code_of c) → decode_word k w ≡ Ok (word_channel w)
word_holds k w c t e =
    let d : decode_word k w ≡ Ok c = rw e (word_read k c t) in
    d ∙ ap Ok (sym (word_channel_law k w d))

-- a word that lies `code` above the black word of its kind, in 32 bits
module _ (black w code : ℕ) (wraps : (code + black) % 2 ^ 32 ≡ w) where
  pub black_holds : code ≡ 0 → HoldsKind black w
  black_holds z = record { held = λ k e. word_holds k w Black tt (omega arith) }

  -- `above` is how far the code lies above the least lit one
  pub lit_holds : (above : ℕ) → above < 28928 → above / 128 % 2 ≡ 0 → (above + 18560) % 2 ^ 32 ≡ code → HoldsKind black w
  lit_holds above small even e = record {
    held = λ k f. word_holds k w (Lit (code / 256) (code % 256))
        (record { least = omega arith; most = omega arith; mantissa = record { least = omega arith; most = omega arith } })
        (omega arith);
  }

-- ---- the bits of two numbers

or_most : (a b : ℕ) → (a ≤ bit_or a b) × (b ≤ bit_or a b)
or_most a b = (omega (arith, or_add_and a b, and_le_r a b), omega (arith, or_add_and a b, and_le_l a b))

pub or_none : (a b : ℕ) → NoFault (bit_or a b) → NoFault a × NoFault b
or_none a b none =
    let whole = or_most a b in
    let digit = or_most (a / 128 % 2) (b / 128 % 2) in
    let e : bit_or a b / 128 % 2 ≡ bit_or (a / 128 % 2) (b / 128 % 2) = ap (λ n. n % 2) (or_shr a b 7) ∙ or_mod (a / 128) (b / 128) 1 in
    (record { small = omega arith; even = omega arith }, record { small = omega arith; even = omega arith })

-- where all hold, none is refused, wherever the words begin
pub held_accepted : (start : ℕ) (ws : List ℕ) → AllHold ws 0 (length ws) → first_refusal (placed decode_word start 0 ws) ≡ accepted
held_accepted start ws h = sym (checking_done decode_word start ws (length ws) (go (length ws) (le_refl _)) (le_refl _))
  where
    go : (n : ℕ) → n ≤ length ws → checking decode_word start ws n ≡ first_refusal (placed decode_word start 0 ws)
    go zero l = checking_all _ _ _
    go (suc n) l =
        rw (← add-one n)
        (checking_next decode_word start ws n (go n (omega arith)) (omega arith) refl (rw (h.held n (omega arith) (omega arith)) refl))
