-- What a channel is: "black, stored as (0,0), or lit, stored as exponent E and mantissa M". Assumes nothing.
use Rattle.std.specs.Prelude.{◌≡◌, ℕ, ◌+◌, ◌*◌, ◌/◌, ◌%◌, ◌≤◌, cond, ◌&&◌, [], ◌∷◌, pos, ◌==◌, nat_le}
use Rattle.number.specs.Fractions.{Frac, ◌over◌, by_range}
use Rattle.number.specs.Storing.{least_mantissa, IsMantissa, unit, worth, exponent_of, mantissa_of}
use Rattle.number.specs.declared.channel.Channel.{Channel}
use Rattle.number.specs.declared.channel.Channel.TheVariants.{Black, Lit}
use Rattle.refusal.specs.declared.Refusal.{Refusal}
use Rattle.refusal.specs.declared.Refusal.TheVariants.{TooBright, InvalidChannel}
use Rattle.refusal.specs.Told.{Told, holding, refusing}
use Rattle.std.specs.Prelude.{Err, Ok, Result}

-- what a number stands for: a channel, or its refusal
abbrev pub Decoded : Type 0
Decoded = Result Channel Refusal

-- "F at or below 2^-57 becomes black; F above 2^56 is refused."
abbrev pub black_power : ℕ
black_power = 57

abbrev pub bright_power : ℕ
bright_power = 56

-- the channel of F
unfoldable pub channel_of : Frac → Decoded
channel_of F = by_range black_power bright_power F (Ok Black) (Ok (Lit (exponent_of F) (mantissa_of F))) (Err TooBright)

-- "So lit channels have E 72 to 184."
abbrev pub least_exponent : ℕ
least_exponent = 72

abbrev pub greatest_exponent : ℕ
greatest_exponent = 184

pub record IsLit (E M : ℕ) : Type 0 where
  pub least : least_exponent ≤ E
  pub most : E ≤ greatest_exponent
  pub mantissa : IsMantissa M

-- the channels that there are: "(0,0)" and "E 72..184 with M 128..255"
abbrev pub IsChannel : Channel → Type 0
IsChannel Black = Unit
IsChannel (Lit E M) = IsLit E M

-- the worth of a channel, "black as 0"
abbrev pub worth_of : Channel → Frac
worth_of Black = 0 over unit
worth_of (Lit E M) = worth E M

-- ---- "Stored, a row of 16-bit numbers, one a channel, each 256E + M: the channels themselves, 0 for black"

abbrev pub code_of : Channel → ℕ
code_of Black = 0
code_of (Lit E M) = 256 * E + M

-- what is told of a number that is decoded alone: its channel's code, or its refusal. It stands at no index, and its place is 0.
abbrev pub decoded_told : Decoded → Told
decoded_told (Ok c) = holding (pos (code_of c) ∷ [])
decoded_told (Err r) = refusing r 0

-- refused where it is "neither (0,0) nor E 72..184 with M 128..255"
unfoldable pub channel_of_code : ℕ → Decoded
channel_of_code n =
    cond (n == 0) (Ok Black)
    (cond (nat_le least_exponent (n / 256) && nat_le (n / 256) greatest_exponent && nat_le least_mantissa (n % 256))
    (Ok (Lit (n / 256) (n % 256)))
    (Err InvalidChannel))

-- the channel that a number becomes; black where it is refused
abbrev pub channel_in : Decoded → Channel
channel_in (Ok c) = c
channel_in (Err r) = Black

abbrev pub code_channel : (n : ℕ) → Channel
code_channel n = channel_in (channel_of_code n)

-- a channel and the number that it came from
pub record Coded (n : ℕ) (c : Channel) : Type 0 where
  pub code : code_of c ≡ n
  pub valid : IsChannel c

-- a number that a channel has
abbrev pub IsCode : (n : ℕ) → Type 0
IsCode n = Coded n (code_channel n)
