-- Halves as the loops over blocks of them take them. Assumes nothing.
use Rattle.std.specs.Prelude.{ℕ, ◌+◌, ◌*◌, ◌/◌, ◌%◌, ◌≤◌, cond, ◌==◌, nat_lt}
use Rattle.number.specs.Channels.{channel_in, code_of}
use Rattle.number.specs.Sources.{channel_of_value, half_value}

-- the 16-bit form of the channel that a half becomes; 0 where it is refused
abbrev pub half_code : (b : ℕ) → ℕ
half_code b = code_of (channel_in (channel_of_value (half_value b)))

-- 0, or any half from 1024 on: no positive subnormal number
abbrev pub NotSubnormal : (b : ℕ) → Type 0
NotSubnormal b = 1023 ≤ (b + 65535) % 65536

-- The same form worked out from the bits alone, right for each half that is no positive subnormal number: a normal half has its own
-- exponent and first digits; a power of two has the exponent below, and the mantissa 255.
unfoldable pub plain_half_code : (b : ℕ) → ℕ
plain_half_code b =
    cond (b == 0) 0
    (cond (nat_lt b 31744) (b / 8 + b / 8 / 128 % 32 * 128 + 29183 + cond (b % 1024 == 0) 0 129) 0)
