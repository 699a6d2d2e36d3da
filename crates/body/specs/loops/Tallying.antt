-- What the tally of pixels is made of: sums and extremes by the indices of all of them. What unlit ones add, at index 0, is taken off at the
-- end. Assumes nothing.
use Rattle.std.specs.Prelude.{◌≡◌, ℕ, ◌+◌, ◌-◌, ◌*◌, ◌%◌, ◌^◌, ◌≤◌, min, cond, List, [], ◌∷◌, length, ◌==◌, None, Option, Some}
use Rattle.std.proofs.Math.IntN.{sub_ℕ}
use Rattle.luminance.specs.loops.Codes.{stored_at}
use Rattle.average.specs.declared.tally.Tally.{Tally}
use Rattle.average.specs.loops.Sums.{total, raised_steps}
use Rattle.body.specs.declared.tally.Sums.{Sums}
use Rattle.average.specs.Tallies.{◌up_to◌}
use Rattle.average.specs.declared.tally.Extremes.{Extremes}

-- ---- sums

-- the raised steps at an index: at 0, where no luminance stands, they are those of (66,128)
abbrev pub steps_at : (i : ℕ) → ℕ
steps_at i = raised_steps (stored_at i)

-- 1 at index 0, that of an unlit pixel
abbrev pub unlit_at : (i : ℕ) → ℕ
unlit_at i = cond (i == 0) 1 0

-- of a list of indices: how many stand for unlit pixels, and the sum of the raised steps, those at 0 too
abbrev pub sums_of : (indices : List ℕ) → Sums
sums_of is = record { unlit = total unlit_at is; raised = total steps_at is }

-- sums of at most 2^40 pixels, which fit 64 bits
pub record AreSums (n unlit raised : ℕ) : Type 0 where
  pub few : n ≤ 2 ^ 40
  pub within : unlit ≤ n
  pub least : unlit * steps_at 0 ≤ raised
  pub most : raised ≤ 49151 * n

-- ---- extremes

-- the lowest of 16-bit numbers, 65,535 where there is none
unfoldable pub lowest : List ℕ → ℕ
lowest [] = 65535
lowest (x ∷ xs) = min x (lowest xs)

-- Numbers that are the lower, the darker a luminance is, and the brighter: its index less one, modulo 2^16, and 65,535 less its index. That of
-- an unlit pixel, at index 0, is 65,535 in both.
abbrev pub from_darkest : (i : ℕ) → ℕ
from_darkest i = (i + 65535) % 65536

abbrev pub from_brightest : (i : ℕ) → ℕ
from_brightest i = 65535 - i

-- the extremes by the lowest of these numbers
unfoldable pub extremes_at : (dark bright : ℕ) → (Option Extremes)
extremes_at d b = cond (b == 65535) None (Some ((stored_at (d + 1)) up_to (stored_at (65535 - b))))

-- as many numbers as before, whose lowest is that of the former and of some more
pub record KeptLowest (before more after : List ℕ) : Type 0 where
  pub long : length after ≡ length before
  pub low : lowest after ≡ min (lowest before) (lowest more)

-- ---- a tally

-- of n pixels, by their sums and the lowest numbers
unfoldable pub tally_from : (n unlit raised dark bright : ℕ) → Tally
tally_from n unlit raised d b =
    record { count = n - unlit; sum = sub_ℕ (raised - unlit * steps_at 0) (34816 * (n - unlit)); extremes = extremes_at d b }
