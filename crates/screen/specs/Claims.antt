-- What the samples are like. Assumes nothing. Proved as `samples_nearest`, `ends_kept`, `samples_never_fall` and `samples_apart`
-- (proofs/Samples.antt).
use Rattle.std.specs.Prelude.{◌≡◌, ℕ, ◌+◌, ◌*◌, ◌^◌, ◌≤◌, ◌<◌}
use Rattle.screen.specs.Samples.{sample_of}

-- "to the nearest whole number, halves up": 255 times the curve lies from s − 1/2 on and below s + 1/2, by twentieth powers
pub record SampleIsNearest (n : ℕ) : Type 0 where
  pub low : (2000 * sample_of n + 49490) ^ 20 * 255 ^ 9 ≤ n ^ 9 * 560490 ^ 20
  pub high : n ^ 9 * 560490 ^ 20 < (2000 * sample_of n + 51490) ^ 20 * 255 ^ 9

-- of every level that is not below 0.018 · 255 = 4.59
abbrev pub SamplesAreNearest : Type 0
SamplesAreNearest = (n : ℕ) → 5 ≤ n → n ≤ 255 → SampleIsNearest n

-- black stays black, and white stays white
pub record EndsAreKept : Type 0 where
  pub black : sample_of 0 ≡ 0
  pub white : sample_of 255 ≡ 255

-- a brighter level is never printed darker
abbrev pub SamplesNeverFall : Type 0
SamplesNeverFall = (n m : ℕ) → n ≤ m → m ≤ 255 → sample_of n ≤ sample_of m

-- and one that is brighter by two or more is printed brighter
abbrev pub SamplesStayApart : Type 0
SamplesStayApart = (n m : ℕ) → n + 2 ≤ m → m ≤ 255 → sample_of n < sample_of m
