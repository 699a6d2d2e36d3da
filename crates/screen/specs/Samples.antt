-- The samples that levels are printed as. Assumes nothing.
-- "Netpbm says that P6 samples follow the transfer curve of ITU-R BT.709 .. For v = level/255 the curve is 4.5v below 0.018, else
-- 1.099 · v^0.45 − 0.099; the sample is 255 times that, to the nearest whole number, halves up." The level is n here.
use Rattle.std.specs.Prelude.{Bool, cond, ℕ, ◌+◌, ◌*◌, ◌/◌, ◌^◌, leb, ltb}
use Rattle.table.specs.Tables.{greatest}

-- 255 · 4.5 · n/255, to the nearest, halves up
abbrev pub straight_sample : (n : ℕ) → ℕ
straight_sample n = (9 * n + 1) / 2

-- To the nearest, halves up, is the greatest s with s − 1/2 ≤ 255 · (1.099 · (n/255)^(9/20) − 0.099). With both sides times 2000, where
-- 2000 · 255 · 0.099 = 50,490 and 2000 · 255 · 1.099 = 560,490: 2000s + 49,490 ≤ 560,490 · (n/255)^(9/20).
-- "in whole numbers by twentieth powers", both sides times 255^9: (2000s + 49,490)^20 · 255^9 ≤ n^9 · 560,490^20.
unfoldable pub curve_test : (n s : ℕ) → Bool
curve_test n s = leb ((2000 * s + 49490) ^ 20 * 255 ^ 9) (n ^ 9 * 560490 ^ 20)

-- "4.5v below 0.018, else 1.099 · v^0.45 − 0.099". No level up to 255 has a sample above 255.
unfoldable pub sample_of : (level : ℕ) → ℕ
sample_of n = cond (ltb (1000 * n) (18 * 255)) (straight_sample n) (greatest (curve_test n) 255)
