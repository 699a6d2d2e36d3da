-- The tables T and X, by their rules. Assumes nothing.
use Rattle.std.specs.Prelude.{Bool, ℕ, ◌+◌, ◌*◌, ◌^◌, leb}
use Rattle.table.specs.Tables.{greatest}

-- "T[M] becomes the whole number nearest to 256 · log2(M + 1/2)": the greatest t that lies at most half a step above it, 2t − 1 ≤
-- 512 · log2(M + 1/2), which is 2^(2t − 1 + 512) ≤ (2M+1)^512; for M from 1. No M up to 255 has a t above 2047.
unfoldable pub log_test : (M t : ℕ) → Bool
log_test M t = leb (2 ^ (2 * t + 511)) ((2 * M + 1) ^ 512)

unfoldable pub log_of : ℕ → ℕ
log_of M = greatest (log_test M) 2047

-- "X[f] the greatest m with m^256 ≤ 2^(1792+f)". No f up to 255 has an m above 255.
unfoldable pub root_test : (f m : ℕ) → Bool
root_test f m = leb (m ^ 256) (2 ^ (1792 + f))

unfoldable pub root_of : ℕ → ℕ
root_of f = greatest (root_test f) 255
