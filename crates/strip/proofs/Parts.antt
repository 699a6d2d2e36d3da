-- A part of a row, cut where the row ends. docs/CHANGES.md names it. Assumes nothing.
use Prim.Native.Nat.{ℕ, ◌+◌, ◌-◌, ◌≤◌, min}
use mathlib.Core.Path.{◌≡◌, sym, ◌∙◌}
use mathlib.Core.List.{List, []}
use native.Mathlib.Decide.{dec_le}
use native.Mathlib.Omega.{arith}
use lib.ListN.{length, take, drop, length-drop, drop_of_length-le}
use lib.Seq.{take_all, take-nil}

-- a part of n elements from the index b on ends where the row ends
pub part_within : (s : List ℕ) (b n : ℕ) → let l = length s in take (min (b + n) l - min b l) (drop (min b l) s) ≡ take n (drop b s)
part_within s b n = by (dec_le b (length s)) (dec_le (b + n) (length s))
  where
    by : Dec (b ≤ length s) → Dec (b + n ≤ length s)
        → let l = length s in take (min (b + n) l - min b l) (drop (min b l) s) ≡ take n (drop b s)
    by (yes h) (yes k) =
        let start : min b (length s) ≡ b = omega arith in
        let count : min (b + n) (length s) - min b (length s) ≡ n = omega arith in
        rw (count, start)
    by (yes h) (no k) =
        let start : min b (length s) ≡ b = omega arith in
        let long = length-drop b s in
        rw start (take_all (min (b + n) (length s) - b) (drop b s) (omega arith) ∙ sym (take_all n (drop b s) (omega arith)))
    by (no h) _ =
        let start : drop (min b (length s)) s ≡ [] = drop_of_length-le s {i = min b (length s)} (omega arith) in
        let rest : drop b s ≡ [] = drop_of_length-le s {i = b} (omega arith) in
        simp (start, rest, take-nil)
