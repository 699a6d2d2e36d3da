-- Text as bytes. Assumes nothing.
use Rattle.std.specs.Prelude.{ℕ, zero, suc, ◌+◌, ◌/◌, ◌%◌, cond, List, [], ◌∷◌, ◌++◌, ltb}
use Prim.Native.Char.{code}
use Prim.Native.String.{String, [] as end, ◌∷◌ as ◌then◌}

-- a text of ASCII characters
abbrev pub ascii : String → List ℕ
ascii end = []
ascii (c then s) = code c ∷ ascii s

abbrev pub digit : (d : ℕ) → ℕ
digit d = 48 + d

-- a number in decimal digits, the first not 0 unless it is the only one; where it has more than k digits, its last k
abbrev pub decimal_in : (k n : ℕ) → List ℕ
decimal_in zero n = []
decimal_in (suc k) n = cond (ltb n 10) (digit n ∷ []) (decimal_in k (n / 10) ++ (digit (n % 10) ∷ []))

-- a 64-bit number has at most twenty digits
unfoldable pub decimal : (n : ℕ) → List ℕ
decimal n = decimal_in 20 n

-- two numbers with a space between them, between two texts
unfoldable pub two_numbers : (before : List ℕ) (first second : ℕ) (behind : List ℕ) → List ℕ
two_numbers before m n behind = before ++ decimal m ++ ascii " " ++ decimal n ++ behind
