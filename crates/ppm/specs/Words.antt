-- The words of a strip's file. Assumes nothing.
use Rattle.std.specs.Prelude.{ℕ, ◌+◌, ◌*◌, ◌/◌, ◌%◌, List, [], ◌∷◌, length, leb, eqb}
use Rattle.refusal.specs.declared.Refusal.TheVariants.{WrongLength, SmallOutput}
use Rattle.refusal.specs.Verdicts.{require, and_then}
use Rattle.refusal.specs.Verdicts.{Verdict, accepted}

-- "In a file, words are little-endian."
abbrev pub word_of_bytes : (a b c d : ℕ) → ℕ
word_of_bytes a b c d = a + 256 * b + 65536 * c + 16777216 * d

-- the words of bytes; one to three bytes that are left over make none
abbrev pub little_endian : List ℕ → List ℕ
little_endian (a ∷ b ∷ c ∷ d ∷ bs) = word_of_bytes a b c d ∷ little_endian bs
little_endian (a ∷ b ∷ c ∷ []) = []
little_endian (a ∷ b ∷ []) = []
little_endian (a ∷ []) = []
little_endian [] = []

-- "If the byte count is no multiple of four, the answer is refusal 3, place 0, before any word is looked at."
unfoldable pub check_count : List ℕ → Verdict
check_count bs = require (eqb (length bs % 4) 0) WrongLength 0 accepted

-- "tray shorter than the outcome"
unfoldable pub check_bytes : List ℕ → (room : ℕ) → Verdict
check_bytes bs room = and_then (check_count bs) (require (leb (length bs / 4) room) SmallOutput 0 accepted)
