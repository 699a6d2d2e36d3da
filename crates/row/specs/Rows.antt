-- One row of a strip. Assumes nothing.
use Rattle.std.specs.Prelude.{ℕ, ◌+◌, ◌*◌, List, [], ◌∷◌, pos, take, drop, Err, Ok, Result}
use Rattle.refusal.specs.Told.{Told, holding, refusing}
use Rattle.word.specs.Words.{body_start}
use Rattle.strip.specs.Checks.{header_fields, check_row}
use Rattle.row.specs.declared.Part.{Part}
use Rattle.refusal.specs.Verdicts.{Verdict}
use Rattle.refusal.specs.declared.Fault.{Fault}

-- the words of a part: `count` of them from the index `start` on
abbrev pub words_of : Part → List ℕ → List ℕ
words_of p s = take p.count (drop p.start s)

-- where a part lies: in the same block as the whole, four bytes a word further on
abbrev pub pointer_to : Part → (whole : ℕ × ℕ) → ℕ × ℕ
pointer_to p (block, offset) = (block, p.start * 4 + offset)

-- row y of an accepted strip: "red word of its first pixel to blue of its last"
abbrev pub row_part : List ℕ → (y : ℕ) → Part
row_part s y = record { start = body_start (header_fields s) + 3 * ((header_fields s).width * y); count = 3 * (header_fields s).width }

abbrev pub row_under : Verdict → Part → Result Part Fault
row_under (Ok u) p = Ok p
row_under (Err f) p = Err f

-- in numbers: start and count in words, or the refusal
abbrev pub row_told : Result Part Fault → Told
row_told (Ok p) = holding (pos p.start ∷ pos p.count ∷ [])
row_told (Err f) = refusing f.refusal f.index

-- where row y stands; of a refused row its refusal
abbrev pub find_row : List ℕ → (y : ℕ) → Result Part Fault
find_row s y = row_under (check_row s y) (row_part s y)

-- "A refused row is the empty part"
abbrev pub part_of : Result Part Fault → Part
part_of (Ok p) = p
part_of (Err f) = record { start = 0; count = 0 }

-- row y, or the empty part
abbrev pub row_of : List ℕ → (y : ℕ) → Part
row_of s y = part_of (find_row s y)
