-- What a lent output holds after a call. Assumes nothing.
use Rattle.std.specs.Prelude.{ℕ, List, ◌++◌, length, drop, Ok, Err}
use Rattle.refusal.specs.Verdicts.{Verdict}

-- an output with new content in its front, the old behind
abbrev pub onto : (front old : List ℕ) → List ℕ
onto front old = front ++ drop (length front) old

-- an accepted call leaves its answer in the front; of a refused one "Memory keeps its content"
abbrev pub after : Verdict → (front old : List ℕ) → List ℕ
after (Ok u) front old = onto front old
after (Err f) front old = old
