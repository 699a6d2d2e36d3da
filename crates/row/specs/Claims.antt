-- What the contract of a row leaves to be asked: claims about its definitions. Assumes nothing.
use Rattle.std.specs.Prelude.{ℕ, ◌+◌, ◌≤◌, ◌<◌, ◌≡◌, List, length}
use Rattle.word.specs.Words.{body_start, end_index}
use Rattle.strip.specs.Checks.{header_fields, check_row}
use Rattle.row.specs.declared.Part.{Part}
use Rattle.row.specs.Rows.{row_part}
use Rattle.refusal.specs.Verdicts.{accepted}

-- a part that lies among a strip's channel words, none of which is missing
pub record InBody (s : List ℕ) (p : Part) : Type 0 where
  pub start : body_start (header_fields s) ≤ p.start
  pub end : p.start + p.count ≤ end_index (header_fields s)
  pub there : end_index (header_fields s) < length s

-- Proved as `rows_in_body` in proofs/Rows.antt.
abbrev pub RowsInBody : Type 0
RowsInBody = (s : List ℕ) (y : ℕ) → check_row s y ≡ accepted → InBody s (row_part s y)
