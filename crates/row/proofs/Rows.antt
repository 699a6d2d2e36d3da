-- A row lies among the channel words of its strip. Assumes nothing.
use Prim.Native.Nat.{ℕ, zero, suc, ◌+◌, ◌*◌, ◌<◌}
use mathlib.Core.Path.{◌≡◌, refl, sym, ap, ◌∙◌}
use mathlib.Core.List.{List}
use native.Mathlib.Omega.{arith}
use lib.ListN.{length}
use Rattle.word.specs.Words.{body_start}
use Rattle.strip.specs.Checks.{header_fields, check_row}
use Rattle.strip.proofs.Limits.{row_limits}
use Rattle.row.specs.declared.Part.{Part}
use Rattle.row.specs.Rows.{row_part, row_under, find_row, part_of}
use Rattle.row.specs.Claims.{RowsInBody}
use Rattle.std.specs.Prelude.{Err, Ok}
use Rattle.refusal.specs.Verdicts.{Verdict, accepted}

pub rows_in_body : RowsInBody
rows_in_body s y e =
    let q = row_limits s y e in
    record { start = omega arith; end = omega (arith, q.inside); there = omega (arith, q.strip.head.long) }

-- a row that is there ends before the strip's last word
pub row_short : (s : List ℕ) (y : ℕ) → check_row s y ≡ accepted
    → body_start (header_fields s) + 3 * ((header_fields s).width * y) + 3 * (header_fields s).width < length s
row_short s y e = let q = rows_in_body s y e in omega (arith, q.end, q.there)

-- a row that is found lies before the strip's last word
pub found_inside : (s : List ℕ) (y : ℕ) (p : Part) → find_row s y ≡ Ok p → p.start + p.count < length s
found_inside s y p e = go (check_row s y) refl
  where
    go : (v : Verdict) → check_row s y ≡ v → p.start + p.count < length s
    go (Ok u) c =
        let q = rows_in_body s y c in
        let same : row_part s y ≡ p = ap part_of (sym (ap (λ v. row_under v (row_part s y)) c) ∙ e) in
        rw (← same) (omega (arith, q.end, q.there))
    go (Err f) c =
        let none : Err f ≡ Ok p = sym (ap (λ v. row_under v (row_part s y)) c) ∙ e in
        let clash : suc zero ≡ zero = cc in
        absurd (omega (arith, clash))
