-- A refusal with the index where it was found. Assumes nothing.
use Rattle.std.specs.Prelude.{ℕ}
use Rattle.refusal.specs.declared.Refusal.{Refusal}
use Rattle.refusal.specs.declared.Fault.{Fault}

infix 40 ◌found_at◌
abbrev pub ◌found_at◌ : Refusal → (i : ℕ) → Fault
r found_at i = record { refusal = r; index = i }
