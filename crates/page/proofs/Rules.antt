-- What a call promises where a rule decides, for a strip and for bands alike. docs/CHANGES.md names these laws. Assumes nothing.
use Prim.Native.Nat.{ℕ}
use mathlib.Core.Path.{◌≡◌, sym, subst}
use mathlib.Core.List.{List}
use Rattle.std.specs.Prelude.{Result, Err}
use Rattle.refusal.specs.declared.Fault.{Fault}
use Rattle.refusal.specs.Verdicts.{Verdict, accepted, report_of}
use Rattle.refusal.specs.Output.{onto, after}
use Rattle.refusal.proofs.Laws.{also_with}
use Rattle.page.specs.declared.tally.PageTally.{PageTally}
use Rattle.page.specs.Tallying.{tally_told}
use Rattle.page.specs.Claims.{TallyPromise, MapPromise}

-- an answer by a rule
pub bounded : (s : List ℕ) {rule answer : Result PageTally Fault} → TallyPromise s rule → answer ≡ rule
    → (answer ≡ rule) × ((tally_told answer ≡ tally_told rule) × TallyPromise s answer)
bounded s p e = also_with tally_told e (subst (TallyPromise s) (sym e) p)

-- what a call leaves in the output: these levels, of which so much is promised of a strip
module _ (s levels old : List ℕ) (rule : Verdict) where
  abbrev Mapped : Verdict → (new : List ℕ) → Type 0
  Mapped v new = (v ≡ rule) × ((report_of v ≡ report_of rule) × ((new ≡ after v levels old) × MapPromise s v new))

  pub left_alone : {v : Verdict} {x : Fault} → v ≡ rule → v ≡ Err x → Mapped v old
  left_alone e f = also_with report_of e (rw f, rw f tt)

  pub filled : {new : List ℕ} → accepted ≡ rule → new ≡ onto levels old → MapPromise s accepted (onto levels old) → Mapped accepted new
  filled e f p = also_with report_of e (f, rw f p)
