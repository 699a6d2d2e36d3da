-- Stores into an output, one behind another. Assumes nothing.
use Rattle.std.proofs.Common.{ℕ, suc, ◌+◌, ◌≤◌, ◌≡◌, ◌∙◌, List, [], ◌∷◌, ◌++◌, zero-add, arith, length}
use lib.Seq.{sets, sets-eq}
use Rattle.refusal.specs.Output.{onto}

-- from the front on
pub sets_front : (vs t : List ℕ) → length vs ≤ length t → sets t 0 vs ≡ onto vs t
sets_front vs t h = sets-eq vs t 0 (rw zero-add h) ∙ rw (zero-add (length vs))

pub sets_append : (t : List ℕ) (i : ℕ) (ls bs : List ℕ) → sets (sets t i ls) (i + length ls) bs ≡ sets t i (ls ++ bs)
sets_append t i [] bs = let e : i + 0 ≡ i = omega arith in rw e
sets_append t i (l ∷ ls) bs = let e : i + suc (length ls) ≡ suc i + length ls = omega arith in rw e (sets_append _ (suc i) ls bs)
