-- What a row of stored channels can be refused by. Assumes nothing.
use Prim.Native.Nat.{ℕ, suc, ◌+◌}
use mathlib.Core.Path.{◌≡◌, refl, subst}
use mathlib.Core.List.{List, [], ◌∷◌}
use native.Mathlib.Omega.{arith}
use native.Mathlib.Nat.{zero-add}
use lib.ListN.{length}
use Rattle.number.specs.Channels.{channel_of_code, Decoded}
use Rattle.number.proofs.Laws.{code_refused}
use Rattle.refusal.specs.declared.Refusal.TheVariants.{InvalidChannel}
use Rattle.refusal.specs.declared.Fault.{Fault}
use Rattle.refusal.specs.Verdicts.{Verdict, and_then}
use Rattle.word.specs.Placing.{placed, verdict_at, first_refusal}
use Rattle.convert.specs.Formats.{stored_element}
use Rattle.roundtrip.specs.Claims.{EightAt, GivesEight}
use Rattle.std.specs.Prelude.{Err, Ok}

module _ (f : Fault) where
  -- element k in front of a rest that gives 8
  element_gives : (k x count : ℕ) (rest : Verdict) (d : Decoded) → channel_of_code x ≡ d
      → (rest ≡ Err f → EightAt f.refusal f.index (suc k + count)) → and_then (verdict_at k d) rest ≡ Err f
      → EightAt f.refusal f.index (k + suc count)
  unfolding and_then
  element_gives k x count rest (Ok c) q p e = let s = p e in record { outcome = s.outcome; within = omega (arith, s.within) }
  element_gives k x count rest (Err s) q p e =
      let same : s ≡ f.refusal = cc in
      let at : k ≡ f.index = cc in
      let eight : f.refusal ≡ InvalidChannel = subst (λ z. z ≡ InvalidChannel) same (code_refused x s q) in
      record { outcome = rw eight; within = omega (arith, at) }

  -- the rest of a row, from element k on
  rest_gives : (k : ℕ) (xs : List ℕ) → first_refusal (placed stored_element 0 k xs) ≡ Err f → EightAt f.refusal f.index (k + length xs)
  rest_gives k [] e = let clash : ◌≡◌ {A = ℕ} 0 1 = cc in absurd (omega arith)
  rest_gives k (x ∷ xs) e =
      element_gives k x (length xs) _ (channel_of_code x) refl (rest_gives (suc k) xs) (rw (zero-add k) at e)

pub gives_eight : GivesEight
gives_eight xs f e = subst (EightAt f.refusal f.index) (zero-add (length xs)) (rest_gives f 0 xs e)
