-- One step of a run alone: the last answer of a run, and the steps that make no difference. Assumes nothing.
use Prim.Native.Nat.{ℕ, zero, suc, ◌≤◌, min}
use mathlib.Core.Path.{◌≡◌, refl, sym, ap, ◌∙◌}
use mathlib.Core.List.{List, [], ◌∷◌, ◌++◌, map}
use native.Mathlib.Nat.{sub-zero, suc-sub-suc, zero-min, suc-min-suc}
use native.Mathlib.Omega.{arith}
use lib.ListN.{length, get_or, take, replicate, get_or-replicate, length-map}
use denote.Ref.{Bor}
use Rattle.number.specs.declared.channel.Pixel.{Pixel as PixelType}
use Rattle.strip.specs.Checks.{check_strip}
use Rattle.strip.specs.Reading.{strip_pixels}
use Rattle.strip.proofs.Limits.{whole_strip}
use Rattle.strip.proofs.RoundTrip.{count_pixels}
use Rattle.reader.specs.declared.PageReader.{PageReader}
use Rattle.reader.specs.Steps.{Step, pixel_answer, opened_of, step_of, moved_of, number_under, step_number}
use Rattle.reader.specs.loops.Counts.{steps_under, steps_before}
use Rattle.reader.specs.Claims.{answers_of, answers_under}
use Rattle.reader.proofs.Runs.{every_run}
use Rattle.std.specs.Prelude.{Err, None, Ok}
use Rattle.refusal.specs.Verdicts.{Verdict, accepted}

-- a reader after n steps
abbrev pub moved_by : (n : ℕ) → PageReader → PageReader
moved_by zero r = r
moved_by (suc n) r = moved_by n (moved_of r)

-- one step more
pub moved_again : (n : ℕ) (r : PageReader) → moved_of (moved_by n r) ≡ moved_by (suc n) r
moved_again zero r = refl
moved_again (suc n) r = moved_again n (moved_of r)

-- ---- the last answer

last_of : (n : ℕ) (r : PageReader) → get_or (answers_of (suc n) r) n (Ok None) ≡ step_of (moved_by n r)
last_of zero r = refl
last_of (suc n) r = last_of n (moved_of r)

last_told : (n : ℕ) (ps : List PixelType) → get_or (answers_under accepted (suc n) ps) n (Ok None) ≡ get_or (map pixel_answer ps) n (Ok None)
last_told n [] = rw (sub-zero (suc n)) (get_or-replicate (suc n) n (Ok None) (Ok None) (omega arith))
last_told zero (p ∷ ps) = refl
last_told (suc n) (p ∷ ps) =
    ap (λ m. get_or (take (suc n) (map pixel_answer ps) ++ replicate m (Ok None)) n (Ok None)) (suc-sub-suc (suc n) (length ps)) ∙ last_told n ps

last_under : (v : Verdict) (n : ℕ) (ps : List PixelType) → get_or (answers_under v (suc n) ps) n (Ok None) ≡ number_under v n ps
last_under (Ok u) n ps = last_told n ps
last_under (Err f) n ps = get_or-replicate (suc n) n _ (Ok None) (omega arith)

-- the step after n others has the answer of step n
pub number_of : (strip : Bor (List ℕ)) (n : ℕ) → step_of (moved_by n (opened_of strip)) ≡ step_number strip.now n
unfolding step_number
number_of strip n =
    let s = strip.now in
    sym (last_of n (opened_of strip)) ∙ ap (λ l. get_or l n (Ok None)) (every_run strip (suc n)) ∙ last_under (check_strip s) n (strip_pixels s)

-- ---- steps that make no difference

beyond : (n c : ℕ) (xs : List Step) → length xs ≤ c → get_or xs (min n c) (Ok None) ≡ get_or xs n (Ok None)
beyond n c [] h = refl
beyond n zero (x ∷ xs) h = absurd (omega (arith, h))
beyond zero (suc c) (x ∷ xs) h = rw (zero-min (suc c)) refl
beyond (suc n) (suc c) (x ∷ xs) h = rw (suc-min-suc n c) (beyond n c xs (omega (arith, h)))

same_under : (v : Verdict) (s : List ℕ) → check_strip s ≡ v → (n : ℕ)
    → number_under v (steps_under v s n) (strip_pixels s) ≡ number_under v n (strip_pixels s)
same_under (Ok u) s e n =
    let ok = whole_strip s e in
    beyond n _ (map pixel_answer (strip_pixels s)) (omega (arith, ok.head.long, length-map (strip_pixels s) pixel_answer, count_pixels s ok))
same_under (Err f) s e n = refl

pub same_number : (s : List ℕ) (n : ℕ) → step_number s (steps_before s n) ≡ step_number s n
unfolding step_number
same_number s n = same_under (check_strip s) s refl n
