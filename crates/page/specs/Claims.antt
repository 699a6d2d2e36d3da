-- Demand 3, as one claim about a page, and what the tally promises of its extremes. Assumes nothing.
-- "the words of its strip, the A of step 3 that the tally reports for them, and the level bytes of step 6 that mapping leaves in the tray"
use Rattle.std.specs.Prelude.{ℕ, ◌<◌, ◌≡◌, true, List, [], ◌∷◌, ℤ, length, Err, Ok, Option, Result, Some}
use Rattle.number.specs.declared.channel.Pixel.{Pixel}
use Rattle.word.specs.declared.header.Header.{Header}
use Rattle.strip.specs.Checks.{header_fields}
use Rattle.refusal.specs.Output.{onto}
use Rattle.strip.specs.Reading.{strip_pixels}
use Rattle.average.specs.declared.tally.Tally.{Tally}
use Rattle.average.specs.Averages.{stored_average, ◌stored_as◌}
use Rattle.tone.specs.Claims.{LevelBound}
use Rattle.tone.specs.declared.tone.Tone.{Tone}
use Rattle.luminance.specs.Pixels.{any_lit}
use Rattle.body.specs.Luminances.{luminances_of, lit_count}
use Rattle.page.specs.Checks.{check_map}
use Rattle.page.specs.Tallying.{◌averaging◌, tally_steps, strip_tally, tally_strip}
use Rattle.average.specs.Claims.{HasExtremes, MeanBound}
use Rattle.page.specs.Mapping.{tone_of, strip_levels}
use Rattle.average.specs.declared.average.Average.{Average}
use Rattle.average.specs.declared.tally.Extremes.{Extremes}
use Rattle.page.specs.declared.tally.PageTally.{PageTally}
use Rattle.refusal.specs.Verdicts.{Verdict, accepted}
use Rattle.refusal.specs.declared.Fault.{Fault}

-- ---- the two halves

-- "at most half a step below the reported steps and less than one and a half above": 2^((2A − 1)·N) ≤ P^512 < 2^((2A + 3)·N), N the number of
-- lit pixels, P the product of the worths of their luminances as stored
pub record MeanHalf (ps : List Pixel) (A : ℤ) : Type 0 where
  pub count : length (luminances_of ps) ≡ lit_count ps
  pub mean : MeanBound A (luminances_of ps)

-- what holds of the elements of a list with three bytes for each in turn; more bytes may stand behind, and none is missing
abbrev pub EachThree : {X : Type 0} → (Bound : X → (r g b : ℕ) → Type 0) → List X → (bytes : List ℕ) → Type 0
EachThree Bound [] bytes = Unit
EachThree Bound (x ∷ xs) [] = ⊥
EachThree Bound (x ∷ xs) (r ∷ []) = ⊥
EachThree Bound (x ∷ xs) (r ∷ g ∷ []) = ⊥
EachThree Bound (x ∷ xs) (r ∷ g ∷ b ∷ bytes) = Bound x r g b × EachThree Bound xs bytes

-- "The level byte of that channel is less than 5/2 away from it", for each channel of a lit pixel
abbrev pub LitBound : Tone → Pixel → (r g b : ℕ) → Type 0
LitBound t p r g b = any_lit p ≡ true → LevelBound t p p.red r × LevelBound t p p.green g × LevelBound t p p.blue b

-- under a header's key and white point, and the stored average of A
pub record LevelHalf (h : Header) (ps : List Pixel) (A : ℤ) (bytes : List ℕ) : Type 0 where
  pub each : EachThree (LitBound (tone_of h (stored_average A))) ps bytes

-- demand 3 of a page: words, A, level bytes
pub record ToneBounds (s : List ℕ) (A : ℤ) (bytes : List ℕ) : Type 0 where
  pub mean : MeanHalf (strip_pixels s) A
  pub levels : LevelHalf (header_fields s) (strip_pixels s) A bytes

-- ---- what the calls promise

-- "both occur on the page": the extremes are those of the luminances of its lit pixels, of which there are N
pub record ExtremesOn (ps : List Pixel) (e : Option Extremes) : Type 0 where
  pub count : length (luminances_of ps) ≡ lit_count ps
  pub extremes : HasExtremes e (luminances_of ps)

-- a page that is not dark has a lit pixel: "The all-black answer of document 01 no longer occurs there."
abbrev pub HasLight : List Pixel → Type 0
HasLight ps = 0 < lit_count ps

-- N counts the lit pixels; the average is there, and "the first half holds wherever the tally accepts"
pub record TallyHolds (ps : List Pixel) (t : Tally) (average : Option Average) : Type 0 where
  pub lit : HasLight ps
  pub count : t.count ≡ lit_count ps
  pub present : average ≡ Some (tally_steps t stored_as stored_average (tally_steps t))
  pub mean : MeanHalf ps (tally_steps t)
  pub extremes : ExtremesOn ps t.extremes

abbrev pub TallyPromise : (s : List ℕ) → Result PageTally Fault → Type 0
TallyPromise s (Ok p) = TallyHolds (strip_pixels s) p.tally p.average
TallyPromise s (Err f) = Unit

-- "the second wherever mapping does"
abbrev pub MapPromise : (s : List ℕ) → Verdict → (bytes : List ℕ) → Type 0
MapPromise s (Ok u) bytes =
    HasLight (strip_pixels s) × LevelHalf (header_fields s) (strip_pixels s) (tally_steps (strip_tally s)) bytes
MapPromise s (Err f) bytes = Unit

-- ---- both together, of every page that both calls accept; what mapping accepts, the tally accepts

-- the A that the tally reports, and demand 3 of it
pub record BoundsReported (s bytes : List ℕ) : Type 0 where
  pub A : ℤ
  pub reported : tally_strip s ≡ Ok (strip_tally s averaging Some (A stored_as stored_average A))
  pub bounds : ToneBounds s A bytes

-- Proved as `demand_three` in proofs/Bounds.antt.
abbrev pub DemandThree : Type 0
DemandThree = (s output : List ℕ) → check_map s (length output) ≡ accepted → BoundsReported s (onto (strip_levels s) output)
