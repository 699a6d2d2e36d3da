-- What steps 2 and 3 say of their numbers, what a tally's extremes are, and the first half of demand 3: the average against the true
-- logarithm of the mean. Assumes nothing. Proved as `logs_nearest`, `no_tie` and `roots_greatest` (proofs/Rules.antt), `floor_divides`
-- (proofs/Division.antt), `averages_in_range` (proofs/Averages.antt), `extremes_hold` and `extremes_one` (proofs/Widening.antt),
-- `tallies_join` (proofs/Sums.antt) and `mean_bound` (proofs/Mean.antt).
use Rattle.std.specs.Prelude.{◌≡◌, List, [], ◌∷◌, ◌++◌, ℕ, ◌+◌, ◌*◌, ◌^◌, ◌≤◌, ◌<◌, ℤ, pos, neg_ℤ, ◌+ℤ◌, ◌-ℤ◌, ◌*ℤ◌, length, ◌≤ℤ◌, None, Option, Some}
use Rattle.number.proofs.Laws.{Every, Occurs, Frac, ◌over◌, ◌·◌, power, two_to_the, AtMost, Below, stored_worth}
use Rattle.number.specs.declared.ratio.Stored.{Stored}
use Rattle.luminance.specs.Pixels.{IsLuminance}
use Rattle.average.specs.Tallies.{sum_of, tally_of, join}
use Rattle.average.specs.Tables.{log_of, root_of}
use Rattle.average.specs.Averages.{floor_div, floor_mod, ◌stored_as◌, average_of, IsStoredAverage}
use Rattle.average.specs.declared.tally.Extremes.{Extremes}

-- ---- steps 2 and 3

-- "the whole number nearest to 256 · log2(M + 1/2)": less than half a step away, 2T − 1 < 512 · log2(M + 1/2) < 2T + 1
pub record LogIsNearest (M : ℕ) : Type 0 where
  pub low : 2 ^ (2 * log_of M + 511) < (2 * M + 1) ^ 512
  pub high : (2 * M + 1) ^ 512 < 2 ^ (2 * log_of M + 513)

-- of every mantissa
abbrev pub LogsAreNearest : Type 0
LogsAreNearest = (M : ℕ) → 128 ≤ M → M ≤ 255 → LogIsNearest M

-- "no entry is a tie": the logarithm lies half-way between t − 1 and t where both sides of the rule are equal, and they never are
abbrev pub NoTie : Type 0
NoTie = (M t : ℕ) → 2 ^ (2 * t + 511) ≡ (2 * M + 1) ^ 512 → ⊥

-- "the greatest m with m^256 ≤ 2^(1792+f)"
pub record RootIsGreatest (f : ℕ) : Type 0 where
  pub passes : root_of f ^ 256 ≤ 2 ^ (1792 + f)
  pub greatest : (m : ℕ) → m ^ 256 ≤ 2 ^ (1792 + f) → m ≤ root_of f

-- "f 0 to 255"
abbrev pub RootsAreGreatest : Type 0
RootsAreGreatest = (f : ℕ) → f ≤ 255 → RootIsGreatest f

-- z is n times its quotient and a rest from 0 to n − 1: "rounded toward minus infinity", "A = 256q + f, f 0 to 255"
pub record Divided (z : ℤ) (n : ℕ) : Type 0 where
  pub whole : z ≡ floor_div z n *ℤ pos n +ℤ pos (floor_mod z n)
  pub rest : floor_mod z n < n

abbrev pub FloorDivides : Type 0
FloorDivides = (z : ℤ) (n : ℕ) → 0 < n → Divided z n

-- where an average lies, in steps and, as the steps that follow ask it, stored: q + 128 and q + 129 are exponents
pub record AverageRange (A : ℤ) (average : Stored) : Type 0 where
  pub least : neg_ℤ (pos 15630) ≤ℤ A
  pub most : A ≤ℤ pos 14335
  pub stored : IsStoredAverage average

-- for every list of luminances, up to many more than a page has, and the average that its tally reports
abbrev pub AveragesInRange : Type 0
AveragesInRange = (ys : List Stored) → Every IsLuminance ys → length ys ≤ 2 ^ 40
    → (A : ℤ) (average : Stored) → average_of (length ys) (sum_of ys) ≡ Some (A stored_as average) → AverageRange A average

-- ---- the extremes of a tally

-- y lies between the two by worth
pub record Between (darkest brightest y : Stored) : Type 0 where
  pub low : AtMost (stored_worth darkest) (stored_worth y)
  pub high : AtMost (stored_worth y) (stored_worth brightest)

-- "the invariant of the record is that both occur on the page", and every luminance lies between them
pub record AreExtremes (darkest brightest : Stored) (ys : List Stored) : Type 0 where
  pub darkest_occurs : Occurs darkest ys
  pub brightest_occurs : Occurs brightest ys
  pub between : Every (Between darkest brightest) ys

-- absent exactly where there is no luminance: what occurs is one
abbrev pub HasExtremes : Option Extremes → List Stored → Type 0
HasExtremes None ys = length ys ≡ 0
HasExtremes (Some e) ys = AreExtremes e.darkest e.brightest ys

-- of the tally of every list
abbrev pub ExtremesHold : Type 0
ExtremesHold = (ys : List Stored) → HasExtremes (tally_of ys).extremes ys

-- and no other two are the extremes of a list of luminances
pub record SameExtremes (d b d' b' : Stored) : Type 0 where
  pub darkest : d ≡ d'
  pub brightest : b ≡ b'

abbrev pub ExtremesAreOne : Type 0
ExtremesAreOne = (ys : List Stored) → Every IsLuminance ys
    → (d b d' b' : Stored) → AreExtremes d b ys → AreExtremes d' b' ys → SameExtremes d b d' b'

-- the tally of two lists one after the other is the join of theirs
abbrev pub TalliesJoin : Type 0
TalliesJoin = (xs ys : List Stored) → tally_of (xs ++ ys) ≡ join (tally_of xs) (tally_of ys)

-- ---- the first half of demand 3

-- "P is the product, over the N lit pixels, of the worths of their luminances as step 1 stores them."
abbrev pub product_of_worths : List Stored → Frac
product_of_worths [] = 1 over 1
product_of_worths (y ∷ ys) = stored_worth y · product_of_worths ys

-- The logarithm of the mean of N luminances is counted in parts of a step, of which s make one. It lies at most `below` parts below
-- s·A and less than `above` parts above: 2^((s·A − below)·N) ≤ P^(256·s) < 2^((s·A + above)·N).
pub record MeanWithin (s below above : ℕ) (A : ℤ) (ys : List Stored) : Type 0 where
  pub low : AtMost (two_to_the ((A *ℤ pos s -ℤ pos below) *ℤ pos (length ys))) (power (product_of_worths ys) (256 * s))
  pub high : Below (power (product_of_worths ys) (256 * s)) (two_to_the ((A *ℤ pos s +ℤ pos above) *ℤ pos (length ys)))

-- "The true logarithm of the mean now lies at most half a step below the reported steps and less than one and a half above": in halves of a
-- step, 2^((2A − 1)·N) ≤ P^512 < 2^((2A + 3)·N)
abbrev pub MeanBound : ℤ → List Stored → Type 0
MeanBound A ys = MeanWithin 2 1 3 A ys

-- for every list of luminances and the A that its tally reports: none, where the list is empty
abbrev pub MeanIsBounded : Type 0
MeanIsBounded = (ys : List Stored) → Every IsLuminance ys
    → (A : ℤ) (average : Stored) → average_of (length ys) (sum_of ys) ≡ Some (A stored_as average) → MeanBound A ys
