-- Laws of a chain of checks, and of the numbers that answers tell. Assumes nothing.
use Rattle.std.proofs.Common.{ℕ, ◌≡◌, refl, sym, ap, ◌∙◌, Bool, true, false, arith}
use Rattle.refusal.specs.declared.Refusal.{Refusal}
use Rattle.refusal.specs.declared.Refusal.TheVariants.{
  BadSize,
  BadKey,
  WrongLength,
  SmallOutput,
  NotANumber,
  TooBright,
  UnexpectedWord,
  InvalidChannel,
  DarkPage,
  BadWhite,
  NoSuchRow,
  UnlikeBands,
}
use Rattle.std.specs.Prelude.{Ok, Err}
use Rattle.refusal.specs.declared.Fault.{Fault}
use Rattle.refusal.specs.Refusals.{outcome_of}
use Rattle.refusal.specs.Verdicts.{Verdict, accepted, require, and_then}

-- an accepted chain: each check is met

pub require_passed : (b : Bool) (r : Refusal) (i : ℕ) (v : Verdict) → require b r i v ≡ accepted → (b ≡ true) × (v ≡ accepted)
unfolding require
require_passed true r i v e = (refl, e)
require_passed false r i v e = (cc, cc)

pub and_passed : (v w : Verdict) → and_then v w ≡ accepted → (v ≡ accepted) × (w ≡ accepted)
unfolding and_then
and_passed (Ok u) w e = (refl, e)
and_passed (Err f) w e = (cc, cc)

-- and back

pub require_met : {b : Bool} (r : Refusal) (i : ℕ) {v : Verdict} → b ≡ true → v ≡ accepted → require b r i v ≡ accepted
unfolding require
require_met r i e f = rw (e, f)

pub and_met : {v w : Verdict} → v ≡ accepted → w ≡ accepted → and_then v w ≡ accepted
unfolding and_then
and_met e f = rw (e, f)

-- a refused chain, whatever stands behind it
pub and_refused : {u v : Verdict} {f : Fault} (w : Verdict) → u ≡ v → u ≡ Err f → u ≡ and_then v w
unfolding and_then
and_refused w e f = rw (sym e ∙ f) f

-- three chains, one behind another
pub and_assoc : (u v w : Verdict) → and_then (and_then u v) w ≡ and_then u (and_then v w)
unfolding and_then
and_assoc (Ok u) v w = refl
and_assoc (Err f) v w = refl

-- two answers that are the same are told alike
pub also : {A B : Type 0} (f : A → B) {x y : A} → x ≡ y → (x ≡ y) × (f x ≡ f y)
also f e = (e, ap f e)

-- with what else a call promises
pub also_with : {A B Rest : Type 0} (f : A → B) {x y : A} → x ≡ y → Rest → (x ≡ y) × ((f x ≡ f y) × Rest)
also_with f e rest = (e, (ap f e, rest))

-- no refusal has number 0
pub numbered : (r : Refusal) (i : ℕ) → (outcome_of r i).number ≡ 0 → ⊥
numbered BadSize i e = omega (arith, e)
numbered BadKey i e = omega (arith, e)
numbered WrongLength i e = omega (arith, e)
numbered SmallOutput i e = omega (arith, e)
numbered NotANumber i e = omega (arith, e)
numbered TooBright i e = omega (arith, e)
numbered UnexpectedWord i e = omega (arith, e)
numbered InvalidChannel i e = omega (arith, e)
numbered DarkPage i e = omega (arith, e)
numbered BadWhite i e = omega (arith, e)
numbered NoSuchRow i e = omega (arith, e)
numbered UnlikeBands i e = omega (arith, e)
