-- What the checks of tallying and mapping say of a strip: the only laws that open them. Assumes nothing.
use Prim.Native.Nat.{ℕ, ◌≤◌, ◌<◌}
use mathlib.Core.Path.{◌≡◌, refl, sym, ap}
use mathlib.Core.List.{List}
use native.Mathlib.Nat.{mul-pos}
use lib.ListN.{length}
use Rattle.refusal.specs.Verdicts.{and_then, accepted}
use Rattle.refusal.proofs.Laws.{and_passed, and_met, and_refused}
use Rattle.word.proofs.Limits.{size_limits}
use Rattle.strip.specs.Checks.{declared_length, channel_count, check_strip, check_output}
use Rattle.strip.specs.Reading.{strip_pixels}
use Rattle.strip.proofs.Limits.{Whole, whole_strip, Fits, output_limits, output_strip, room_enough as output-enough}
use Rattle.body.specs.Luminances.{lit_count}
use Rattle.light.proofs.Laws.{light_lit}
use Rattle.page.specs.Checks.{strip_light, check_tally, check_map}
use Rattle.std.specs.Prelude.{Err}
use Rattle.refusal.specs.declared.Fault.{Fault}

module _ (s : List ℕ) where
  -- the strip's own checks come first, then its light
  pub tally_refused : {f : Fault} → check_strip s ≡ Err f → check_tally s ≡ Err f
  unfolding check_tally and_then
  tally_refused e = rw e

  pub tally_checked : check_strip s ≡ accepted → check_tally s ≡ strip_light s
  unfolding check_tally and_then
  tally_checked e = rw e

  module _ (e : check_tally s ≡ accepted) where
    pub tally_whole : Whole s
    unfolding check_tally
    tally_whole = whole_strip s (and_passed _ _ e).0

    -- an accepted page has a lit pixel
    pub tally_lit : 0 < lit_count (strip_pixels s)
    unfolding check_tally
    tally_lit =
        let size = size_limits _ _ tally_whole.head.size_fits in
        light_lit _ _ (mul-pos size.wide size.high) (and_passed _ _ e).1

  module _ (room : ℕ) where
    pub map_refused : {f : Fault} → check_output s room ≡ Err f → Err f ≡ check_map s room
    unfolding check_map
    map_refused e = and_refused (strip_light s) (sym e) refl

    pub map_checked : check_output s room ≡ accepted → check_map s room ≡ strip_light s
    unfolding check_map and_then
    map_checked e = rw e

    pub map_fits : check_map s room ≡ accepted → Fits s room
    unfolding check_map
    map_fits e = output_limits s room (and_passed _ _ e).0

    -- what mapping accepts, the tally accepts
    pub map_tally : check_map s room ≡ accepted → check_tally s ≡ accepted
    unfolding check_map check_tally
    map_tally e = let q = and_passed _ _ e in and_met (output_strip s room q.0) q.1

    -- where every strip of its length has room, the output adds nothing to the checks
    pub room_enough : (length s ≡ declared_length s → channel_count s ≤ room) → check_map s room ≡ check_tally s
    unfolding check_map check_tally
    room_enough enough = ap (λ v. and_then v (strip_light s)) (output-enough s room enough)
