-- `bands::check::Bands::checked` meets its contract: at each turn the verdict on the bands that are left is that on all. Assumes nothing.
use Rattle.std.proofs.Common.{rules, ◌≡◌, ap, sym, ◌∙◌}
use Rattle.std.proofs.lemmas.Result.{err_from_is_err_and}
use Rattle.std.specs.Prelude.{is_ok}
use Rattle.refusal.specs.Verdicts.{accepted}
use Rattle.bands.specs.Checks.{check_band, check_bands}
use Rattle.bands.proofs.Checking.{checked_empty, checked_each, checking_all, next_stands, checking_next, checking_refused, checking_done}
use Rattle.bands.proofs.check.Bands.checked.Goals as goal

pub returns-then-is_empty : goal.returns-then-is_empty
returns-then-is_empty c = rw c.at.ensures (checked_empty _ (search rules))

pub loop-band-init : goal.loop-band-init
loop-band-init c =
    record {
      some = search rules;
      first = c.header_fields-first.ensures;
      walk = checking_all _ _ (rw c.into_iter-band-iterator.ensures.into_iter_gives c.of-band-items.ensures);
    }

pub returns-in_err-check_band : goal.returns-in_err-check_band
returns-in_err-check_band c =
    let inv = c.loop-band.invariant in
    let next = c.in-Some.ensures.steps in
    let stands = next_stands _ _ inv.walk next in
    let p = err_from_is_err_and c.from_residual.result c.from_residual.ensures.1 in
    rw (p.1, p.2)
    (checked_each _ inv.some
    ∙ rw (← inv.first) (checking_refused _ _ inv.walk next (ap (check_band _ _) stands.same ∙ sym c.check_band.ensures ∙ c.in_err-check_band.was)))

pub loop-band-preserved : goal.loop-band-preserved
loop-band-preserved c =
    let inv = c.loop-band.invariant in
    let next = c.in-Some.ensures.steps in
    let stands = next_stands _ _ inv.walk next in
    record {
      some = inv.some;
      first = inv.first;
      walk =
          rw c.header_fields-above.ensures
          (checking_next _ _ inv.walk next (ap (check_band _ _) stands.same ∙ sym c.check_band.ensures ∙ c.in_ok-check_band.was));
    }

pub invariant_of-result : goal.invariant_of-result
invariant_of-result c =
    let inv = c.loop-band.invariant in
    let all : check_bands c.args.row.now ≡ accepted =
    checked_each _ inv.some ∙ rw (← inv.first) (checking_done _ _ inv.walk c.in-None.ensures.steps.0) in
    record { accepted = ap is_ok all }
