-- `bands::check::Bands::check_map` meets its contract. Assumes nothing.
use Rattle.std.proofs.Common.{sym, ◌∙◌, arith}
use Rattle.std.proofs.lemmas.Result.{err_from_is_err_and}
use Rattle.bands.proofs.Checking.{few_joined, light_refused, map_checked}
use Rattle.bands.proofs.check.Bands.check_map.Goals as goal

pub returns-in_err-check_light : goal.returns-in_err-check_light
returns-in_err-check_light c =
    let p = err_from_is_err_and c.from_residual.result c.from_residual.ensures.1 in
    rw (p.1, p.2) (light_refused _ _ (sym c.check_light.ensures ∙ c.in_err-check_light.was))

pub overflow_mul-pixels : goal.overflow_mul-pixels
overflow_mul-pixels c = omega (arith, few_joined _ c.args.self.now.accepted, c.pixels.ensures)

pub returns : goal.returns
returns c =
    (rw c.pixels.ensures at c.require.ensures.verdict) ∙ sym (map_checked _ _ (sym c.check_light.ensures ∙ c.in_ok-check_light.was))
