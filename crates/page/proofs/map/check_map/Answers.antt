-- `page::map::check_map` meets its contract. Assumes nothing.
use Rattle.std.proofs.Common.{sym, ◌∙◌}
use Rattle.std.proofs.lemmas.Result.{err_from_is_err_and}
use Rattle.strip.proofs.Limits.{output_limits}
use Rattle.page.proofs.Checks.{map_refused, map_checked}
use Rattle.page.proofs.Strips.{strip_body, words_light}
use Rattle.page.proofs.map.check_map.Goals as goal

pub returns-in_err-check_output : goal.returns-in_err-check_output
returns-in_err-check_output c =
    let p = err_from_is_err_and c.from_residual.result c.from_residual.ensures.1 in
    rw (p.1, p.2) (map_refused _ _ (sym c.check_output.ensures.verdict ∙ c.in_err-check_output.was))

pub lit_up_to-requires : goal.lit_up_to-requires
lit_up_to-requires c =
    let ok = sym c.check_output.ensures.verdict ∙ c.in_ok-check_output.was in
    rw c.body-words.ensures (strip_body _ (output_limits _ _ ok).strip)

pub returns : goal.returns
returns c =
    let ok = sym c.check_output.ensures.verdict ∙ c.in_ok-check_output.was in
    c.check_light.ensures
    ∙ rw (c.lit_up_to.ensures, c.enough_for.ensures) (words_light _ (output_limits _ _ ok).strip c.body-words.ensures)
    ∙ sym (map_checked _ _ ok)
