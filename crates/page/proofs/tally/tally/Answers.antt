-- `page::tally::tally` meets its contract. Assumes nothing.
use Rattle.std.proofs.Common.{sym, ap, ◌∙◌}
use Rattle.std.proofs.lemmas.Result.{err_from_is_err_and}
use Rattle.strip.proofs.Limits.{whole_strip}
use Rattle.page.specs.Tallying.{tally_told}
use Rattle.page.proofs.Bounds.{tallied, refused, tally_bound}
use Rattle.page.proofs.Strips.{strip_body, words_count, words_tally, strip_tally_law}
use Rattle.page.proofs.tally.tally.Goals as goal

pub tally-requires : goal.tally-requires
tally-requires c =
    let ok = sym c.check.ensures.verdict ∙ c.in_ok-check.was in
    rw c.body-words.ensures (strip_body _ (whole_strip _ ok))

pub tally_in_light-requires : goal.tally_in_light-requires
tally_in_light-requires c =
    let strip = whole_strip _ (sym c.check.ensures.verdict ∙ c.in_ok-check.was) in
    rw (c.tally.ensures ∙ words_tally _ strip c.body-words.ensures) (strip_tally_law _ strip)

pub returns : goal.returns
returns c =
    let ok = sym c.check.ensures.verdict ∙ c.in_ok-check.was in
    let strip = whole_strip _ ok in
    let told = c.tally.ensures ∙ words_tally _ strip c.body-words.ensures in
    let e = c.tally_in_light.ensures ∙ tallied _ ok _ _ told (words_count _ strip c.body-words.ensures) in
    record { answer = e; told = ap tally_told e; bound = rw e (tally_bound c.args.strip.now) }

pub returns-in_err-check : goal.returns-in_err-check
returns-in_err-check c =
    let p = err_from_is_err_and c.from_residual.result c.from_residual.ensures.1 in
    let e = refused c.args.strip.now (sym c.check.ensures.verdict ∙ c.in_err-check.was) in
    rw (p.1, p.2) (record { answer = e; told = ap tally_told e; bound = tt })
