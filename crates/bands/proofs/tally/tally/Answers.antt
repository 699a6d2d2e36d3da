-- `bands::tally::tally` meets its contract. Assumes nothing.
use Rattle.std.proofs.Common.{ap, ◌∙◌}
use Rattle.std.proofs.lemmas.Result.{err_from_is_err_and}
use Rattle.page.specs.Tallying.{tally_told}
use Rattle.bands.specs.Answers.{tally_bands}
use Rattle.bands.proofs.Accepted.{passed}
use Rattle.bands.proofs.Joined.{joined_tally, answered, refused}
use Rattle.bands.proofs.Bounds.{tally_promise}
use Rattle.bands.proofs.tally.tally.Goals as goal

pub returns-in_err-bands-clause-answer : goal.returns-in_err-bands-clause-answer
returns-in_err-bands-clause-answer c =
    let p = err_from_is_err_and c.from_residual.result c.from_residual.ensures.1 in
    rw (p.1, p.2) (refused _ c.in_err-bands.ensures)

pub returns-in_err-bands-clause-told : goal.returns-in_err-bands-clause-told
returns-in_err-bands-clause-told c = ap tally_told (returns-in_err-bands-clause-answer c)

pub tally_in_light-requires : goal.tally_in_light-requires
tally_in_light-requires c = rw c.tally.ensures (joined_tally _ (passed _ c.in_ok-bands.bands.accepted))

pub returns : goal.returns
returns c =
    let e =
    c.tally_in_light.ensures ∙ answered _ (passed _ c.in_ok-bands.bands.accepted) _ _ c.tally.ensures c.pixels.ensures
    ∙ ap tally_bands c.in_ok-bands.ensures in
    record { answer = e; told = ap tally_told e; bound = rw e (tally_promise c.args.row.now) }
