-- `bands::map::map` meets its contract: a refusal comes before the first store. Assumes nothing.
use Rattle.std.proofs.Common.{sym, ap, ◌∙◌}
use Rattle.std.proofs.lemmas.Result.{err_from_is_err_and}
use Rattle.refusal.specs.Verdicts.{report_of}
use Rattle.bands.proofs.Checking.{bands_refused}
use Rattle.bands.proofs.Joined.{joined_tally, joined_lit, joined_tone}
use Rattle.bands.proofs.Levels.{map_limits, indices_left, levels_left_law}
use Rattle.bands.proofs.Bounds.{map_promise}
use Rattle.bands.proofs.map.map.Goals as goal

pub returns-in_err-bands-clause-verdict : goal.returns-in_err-bands-clause-verdict
returns-in_err-bands-clause-verdict c =
    let p = err_from_is_err_and c.from_residual.result c.from_residual.ensures.1 in
    rw (p.1, p.2) (bands_refused _ _ c.in_err-bands.ensures)

pub returns-in_err-bands-clause-outcome : goal.returns-in_err-bands-clause-outcome
returns-in_err-bands-clause-outcome c = ap report_of (returns-in_err-bands-clause-verdict c)

pub keep_tallies-tally-requires : goal.keep_tallies-tally-requires
keep_tallies-tally-requires c = (map_limits _ _ (sym c.check_map.ensures ∙ c.in_ok-check_map.was)).fits

pub tone_of-requires : goal.tone_of-requires
tone_of-requires c =
    let q = map_limits _ _ (sym c.check_map.ensures ∙ c.in_ok-check_map.was) in
    rw c.keep_tallies-tally.ensures.tally (joined_lit _ q.bands q.light, joined_tally _ q.bands)

pub map_each-requires : goal.map_each-requires
map_each-requires c =
    let q = map_limits _ _ (sym c.check_map.ensures ∙ c.in_ok-check_map.was) in
    rw (c.tone_of.ensures, c.header_fields.ensures, c.keep_tallies-tally.ensures.tally, ← c.in_ok-bands.ensures)
    (joined_tone _ q.bands q.light, indices_left _ q.bands _ c.keep_tallies-tally.ensures.content)

pub returns-clause-content : goal.returns-clause-content
returns-clause-content c =
    let q = map_limits _ _ (sym c.check_map.ensures ∙ c.in_ok-check_map.was) in
    rw (← c.in_ok-bands.ensures)
    (levels_left_law _ q.bands _ c.keep_tallies-tally.ensures.content
    (rw (c.tone_of.ensures, c.header_fields.ensures, c.keep_tallies-tally.ensures.tally, ← c.in_ok-bands.ensures) at c.map_each.ensures))

pub returns-clause-bound : goal.returns-clause-bound
returns-clause-bound c =
    let q = map_limits _ _ (sym c.check_map.ensures ∙ c.in_ok-check_map.was) in
    rw (returns-clause-content c) (map_promise c.args.row.now c.args.output.now (rw c.in_ok-bands.ensures at q))
