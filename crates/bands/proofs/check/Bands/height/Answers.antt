-- `bands::check::Bands::height` meets its contract. Assumes nothing.
use Rattle.std.proofs.Common.{ℕ, rules, arith, ◌∙◌, ◌<◌, ◌^◌}
use Rattle.std.specs.List.{sum_by}
use Rattle.std.proofs.lemmas.Iterator.{YieldsList-from_map}
use Rattle.std.proofs.lemmas.Iterator.Consumers.{YieldsList-from_first, sum_by_from_yields_List, fits_by_from_yields_list}
use borrow.Author.Tests.{tests}
use Rattle.series.specs.Series.{Standing, series_of}
use Rattle.bands.specs.Checks.{band_header}
use Rattle.bands.specs.loops.Walks.{standing, strips_left}
use Rattle.bands.proofs.Checking.{rows_sum, few_rows}
use Rattle.bands.proofs.check.Bands.height.Goals as goal

abbrev rows : Standing → ℕ
rows b = (band_header b).height

pub sum-requires-clause-fits : goal.sum-requires-clause-fits
sum-requires-clause-fits c =
    let bs = series_of c.args.self.now.row.now in
    let few : sum_by rows bs < 2 ^ 64 = omega (arith, rows_sum bs, few_rows _ c.args.self.now.accepted) in
    fits_by_from_yields_list rows bs c.map.result (2 ^ 64)
    (YieldsList-from_map _ rows (YieldsList-from_first standing strips_left bs (rw c.map.ensures.source c.iter.ensures)) c.map.ensures.closure
    (λ x r q k. search (rules, tests))) few

pub returns : goal.returns
returns c =
    let bs = series_of c.args.self.now.row.now in
    sum_by_from_yields_List rows bs c.map.result c.sum.result c.sum.ensures.ran
    (YieldsList-from_map _ rows (YieldsList-from_first standing strips_left bs (rw c.map.ensures.source c.iter.ensures)) c.map.ensures.closure
    (λ x r q k. search (rules, tests))) ∙ rows_sum bs
