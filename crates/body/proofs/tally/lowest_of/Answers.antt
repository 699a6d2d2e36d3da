-- `body::tally::lowest_of` meets its contract. Assumes nothing.
use Rattle.std.proofs.Common.{◌≡◌, ℕ, min, fold, ◌∙◌, arith, rules}
use Rattle.body.proofs.Tallying.{lowest_most, fold_lowest}
use Rattle.body.proofs.tally.lowest_of.Goals as goal

pub returns : goal.returns
returns c =
    let lanes = c.args.lanes.now in
    let folded : c.fold.result ≡ fold (λ (low x : ℕ). min low x) 65535 lanes = search rules in
    folded ∙ fold_lowest 65535 lanes (omega arith) ∙ omega (arith, lowest_most lanes)
