-- `convert::each::check_each` meets its contract: at each turn the verdict on the elements that are left is that on all.
use Rattle.std.proofs.Common.{sym, ◌∙◌, zero-add}
use Rattle.std.proofs.Math.ListN.{length-map}
use Rattle.std.proofs.lemmas.Result.{err_from_is_err_and}
use Rattle.word.proofs.Walks.{checking_next, checking_refused, checking_done}
use Rattle.convert.proofs.Pages.{decoded_at}
use Rattle.convert.proofs.each.check_each.Goals as goal

pub returns-in_err-verdict_at : goal.returns-in_err-verdict_at
returns-in_err-verdict_at g c =
    let p = err_from_is_err_and c.from_residual.result c.from_residual.ensures.1 in
    rw (p.1, p.2)
    (checking_refused _ _ _ _ c.loop-k.invariant (rw length-map c.loop-k-test.true)
    (decoded_at g.D.Decoder.number g.D.Decoder.channel _ _ _ c.loop-k-test.true c.index-source-k.is c.decode.ensures)
    (rw zero-add (sym c.verdict_at.ensures.verdict ∙ c.in_err-verdict_at.was)))

pub loop-k-preserved : goal.loop-k-preserved
loop-k-preserved g c =
    checking_next _ _ _ _ c.loop-k.invariant (rw length-map c.loop-k-test.true)
    (decoded_at g.D.Decoder.number g.D.Decoder.channel _ _ _ c.loop-k-test.true c.index-source-k.is c.decode.ensures)
    (rw zero-add (sym c.verdict_at.ensures.verdict ∙ c.in_ok-verdict_at.was))

pub returns : goal.returns
returns g c = checking_done _ _ _ _ c.loop-k.invariant (rw length-map c.loop-k-test.false)
