-- `channels::first_fault` meets its contract: at each turn the verdict on the words that are left is that on all. Assumes nothing.
use Rattle.std.proofs.Common.{sym, ◌∙◌}
use Rattle.std.proofs.lemmas.Result.{err_from_is_err_and}
use Rattle.word.proofs.Walks.{checking_all, checking_next, checking_refused, checking_done}
use Rattle.channels.proofs.first_fault.Goals as goal

pub loop-k-init : goal.loop-k-init
loop-k-init c = checking_all _ _ _

pub returns-in_err-verdict_at : goal.returns-in_err-verdict_at
returns-in_err-verdict_at c =
    let p = err_from_is_err_and c.from_residual.result c.from_residual.ensures.1 in
    rw (p.1, p.2)
    (checking_refused _ _ _ _ c.loop-k.invariant c.loop-k-test.true c.decode_word.ensures.answer
    (sym c.verdict_at.ensures.verdict ∙ c.in_err-verdict_at.was))

pub loop-k-preserved : goal.loop-k-preserved
loop-k-preserved c =
    checking_next _ _ _ _ c.loop-k.invariant c.loop-k-test.true c.decode_word.ensures.answer
    (sym c.verdict_at.ensures.verdict ∙ c.in_ok-verdict_at.was)

pub returns : goal.returns
returns c = checking_done _ _ _ _ c.loop-k.invariant c.loop-k-test.false
