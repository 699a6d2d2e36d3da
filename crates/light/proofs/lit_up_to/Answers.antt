-- `light::lit_up_to` meets its contract: at each turn `lit` counts the pixels so far. Assumes nothing.
use Rattle.std.proofs.Common.{[], ◌∷◌, arith}
use Rattle.word.specs.loops.Walks.{pixel_at}
use Rattle.body.proofs.Laws.{lit_few}
use Rattle.light.proofs.Counting.{counting_none, counting_next, counting_most, counting_all}
use Rattle.light.proofs.lit_up_to.Goals as goal

pub loop-p-init : goal.loop-p-init
loop-p-init c = (counting_none _, omega arith)

pub returns-then-lit-most : goal.returns-then-lit-most
returns-then-lit-most c =
    let most = counting_most c.args.words.now c.loop-p.p in
    omega arith

pub loop-p-preserved : goal.loop-p-preserved
loop-p-preserved c =
    let next = counting_next c.args.words.now c.loop-p.p c.loop-p-test.true in
    let one = lit_few (pixel_at c.args.words.now c.loop-p.p ∷ []) in
    (omega arith, omega arith)

pub returns : goal.returns
returns c =
    let all = counting_all c.args.words.now c.loop-p.p c.loop-p-test.false in
    omega arith
