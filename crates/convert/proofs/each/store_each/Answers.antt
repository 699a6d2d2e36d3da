-- `convert::each::store_each` meets its contract: at each turn the words that are left give the same body.
use Rattle.std.proofs.Common.{◌<◌, length, refl, arith}
use Rattle.std.proofs.Math.ListN.{length-map}
use Rattle.word.proofs.Walks.{writing_next}
use Rattle.convert.proofs.Pages.{decoded_at}
use Rattle.convert.proofs.each.store_each.Goals as goal

pub loop-k-preserved : goal.loop-k-preserved
loop-k-preserved g c =
    let inside : c.loop-k.k < length c.args.source.now = omega arith in
    writing_next _ _ _ _ c.loop-k.invariant (rw length-map inside) (decoded_at g.D.Decoder.number g.D.Decoder.channel _ _ _ inside c.index-source-k.is refl)
    (rw c.code.ensures at c.channel_word.ensures)
