-- `store` of `Each` meets its contract: the words of all elements are the body.
use Rattle.std.proofs.Common.{refl, ◌∙◌, le_refl, arith}
use Rattle.std.proofs.Math.ListN.{length-map}
use Rattle.word.proofs.Walks.{length_placed, writing_all, writing_done}
use Rattle.convert.proofs.each.EachFormat.store.Goals as goal

pub store_each-requires : goal.store_each-requires
store_each-requires g c =
    let long = c.requires ∙ length_placed _ 0 0 _ ∙ length-map c.args.source.now _ in omega arith

pub returns : goal.returns
returns g c =
    let long = c.requires ∙ length_placed _ 0 0 _ in
    writing_done _ _ _ _ (refl, c.store_each.ensures ∙ writing_all _ _ _ long) (rw length-map (le_refl _))
