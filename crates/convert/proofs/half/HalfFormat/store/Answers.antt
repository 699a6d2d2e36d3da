-- `store` of `Half` meets its contract: at each turn the words that are left give the whole.
use Rattle.std.proofs.Common.{◌≡◌, ◌+◌, ◌*◌, ◌/◌, length, refl, ◌∙◌, le_refl, arith}
use Rattle.std.proofs.lemmas.List.{map-id}
use Rattle.word.proofs.Walks.{length_placed, writing_all, writing_done}
use Rattle.convert.specs.Formats.{half_element}
use Rattle.convert.proofs.half.HalfFormat.store.Goals as goal

pub loop-block-preserved : goal.loop-block-preserved
loop-block-preserved c =
    let next : (c.loop-block.block + 1) * 48 ≡ c.loop-block.block * 48 + 48 = omega arith in
    (omega arith, rw next (c.store_block.ensures ∙ c.loop-block.invariant.1))

pub returns : goal.returns
returns c =
    let long = c.requires ∙ length_placed half_element 0 0 _ in
    let last : length c.args.source.now / 48 ≡ c.loop-block.block = omega arith in
    writing_done half_element _ _ _
    (refl, rw last at (simp map-id at c.store_each.ensures) ∙ c.loop-block.invariant.1 ∙ writing_all half_element _ _ long) (le_refl _)
