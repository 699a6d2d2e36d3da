-- `strip::read::store_codes` meets its contract: at each turn the stores that are left give the whole. Assumes nothing.
use mathlib.Core.Path.{refl, sym, ◌∙◌}
use mathlib.Core.List.{map}
use lib.ListN.{length-map, get_or-map}
use Rattle.word.specs.Fields.{low16}
use Rattle.refusal.proofs.Outputs.{sets_front}
use Rattle.word.proofs.Walks.{storing_all, storing_next, storing_done}
use Rattle.strip.proofs.read.store_codes.Goals as goal

pub loop-i-init : goal.loop-i-init
loop-i-init c =
    (refl, storing_all _ _ _ ∙ sets_front (map low16 c.args.words.now) _ (rw length-map c.requires))

pub loop-i-preserved : goal.loop-i-preserved
loop-i-preserved c =
    let word = get_or-map low16 c.args.words.now _ 0 ∙ sym c.low_half.ensures in
    storing_next _ _ _ c.loop-i.output c.loop-i.invariant (rw length-map c.loop-i-test.true) word

pub returns : goal.returns
returns c =
    storing_done _ _ _ _ c.loop-i.invariant (rw length-map c.loop-i-test.false)
