-- `body::levels::Mapper::wide_levels` meets its contract: at each turn the levels so far stand in the block. Assumes nothing.
use Rattle.std.proofs.Common.{◌≡◌, ◌+◌, ◌*◌, ◌/◌, [], ◌∷◌, length, refl, ap, ap₂, ◌∙◌, arith, take_all, rules}
use lib.Seq.{length-sets}
use Rattle.word.specs.Pixels.{word_pixels}
use Rattle.word.specs.loops.Walks.{pixel_at}
use Rattle.word.proofs.Pixels.{length_word_pixels}
use Rattle.body.specs.Levels.{levels_under}
use Rattle.body.specs.loops.FactorTables.{factor_under}
use Rattle.body.specs.loops.Indices.{pixel_index}
use Rattle.body.proofs.LevelBlocks.{block_none, block_next}
use Rattle.body.proofs.Factors.{factor_range, levels_by}
use Rattle.body.proofs.Indices.{is_index, index_read}
use Rattle.body.proofs.Luminances.{pixel_valid}
use Rattle.body.proofs.levels.Mapper.wide_levels.Goals as goal
use Rattle.body.proofs.levels.Mapper.wide_levels.Goals.{After-index_in-index}

-- the index that was read is that of the pixel
index : (c : After-index_in-index) → c.index_in-index.result ≡ pixel_index (pixel_at c.args.words.now c.loop-j.j)
index c = c.index_in-index.ensures ∙ index_read c.args.words.now _ c.requires.indices c.loop-j-test.true

pub loop-j-init : goal.loop-j-init
loop-j-init c = (refl, search rules, block_none c.args.self.now.tone c.args.words.now c.args.wide.now)

pub factor_at-factor-requires : goal.factor_at-factor-requires
factor_at-factor-requires c =
    rw (index (goal.at.factor_at-factor-requires c).After-index_in-index) (is_index _ (pixel_valid _ _ _))

pub pixel_levels-levels-requires : goal.pixel_levels-levels-requires
pixel_levels-levels-requires c =
    let codes = c.requires.body in
    let at = 3 * c.loop-j.j in (
      rw (c.factor_at-factor.ensures.factor, index (goal.at.pixel_levels-levels-requires c).After-index_in-index)
          (factor_range _ c.loop-j.self.tables.tone _ (is_index _ (pixel_valid _ _ _))),
      codes.code at (omega arith),
      codes.code (at + 1) (omega arith),
      codes.code (at + 2) (omega arith),
    )

pub loop-j-preserved : goal.loop-j-preserved
loop-j-preserved c =
    let l = c.loop-j in
    let w = c.pixel_levels-levels.result in
    let tone = c.args.self.now.tone in
    let factor =
    c.factor_at-factor.ensures.factor
    ∙ ap₂ factor_under l.invariant.0 (index (goal.at.loop-j-preserved c).After-index_in-index) in
    let levels = levels_by tone c.args.self.now.tables.tone _ (pixel_valid _ _ _) factor c.pixel_levels-levels.ensures in (
      c.factor_at-factor.ensures.tone ∙ l.invariant.0,
      rw c.store_wide.ensures (length-sets l.wide (3 * l.j) (w.red ∷ w.green ∷ w.blue ∷ []) ∙ l.invariant.1),
      rw c.store_wide.ensures (block_next tone c.args.words.now l.wide l.j l.invariant.2 (omega arith) c.loop-j-test.true _ levels),
    )

pub returns-clause-levels : goal.returns-clause-levels
returns-clause-levels c =
    let l = c.loop-j in
    let ws = c.args.words.now in
    let e : l.j ≡ length ws / 3 = omega arith in
    let all = take_all l.j (word_pixels ws) (rw (length_word_pixels ws) c.loop-j-test.false) in
    record { long = l.invariant.1; levels = rw (← e) (l.invariant.2 ∙ ap (levels_under _) all) }
