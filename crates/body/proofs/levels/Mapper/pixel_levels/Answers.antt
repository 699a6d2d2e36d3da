-- `body::levels::Mapper::pixel_levels` meets its contract. Assumes nothing.
use Rattle.word.specs.Fields.{low16}
use Rattle.tone.proofs.Laws.{level_by_factor, level_unlit}
use Rattle.body.proofs.levels.Mapper.pixel_levels.Goals as goal

pub returns : goal.returns
returns c =
    let a = c.args in
    let pre = c.requires in
    rw (
      c.wide_level.ensures,
      c.wide_level-2.ensures,
      c.wide_level-3.ensures,
      c.low_half.ensures,
      c.low_half-2.ensures,
      c.low_half-3.ensures,
    )
    (record {
      lit = λ d y md my e.
          rw (
            level_by_factor d y md my _ _ e pre.1,
            level_by_factor d y md my _ _ e pre.2,
            level_by_factor d y md my _ _ e pre.3,
          );
      unlit = λ e. rw (level_unlit a.factor (low16 a.red) e, level_unlit a.factor (low16 a.green) e, level_unlit a.factor (low16 a.blue) e);
    })
