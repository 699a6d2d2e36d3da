-- `body::levels::Mapper::fill_block` meets its contract. Assumes nothing.
use Rattle.std.proofs.Common.{◌≡◌, ◌*◌, ◌/◌, length, take, ◌∙◌, append-nil, arith, drop_of_length-le, length-take}
use Rattle.body.proofs.LevelBlocks.{block_long, block_whole}
use Rattle.body.proofs.levels.Mapper.fill_block.Goals as goal

pub slice_bounds-limit_levels-end-then-output-eq192 : goal.slice_bounds-limit_levels-end-then-output-eq192
slice_bounds-limit_levels-end-then-output-eq192 c = omega (arith, length-take 192 c.args.output.now, c.if-output-eq192.true)

pub limit_levels-requires : goal.limit_levels-requires
limit_levels-requires c = omega (arith, length-take 192 c.args.output.now)

pub returns-then-output-eq192-clause-levels : goal.returns-then-output-eq192-clause-levels
returns-then-output-eq192-clause-levels c =
    let output = c.args.output.now in
    let none = drop_of_length-le output {i = 192} (omega (arith, c.if-output-eq192.true)) in
    let count : length (take 192 output) ≡ 3 * (length c.args.words.now / 3) =
    omega (arith, length-take 192 output, block_long c.requires, c.if-output-eq192.true) in
    rw (none, append-nil) (c.limit_levels.ensures ∙ block_whole c.wide_levels.ensures.levels count)

pub returns-else-output-eq192-clause-levels : goal.returns-else-output-eq192-clause-levels
returns-else-output-eq192-clause-levels c =
    c.limit_levels-else-output-eq192.ensures ∙ block_whole c.wide_levels.ensures.levels (block_long c.requires)
