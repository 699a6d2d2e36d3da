-- `body::levels::map_levels` meets its contract: at each turn the levels so far stand before the indices of the pixels that are left.
use Rattle.std.proofs.Common.{◌≡◌, ℕ, ◌+◌, ◌-◌, ◌*◌, ◌/◌, ◌≤◌, min, List, length, take, drop, sym, refl, ap, ◌∙◌, ap₂, arith, length-take}
use borrow.Rule.Slice.PartMut.{put_mid}
use Rattle.refusal.specs.Output.{onto}
use Rattle.word.specs.Pixels.{word_pixels}
use Rattle.body.specs.Levels.{levels_under}
use Rattle.body.specs.loops.Indices.{indices_of}
use Rattle.body.proofs.Indices.{body_part_law}
use Rattle.body.proofs.LevelBlocks.{filled, filled_none, filled_room, filled_part, filled_next, filled_done}
use Rattle.body.proofs.levels.map_levels.Goals as goal
use Rattle.body.proofs.levels.map_levels.Goals.{After-min-end}

-- a block of pixels, which ends before pixel `end`
module _ (c : After-min-end) where
  abbrev pixels : ℕ
  pixels = length c.args.words.now / 3

  abbrev start : ℕ
  start = c.loop-block.block * 64

  abbrev end : ℕ
  end = c.min-end.result

  first : min (64 * c.loop-block.block) pixels ≡ start
  first = omega (arith, c.loop-block-test.true, c.div_ceil-block-end.ensures)

  inside : start + (end - start) ≤ pixels
  inside = omega (arith, first, c.min-end.ensures)

  next : start + (end - start) ≡ min (64 * (c.loop-block.block + 1)) pixels
  next = omega (arith, first, c.min-end.ensures)

  count : 3 * end - 3 * start ≡ 3 * (end - start)
  count = omega arith

  -- the output so far
  so_far : c.loop-block.output ≡ filled c.new-mapper.result.tone c.args.words.now c.args.output.now start
  so_far = c.loop-block.invariant.1 ∙ ap (filled c.new-mapper.result.tone c.args.words.now c.args.output.now) first

pub loop-block-init : goal.loop-block-init
loop-block-init c =
    let none : 0 ≡ min 0 (length c.args.words.now / 3) = omega arith in
    let tone = c.new-mapper.result.tone in
    (refl, filled_none tone _ _ c.requires.2 ∙ ap (filled tone c.args.words.now c.args.output.now) none)

-- the output has room for all pixels
pub slice_bounds-fill_block-end-in-loop-block : goal.slice_bounds-fill_block-end-in-loop-block
slice_bounds-fill_block-end-in-loop-block c =
    let at = (goal.at.slice_bounds-fill_block-end-in-loop-block c).After-min-end in
    let room : 3 * (length c.args.words.now / 3) ≤ length c.loop-block.output =
    rw (so_far at) (filled_room c.new-mapper.result.tone c.args.words.now c.args.output.now (start at) (omega (arith, inside at))) in
    omega (arith, inside at)

pub fill_block-requires : goal.fill_block-requires
fill_block-requires c =
    let at = (goal.at.fill_block-requires c).After-min-end in
    let ws = c.args.words.now in
    let p = start at in
    let n = end at - p in
    record {
      body = body_part_law ws c.requires.0 (3 * p) (3 * end at - 3 * p);
      short = omega (arith, length-take (3 * end at - 3 * p) (drop (3 * p) ws), c.min-end.ensures);
      indices =
          ap₂ (λ (j : ℕ) (u : List ℕ). take j (drop (3 * p) u)) (count at) (so_far at)
          ∙ filled_part _ ws c.args.output.now p n (inside at)
          ∙ ap (λ j. indices_of (word_pixels (take j (drop (3 * p) ws)))) (sym (count at));
    }

pub loop-block-preserved : goal.loop-block-preserved
loop-block-preserved c =
    let at = (goal.at.loop-block-preserved c).After-min-end in
    let l = c.loop-block in
    let ws = c.args.words.now in
    let tone = c.new-mapper.result.tone in
    let old = c.args.output.now in
    let p = start at in
    let n = end at - p in
    let levels : List ℕ → List ℕ = λ part. levels_under tone (word_pixels part) in (
      c.fill_block.ensures.tone ∙ l.invariant.0,
      ap (put_mid (3 * p) (3 * end at - 3 * p) l.output)
          (c.fill_block.ensures.levels ∙ ap (λ t. levels_under t (word_pixels (take (3 * end at - 3 * p) (drop (3 * p) ws)))) l.invariant.0)
          ∙ ap₂ (λ (j : ℕ) (u : List ℕ). put_mid (3 * p) j u (levels (take j (drop (3 * p) ws)))) (count at) (so_far at)
          ∙ filled_next tone ws old p n (inside at) ∙ ap (filled tone ws old) (next at),
    )

pub returns : goal.returns
returns c =
    let tone = c.new-mapper.result.tone in
    let e : length c.args.words.now / 3 ≤ min (64 * c.loop-block.block) (length c.args.words.now / 3) =
    omega (arith, c.loop-block-test.false, c.div_ceil-block-end.ensures) in
    c.loop-block.invariant.1 ∙ filled_done tone _ _ _ e ∙ ap (λ t. onto (levels_under t (word_pixels c.args.words.now)) c.args.output.now) c.new-mapper.ensures
