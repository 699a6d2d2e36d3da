-- `body::tally::index_pixels` meets its contract: at each turn the sums, the lowest numbers and the indices are those of the blocks so far.
use Rattle.std.proofs.Common.{◌≡◌, ℕ, ◌+◌, ◌-◌, ◌*◌, ◌/◌, ◌≤◌, min, List, map, length, take, drop, refl, sym, ap, ◌∙◌, ap₂, arith}
use lib.Seq.{sets}
use Rattle.std.specs.Int.{div_ceil}
use Rattle.refusal.proofs.Outputs.{sets_front}
use Rattle.word.specs.Pixels.{word_pixels}
use Rattle.word.proofs.Pixels.{length_word_pixels}
use Rattle.body.specs.declared.tally.Sums.{Sums}
use Rattle.body.specs.loops.Indices.{indices_of}
use Rattle.body.specs.loops.Tallying.{steps_at, unlit_at, lowest, from_darkest, from_brightest}
use Rattle.body.proofs.Bytes.{length_indices}
use Rattle.body.proofs.Luminances.{pixels_valid}
use Rattle.body.proofs.Tallying.{summed, tally_from_law}
use Rattle.body.proofs.Walks.{summing, lowering, indexed, summing_none, lowering_none, indexed_none}
use Rattle.body.proofs.Walks.{summing_part, lowering_part, indexed_part, summing_all, lowering_all, indexed_all, summing_most}
use Rattle.body.proofs.tally.index_pixels.Goals as goal
use Rattle.body.proofs.tally.index_pixels.Goals.{After-index_part-more}

-- a block of pixels, which ends before pixel `end`
module _ (c : After-index_part-more) where
  abbrev walked : List ℕ
  walked = c.args.words.now

  abbrev start : ℕ
  start = c.loop-block.block * 16

  abbrev end : ℕ
  end = c.min-end.result

  first : min (16 * c.loop-block.block) (length walked / 3) ≡ start
  first = omega (arith, c.loop-block-test.true, c.div_ceil-block-end.ensures)

  inside : start + (end - start) ≤ length walked / 3
  inside = omega (arith, first, c.min-end.ensures)

  next : start + (end - start) ≡ end
  next = omega (arith, first, c.min-end.ensures)

  part_is : take (3 * end - 3 * start) (drop (3 * start) walked) ≡ take (3 * (end - start)) (drop (3 * start) walked)
  part_is = let count : 3 * end - 3 * start ≡ 3 * (end - start) = omega arith in ap (λ k. take k (drop (3 * start) walked)) count

  within : end ≤ length walked / 3
  within = omega (arith, c.min-end.ensures)

  last : end ≡ min (16 * (c.loop-block.block + 1)) (length walked / 3)
  last = omega (arith, first, c.min-end.ensures)

  more_unlit : c.loop-block.sums.unlit + c.index_part-more.result.unlit ≡ summing unlit_at walked end
  more_unlit =
      ap₂ (λ (a b : ℕ). a + b) (c.loop-block.invariant.4 ∙ ap (summing unlit_at walked) first) (ap (λ (s : Sums). s.unlit) c.index_part-more.ensures.sums)
      ∙ summing_part walked start (end - start) inside part_is unlit_at ∙ ap (summing unlit_at walked) next

  more_raised : c.loop-block.sums.raised + c.index_part-more.result.raised ≡ summing steps_at walked end
  more_raised =
      ap₂ (λ (a b : ℕ). a + b) (c.loop-block.invariant.5 ∙ ap (summing steps_at walked) first) (ap (λ (s : Sums). s.raised) c.index_part-more.ensures.sums)
      ∙ summing_part walked start (end - start) inside part_is steps_at ∙ ap (summing steps_at walked) next

-- all blocks
all_done : (block n : ℕ) → div_ceil n 16 ≤ block → n ≤ min (16 * block) n
all_done block n h = omega arith

pub loop-block-init : goal.loop-block-init
loop-block-init c =
    let ws = c.args.words.now in
    let none : 0 ≡ min 0 (length ws / 3) = omega arith in (
      refl,
      λ fits. indexed_none _ _ ws ∙ ap (indexed c.args.output.now 0 ws) none,
      c.new-lanes.ensures.dark ∙ lowering_none from_darkest ws ∙ ap (lowering from_darkest ws) none,
      c.new-lanes.ensures.bright ∙ lowering_none from_brightest ws ∙ ap (lowering from_brightest ws) none,
      summing_none unlit_at ws ∙ ap (summing unlit_at ws) none,
      summing_none steps_at ws ∙ ap (summing steps_at ws) none,
    )

pub overflow_add-sums : goal.overflow_add-sums
overflow_add-sums c =
    let at = goal.at.overflow_add-sums c in
    let most = (summing_most c.args.words.now (end at.After-index_part-more) (within at.After-index_part-more)).0 in
    rw (more_unlit at.After-index_part-more) (record { fits = omega (arith, c.requires.few, within at.After-index_part-more, most) })

pub overflow_add-sums-in-loop-block : goal.overflow_add-sums-in-loop-block
overflow_add-sums-in-loop-block c =
    let at = goal.at.overflow_add-sums-in-loop-block c in
    let most = (summing_most c.args.words.now (end at.After-index_part-more) (within at.After-index_part-more)).1 in
    rw (more_raised at.After-index_part-more) (record { fits = omega (arith, c.requires.few, within at.After-index_part-more, most) })

pub loop-block-preserved : goal.loop-block-preserved
loop-block-preserved c =
    let at = goal.at.loop-block-preserved c in
    let i = at.After-index_part-more in
    let kept = c.keep_lowest.ensures in
    let part = c.index_part-more.ensures in
    let inv = c.loop-block.invariant in
    let ws = c.args.words.now in
    let p = start i in
    let n = end i - p in
    let block = word_pixels (take (3 * end i - 3 * p) (drop (3 * p) ws)) in (
      part.content.0 ∙ inv.0,
      λ fits.
          part.content.1 (omega (arith, fits, inv.0))
          ∙ ap (λ u. sets u (3 * p) (indices_of block)) (inv.1 fits ∙ ap (indexed _ 0 ws) (first i))
          ∙ indexed_part ws p n (inside i) (part_is i) _ ∙ ap (indexed _ 0 ws) (next i ∙ last i),
      kept.dark.low
          ∙ ap₂ (λ (low : ℕ) (row : List ℕ). min low (lowest (map from_darkest row))) (inv.2 ∙ ap (lowering from_darkest ws) (first i)) part.indices
          ∙ lowering_part ws p n (inside i) (part_is i) from_darkest refl ∙ ap (lowering from_darkest ws) (next i ∙ last i),
      kept.bright.low
          ∙ ap₂ (λ (low : ℕ) (row : List ℕ). min low (lowest (map from_brightest row))) (inv.3 ∙ ap (lowering from_brightest ws) (first i)) part.indices
          ∙ lowering_part ws p n (inside i) (part_is i) from_brightest refl ∙ ap (lowering from_brightest ws) (next i ∙ last i),
      more_unlit i ∙ ap (summing unlit_at ws) (last i),
      more_raised i ∙ ap (summing steps_at ws) (last i),
    )

pub tally-requires : goal.tally-requires
tally-requires c =
    let inv = c.loop-block.invariant in
    let ws = c.args.words.now in
    let done = all_done c.loop-block.block (length ws / 3) (omega (arith, c.loop-block-test.false, c.div_ceil-block-end.ensures)) in
    let sums = summed (word_pixels ws) (pixels_valid ws) in
    let n = length_word_pixels ws in
    rw (inv.4 ∙ summing_all ws _ done unlit_at, inv.5 ∙ summing_all ws _ done steps_at)
    (record {
      few = omega (arith, c.requires.few);
      within = omega (arith, sums.count, n);
      least = omega (arith, sums.steps);
      most = omega (arith, sums.most, n);
    })

pub returns-clause-tally : goal.returns-clause-tally
returns-clause-tally c =
    let inv = c.loop-block.invariant in
    let ws = c.args.words.now in
    let done = all_done c.loop-block.block (length ws / 3) (omega (arith, c.loop-block-test.false, c.div_ceil-block-end.ensures)) in
    c.tally.ensures
    ∙ tally_from_law (word_pixels ws) (pixels_valid ws) (sym (length_word_pixels ws)) (inv.4 ∙ summing_all ws _ done unlit_at)
    (inv.5 ∙ summing_all ws _ done steps_at) (inv.2 ∙ lowering_all ws _ done from_darkest) (inv.3 ∙ lowering_all ws _ done from_brightest)

pub returns-clause-content : goal.returns-clause-content
returns-clause-content c =
    let ws = c.args.words.now in
    let done = all_done c.loop-block.block (length ws / 3) (omega (arith, c.loop-block-test.false, c.div_ceil-block-end.ensures)) in
    let long = length_indices (word_pixels ws) ∙ ap (λ n. 3 * n) (length_word_pixels ws) in
    λ fits.
    c.loop-block.invariant.1 fits ∙ indexed_all ws _ done _ _
    ∙ sets_front (indices_of (word_pixels ws)) c.args.output.now (omega (arith, fits, long))
