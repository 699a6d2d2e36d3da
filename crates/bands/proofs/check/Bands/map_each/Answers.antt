-- `bands::check::Bands::map_each` meets its contract: at each turn the levels of the bands that were passed stand before the indices of the others.
-- Assumes nothing.
use borrow.Author.Rules.{rules}
use Prim.Native.Nat.{◌+◌, ◌≤◌}
use mathlib.Core.List.{[], flat_map}
use mathlib.Core.Path.{refl, ap, ◌∙◌}
use native.Mathlib.Omega.{arith}
use lib.ListN.{length}
use Rattle.refusal.specs.Output.{onto}
use Rattle.word.specs.Pixels.{word_pixels}
use Rattle.body.specs.Levels.{levels_under}
use Rattle.body.specs.loops.Indices.{indices_of}
use Rattle.body.proofs.Laws.{indices_append, length_indices, levels_append, length_levels}
use Rattle.bands.proofs.Accepted.{bands_passed}
use Rattle.bands.proofs.Outputs.{lent, put_next, held_part, held_room}
use Rattle.bands.proofs.Walks.{walked_none, walked_all, words_body, words_next, words_within, words_few, walked_next}
use Rattle.bands.proofs.check.Bands.map_each.Goals as goal

pub loop-band-init : goal.loop-band-init
unfolding flat_map
loop-band-init c =
    record {
      passed = [];
      walk =
          walked_none _ (bands_passed _ c.args.self.now.accepted)
          (rw c.into_iter-band-iterator.ensures.into_iter_gives c.iter-band-items.ensures);
      at = refl;
      content = refl;
      long = refl;
    }

-- at a turn the output has room for the band's bytes
pub slice_bounds-map_levels-count : goal.slice_bounds-map_levels-count
slice_bounds-map_levels-count c =
    let inv = c.loop-band.invariant in
    let held = held_room indices_of indices_append length_indices _ _ c.requires.1.front in
    let room : c.loop-band.done + length c.body-words.result.now ≤ length c.loop-band.output =
    words_within _ (bands_passed _ c.args.self.now.accepted) inv.walk c.in-Some.ensures.steps c.body-words.ensures inv.at
    (omega (arith, held, inv.long)) in
    omega arith

pub slice_bounds-map_levels-start : goal.slice_bounds-map_levels-start
slice_bounds-map_levels-start c = omega (arith, slice_bounds-map_levels-count c)

pub map_levels-requires : goal.map_levels-requires
map_levels-requires c =
    let ok = bands_passed _ c.args.self.now.accepted in
    let inv = c.loop-band.invariant in
    let tone = c.args.tone in
    let old = c.args.output.now in
    let h = c.in-Some.ensures.steps in
    let words = c.body-words.result.now in
    let next = walked_next _ ok inv.walk h c.body-words.ensures in
    let all = rw (← next.all) at c.requires.1.front in
    let part = lent (levels_under tone) (levels_append tone) (length_levels tone) inv.passed old inv.content inv.at in (
      words_body _ ok inv.walk h c.body-words.ensures,
      c.requires.0,
      record { front = rw (part, inv.at) (held_part indices_of indices_append length_indices inv.passed (word_pixels words) _ old all) },
    )

pub overflow_add-done : goal.overflow_add-done
overflow_add-done c =
    let inv = c.loop-band.invariant in
    omega (arith, words_few _ (bands_passed _ c.args.self.now.accepted) inv.walk c.in-Some.ensures.steps c.body-words.ensures inv.at)

pub loop-band-preserved : goal.loop-band-preserved
loop-band-preserved c =
    let ok = bands_passed _ c.args.self.now.accepted in
    let inv = c.loop-band.invariant in
    let tone = c.args.tone in
    let h = c.in-Some.ensures.steps in
    let words = c.body-words.ensures in
    record {
      passed = _;
      walk = walked_next _ ok inv.walk h words;
      at = words_next _ ok inv.walk h words inv.at;
      content =
          put_next (levels_under tone) (levels_append tone) (length_levels tone) inv.passed _ inv.content inv.at _ c.map_levels.ensures;
      long = search rules;
    }

pub returns : goal.returns
returns c =
    let inv = c.loop-band.invariant in
    inv.content
    ∙ ap (λ ps. onto (levels_under c.args.tone ps) c.args.output.now)
    (walked_all _ (bands_passed _ c.args.self.now.accepted) inv.walk c.in-None.ensures.steps.0)
