-- `bands::check::Bands::keep_tallies` meets its contract: at each turn the tally is that of the bands that were passed, whose indices stand in the
-- output's front. Assumes nothing.
use borrow.Author.Rules.{rules}
use Prim.Native.Nat.{◌+◌, ◌-◌, ◌≤◌}
use mathlib.Core.List.{[], flat_map}
use mathlib.Core.Path.{refl, ◌∙◌, ap}
use native.Mathlib.Omega.{arith}
use lib.ListN.{length, drop, length-take, length-drop}
use Rattle.refusal.specs.Output.{onto}
use Rattle.body.specs.loops.Indices.{indices_of}
use Rattle.body.proofs.Laws.{indices_append, length_indices}
use Rattle.bands.proofs.Accepted.{bands_passed}
use Rattle.bands.proofs.Outputs.{put_next}
use Rattle.bands.proofs.Walks.{walked_none, walked_all, words_body, words_next, words_fit, words_few, walked_next, both_tallies, tally_next, tally_all, none_tallied}
use Rattle.bands.proofs.check.Bands.keep_tallies.Goals as goal
use Rattle.bands.proofs.check.Bands.keep_tallies.Goals.{After-body-words}

pub loop-band-init : goal.loop-band-init
unfolding flat_map
loop-band-init c =
    record {
      passed = [];
      walk =
          walked_none _ (bands_passed _ c.args.self.now.accepted)
          (rw c.into_iter-band-iterator.ensures.into_iter_gives c.iter-band-items.ensures);
      tally = none_tallied c.no_tally-tally.ensures;
      at = refl;
      content = refl;
      long = refl;
    }

-- at a turn the output has room for the band's bytes
room : (c : After-body-words) → c.loop-band.done + length c.body-words.result.now ≤ length c.loop-band.output
room c =
    let inv = c.loop-band.invariant in
    words_fit _ (bands_passed _ c.args.self.now.accepted) inv.walk c.in-Some.ensures.steps c.body-words.ensures inv.at (omega (arith, c.requires, inv.long))

pub slice_bounds-tally_keeping-count : goal.slice_bounds-tally_keeping-count
slice_bounds-tally_keeping-count c = omega (arith, room (goal.at.slice_bounds-tally_keeping-count c).After-body-words)

pub slice_bounds-tally_keeping-start : goal.slice_bounds-tally_keeping-start
slice_bounds-tally_keeping-start c = omega (arith, slice_bounds-tally_keeping-count c)

pub tally_keeping-more-requires : goal.tally_keeping-more-requires
tally_keeping-more-requires c =
    let l = c.loop-band in
    let part = length-take (length l.output - l.done) (drop l.done l.output) in (
      words_body _ (bands_passed _ c.args.self.now.accepted) l.invariant.walk c.in-Some.ensures.steps c.body-words.ensures,
      omega (arith, part, length-drop l.done l.output, room (goal.at.tally_keeping-more-requires c).After-body-words),
    )

pub join-tally-requires : goal.join-tally-requires
join-tally-requires c =
    let inv = c.loop-band.invariant in
    both_tallies _ (bands_passed _ c.args.self.now.accepted) inv.walk inv.tally c.in-Some.ensures.steps c.body-words.ensures
    c.tally_keeping-more.ensures.tally

pub overflow_add-done : goal.overflow_add-done
overflow_add-done c =
    let inv = c.loop-band.invariant in
    omega (arith, words_few _ (bands_passed _ c.args.self.now.accepted) inv.walk c.in-Some.ensures.steps c.body-words.ensures inv.at)

pub loop-band-preserved : goal.loop-band-preserved
loop-band-preserved c =
    let ok = bands_passed _ c.args.self.now.accepted in
    let inv = c.loop-band.invariant in
    let h = c.in-Some.ensures.steps in
    let words = c.body-words.ensures in
    record {
      passed = _;
      walk = walked_next _ ok inv.walk h words;
      tally = tally_next _ ok inv.walk inv.tally h words c.tally_keeping-more.ensures.tally c.join-tally.ensures;
      at = words_next _ ok inv.walk h words inv.at;
      content = put_next indices_of indices_append length_indices inv.passed _ inv.content inv.at _ c.tally_keeping-more.ensures.content;
      long = search rules;
    }

pub returns-clause-tally : goal.returns-clause-tally
returns-clause-tally c =
    let inv = c.loop-band.invariant in
    tally_all _ (bands_passed _ c.args.self.now.accepted) inv.walk inv.tally c.in-None.ensures.steps.0

pub returns-clause-content : goal.returns-clause-content
returns-clause-content c =
    let inv = c.loop-band.invariant in
    inv.content
    ∙ ap (λ ps. onto (indices_of ps) c.args.output.now) (walked_all _ (bands_passed _ c.args.self.now.accepted) inv.walk c.in-None.ensures.steps.0)
