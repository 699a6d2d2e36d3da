-- `bands::check::Bands::tally` meets its contract: at each turn the tally is that of the bands that were passed. Assumes nothing.
use Rattle.std.proofs.Common.{[]}
use Rattle.bands.proofs.Accepted.{bands_passed}
use Rattle.bands.proofs.Walks.{walked_none, words_body, walked_next, both_tallies, tally_next, tally_all, none_tallied}
use Rattle.bands.proofs.check.Bands.tally.Goals as goal

pub loop-band-init : goal.loop-band-init
loop-band-init c =
    record {
      passed = [];
      walk =
          walked_none _ (bands_passed _ c.args.self.now.accepted)
          (rw c.into_iter-band-iterator.ensures.into_iter_gives c.iter-band-items.ensures);
      tally = none_tallied c.no_tally-tally.ensures;
    }

pub tally-requires : goal.tally-requires
tally-requires c =
    words_body _ (bands_passed _ c.args.self.now.accepted) c.loop-band.invariant.walk c.in-Some.ensures.steps c.body.ensures

pub join-tally-requires : goal.join-tally-requires
join-tally-requires c =
    let inv = c.loop-band.invariant in
    both_tallies _ (bands_passed _ c.args.self.now.accepted) inv.walk inv.tally c.in-Some.ensures.steps c.body.ensures c.tally.ensures

pub loop-band-preserved : goal.loop-band-preserved
loop-band-preserved c =
    let ok = bands_passed _ c.args.self.now.accepted in
    let inv = c.loop-band.invariant in
    let next = c.in-Some.ensures.steps in
    let words = c.body.ensures in
    record {
      passed = _;
      walk = walked_next _ ok inv.walk next words;
      tally = tally_next _ ok inv.walk inv.tally next words c.tally.ensures c.join-tally.ensures;
    }

pub returns : goal.returns
returns c =
    let inv = c.loop-band.invariant in
    tally_all _ (bands_passed _ c.args.self.now.accepted) inv.walk inv.tally c.in-None.ensures.steps.0
