-- `bands::check::Bands::lit_up_to` meets its contract: at each turn `lit` counts the bands that were passed. Assumes nothing.
use Rattle.std.proofs.Common.{[], arith}
use Rattle.bands.proofs.Accepted.{bands_passed}
use Rattle.bands.proofs.Walks.{walked_none, words_body, walked_next, counted_next, counted_all}
use Rattle.bands.proofs.check.Bands.lit_up_to.Goals as goal

pub loop-band-init : goal.loop-band-init
loop-band-init c =
    record {
      passed = [];
      walk =
          walked_none _ (bands_passed _ c.args.self.now.accepted)
          (rw c.into_iter-band-iterator.ensures.into_iter_gives c.iter-band-items.ensures);
      count = omega arith;
    }

pub lit_up_to-lit-requires : goal.lit_up_to-lit-requires
lit_up_to-lit-requires c =
    words_body _ (bands_passed _ c.args.self.now.accepted) c.loop-band.invariant.walk c.in-Some.ensures.steps c.body.ensures

pub loop-band-preserved : goal.loop-band-preserved
loop-band-preserved c =
    let inv = c.loop-band.invariant in
    record {
      passed = _;
      walk = walked_next _ (bands_passed _ c.args.self.now.accepted) inv.walk c.in-Some.ensures.steps c.body.ensures;
      count = counted_next _ inv.passed _ inv.count c.lit_up_to-lit.ensures;
    }

pub returns : goal.returns
returns c = counted_all _ (bands_passed _ c.args.self.now.accepted) c.loop-band.invariant c.in-None.ensures.steps.0
