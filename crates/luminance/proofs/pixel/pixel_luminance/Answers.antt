-- `luminance::pixel::pixel_luminance` meets its contract. Assumes nothing.
use Rattle.std.proofs.Common.{arith}
use Rattle.luminance.proofs.Luminances.{lit_sum}
use Rattle.luminance.proofs.pixel.pixel_luminance.Goals as goal

pub returns : goal.returns
returns c =
    lit_sum _ _ _ _ c.weigh-red.ensures.black c.weigh-green.ensures.black c.weigh-blue.ensures.black _ _ c.store_sum.ensures
    (omega arith) c.if-red-green-eq0.false
