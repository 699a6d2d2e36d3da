-- `bands::check::Bands::pixels` meets its contract. Assumes nothing.
use Rattle.std.proofs.Common.{arith}
use Rattle.bands.proofs.Checking.{few_joined}
use Rattle.bands.proofs.check.Bands.pixels.Goals as goal

pub overflow_mul-result : goal.overflow_mul-result
overflow_mul-result c =
    rw (c.height.ensures, c.header_fields.ensures) (omega (arith, few_joined _ c.args.self.now.accepted))
