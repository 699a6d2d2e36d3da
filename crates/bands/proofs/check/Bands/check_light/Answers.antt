-- `bands::check::Bands::check_light` meets its contract. Assumes nothing.
use Rattle.bands.proofs.Checking.{light_counted}
use Rattle.bands.proofs.check.Bands.check_light.Goals as goal

pub returns : goal.returns
returns c =
    light_counted _ c.args.self.now.accepted
    (rw (c.lit_up_to.ensures, c.enough_for.ensures, c.pixels-pixels.ensures) at c.check_light.ensures)
