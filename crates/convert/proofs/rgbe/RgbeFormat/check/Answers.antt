-- `check` of `Rgbe` meets its contract: at each turn the verdict on the pixels that are left is that on all.
use Rattle.std.proofs.Common.{arith}
use Rattle.std.proofs.lemmas.Result.{err_from_is_err_and}
use Rattle.convert.proofs.Pixels.{pixels_next, pixels_refused}
use Rattle.convert.proofs.rgbe.RgbeFormat.check.Goals as goal

pub returns-in_err-check_pixel : goal.returns-in_err-check_pixel
returns-in_err-check_pixel c =
    let p = err_from_is_err_and c.from_residual.result c.from_residual.ensures.1 in
    rw (p.1, p.2)
    (pixels_refused _ _ c.loop-p.invariant (omega arith) (rw c.as_chunks.ensures.front at c.check_pixel.ensures) c.in_err-check_pixel.was)

pub loop-p-preserved : goal.loop-p-preserved
loop-p-preserved c =
    pixels_next _ _ c.loop-p.invariant (omega arith) (rw c.as_chunks.ensures.front at c.check_pixel.ensures) c.in_ok-check_pixel.was
