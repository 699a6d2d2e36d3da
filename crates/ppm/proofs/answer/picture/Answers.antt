-- `ppm::answer::picture` meets its contract: the samples have room for every strip that the input can hold. Assumes nothing.
use Rattle.std.proofs.Common.{◌≡◌, ◌*◌, ap, ◌∙◌, length, arith}
use Rattle.page.specs.Checks.{check_map}
use Rattle.ppm.proofs.Printing.{laid_refused, laid_picture}
use Rattle.ppm.proofs.answer.picture.Goals as goal

pub returns-in-Err : goal.returns-in-Err
returns-in-Err c =
    let s = c.args.strip.now in
    let room : length c.args.samples.now ≡ 16380 = omega arith in
    let told = c.map.ensures.verdict ∙ ap (check_map s) room in
    let laid =
    laid_refused s c.args.text.now c.args.samples.now c.requires told c.in-Err.is c.refusal_line.ensures.counts
    c.refusal_line.ensures.text c.map.ensures.content in
    record { counts = laid.0; text = laid.1.0; samples = laid.1.1 }

pub returns : goal.returns
returns c =
    let s = c.args.strip.now in
    let room : length c.args.samples.now ≡ 16380 = omega arith in
    let told = c.map.ensures.verdict ∙ ap (check_map s) room in
    let laid =
    laid_picture s c.args.text.now c.args.samples.now c.requires told c.width_in-width.ensures c.height_in-height.ensures
    c.in_default.is c.front.ensures.count c.front.ensures.content (ap (λ k. 3 * k) c.pixel_count-count.ensures) c.map.ensures.content in
    record { counts = laid.0; text = laid.1.0; samples = laid.1.1 }
