-- `ppm::put::put_numbers` meets its contract: five pieces, one behind another. Assumes nothing.
use Rattle.std.proofs.Common.{arith}
use Rattle.ppm.proofs.Texts.{numbers_put}
use Rattle.ppm.proofs.put.put_numbers.Goals as goal

pub returns : goal.returns
returns c =
    let p₁ = c.put-first_at.ensures in
    let p₂ = c.put_decimal-space_at.ensures in
    let p₃ = c.put-second_at.ensures in
    let p₄ = c.put_decimal-behind_at.ensures in
    let p₅ = c.put.ensures in
    let told =
    numbers_put c.args.before.now c.args.first c.args.second c.args.behind.now c.args.output.now (omega arith) c.requires
    (p₁.content, p₁.end) (p₂.content, p₂.end) (p₃.content, p₃.end) (p₄.content, p₄.end) (p₅.content, p₅.end) in
    record { count = told.0; content = told.1 }
