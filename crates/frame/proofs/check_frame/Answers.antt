-- No product overflows, as the size fits. Assumes nothing.
use Rattle.std.proofs.Common.{◌≡◌, ◌≤◌, true, sym, ◌∙◌, arith}
use native.Mathlib.Nat.{mul-le-mul}
use Rattle.refusal.proofs.Laws.{require_passed}
use Rattle.word.specs.Words.{size_fits}
use Rattle.word.proofs.Limits.{size_limits}
use Rattle.frame.proofs.check_frame.Goals as goal

pub overflow_mul-per : goal.overflow_mul-per
overflow_mul-per c =
    let passed = require_passed _ _ _ _ (sym c.require.ensures.verdict ∙ c.in_ok-require.was) in
    let size : size_fits c.args.header.width c.args.header.height ≡ true = sym c.size_fits.ensures ∙ passed.0 in
    let few : c.args.per ≤ 255 = omega arith in
    omega (arith, mul-le-mul few (size_limits _ _ size).count)
