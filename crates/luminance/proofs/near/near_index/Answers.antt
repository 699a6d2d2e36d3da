-- `luminance::near::near_index` meets its contract. Assumes nothing.
use Rattle.std.proofs.Common.{sym, ◌∙◌, ap₂}
use Rattle.luminance.specs.loops.Codes.{near_sum}
use Rattle.luminance.proofs.Octaves.{near_black, far_blue, far_red, worked_out}
use Rattle.luminance.proofs.near.near_index.Goals.{then-b-lt8, else-b-lt8, then-r-lt8, else-r-lt8}
use Rattle.luminance.proofs.near.near_index.Goals as goal

pub returns-then-exponent-eq0 : goal.returns-then-exponent-eq0
returns-then-exponent-eq0 c = sym (near_black _ _ _ c.if-exponent-eq0.true)

pub returns-else-exponent-eq0 : goal.returns-else-exponent-eq0
returns-else-exponent-eq0 c =
    let lit = c.if-exponent-eq0.false in
    let at_red = c.near_place-r.ensures in
    let at_blue = c.near_place-b.ensures in
    elim c.if-b-lt8.branch [
      | then-b-lt8 near ↦
          let blue = rw at_blue at near.if-b-lt8.true in
          elim c.if-r-lt8.branch [
            | then-r-lt8 near_red ↦
                near.near-is ∙ near_red.near_red-is
                ∙ worked_out _ _ _ lit blue _ _ (rw at_red at near_red.if-r-lt8.true)
                (c.near_sum-sum.ensures.sum ∙ ap₂ (near_sum _ _ _) at_red at_blue) c.octave_index-octave.ensures
            | else-r-lt8 far ↦ near.near-is ∙ far.near_red-is ∙ sym (far_red _ _ _ lit blue (rw at_red at far.if-r-lt8.false))
          ]
      | else-b-lt8 far ↦ far.near-is ∙ sym (far_blue _ _ _ lit (rw at_blue at far.if-b-lt8.false))
    ]
