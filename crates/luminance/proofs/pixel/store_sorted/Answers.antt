-- `luminance::pixel::store_sorted` meets its contract. Assumes nothing.
use Rattle.std.proofs.Common.{◌-◌, ◌∙◌, arith}
use Rattle.luminance.proofs.Storables.{unit_ratio, Storable, stored_in_law}
use Rattle.luminance.proofs.Sticky.{jam_of}
use Rattle.luminance.proofs.CutSums.{cut_storable, sorted_stored}
use Rattle.luminance.proofs.pixel.store_sorted.Goals as goal

pub returns : goal.returns
unfolding jam_of
returns c =
    let x = c.args in
    let storable : Storable (unit_ratio c.add_term-sum.result 200 (x.a.exponent - 24)) = cut_storable _ _ (omega arith) (omega arith) in
    c.stored_ratio.ensures ∙ stored_in_law storable
    ∙ sorted_stored x.a.value x.b.value x.c.value x.a.exponent x.b.exponent x.c.exponent _ _
    c.add_term-low.ensures.cut c.add_term-sum.ensures.cut
    (omega arith) (omega arith) (omega arith) (omega arith) storable
