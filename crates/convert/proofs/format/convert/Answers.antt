-- `convert::format::convert` meets its contract: a refusal comes before the first store, and the stores make the strip.
use Rattle.convert.proofs.Pages.{checked, all_stored}
use Rattle.convert.proofs.format.convert.Goals as goal

pub returns-clause-content : goal.returns-clause-content
returns-clause-content g c =
    let e = rw c.PER_PIXEL.ensures at c.check_frame.ensures.verdict in
    let long = (checked _ _ _ _ e c.in_ok-check_frame.was).long in
    all_stored _ _ _ _ e c.in_ok-check_frame.was _ (g.met.F.Format.three_a_pixel _ _ long) c.body_start-start.ensures c.body_end-end.ensures
    c.store.ensures c.store_frame.ensures
