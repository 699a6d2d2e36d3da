-- `page::map::map` meets its contract: a refusal comes before the first store. Assumes nothing.
use mathlib.Core.Path.{sym, ◌∙◌}
use native.Mathlib.Omega.{arith}
use Rattle.strip.proofs.Limits.{length_body}
use Rattle.strip.proofs.Bodies.{pixels_in}
use Rattle.strip.specs.Reading.{strip_pixels}
use Rattle.body.proofs.Laws.{lit_count_law}
use Rattle.page.proofs.Checks.{map_fits, map_tally, tally_lit}
use Rattle.page.proofs.Bounds.{map_bound}
use Rattle.page.proofs.Strips.{strip_body, words_tally, words_indices, strip_tally_law, strip_tone, strip_indices, over_indices}
use Rattle.page.proofs.map.map.Goals as goal

pub tally_keeping-tally-requires : goal.tally_keeping-tally-requires
tally_keeping-tally-requires c =
    let q = map_fits _ _ (sym c.check_map.ensures ∙ c.in_ok-check_map.was) in
    rw c.body.ensures (strip_body _ q.strip, omega (arith, length_body _ q.strip.head, q.fits))

pub tone_of-requires : goal.tone_of-requires
tone_of-requires c =
    let ok = sym c.check_map.ensures ∙ c.in_ok-check_map.was in
    let whole = (map_fits _ _ ok).strip in
    rw (c.tally_keeping-tally.ensures.tally ∙ words_tally _ whole c.body.ensures)
    (rw (lit_count_law (strip_pixels c.args.strip.now)) (tally_lit _ (map_tally _ _ ok)), strip_tally_law _ whole)

pub map_levels-requires : goal.map_levels-requires
map_levels-requires c =
    let ok = sym c.check_map.ensures ∙ c.in_ok-check_map.was in
    let whole = (map_fits _ _ ok).strip in
    let told = c.tally_keeping-tally.ensures.tally ∙ words_tally _ whole c.body.ensures in
    let kept = words_indices _ whole c.body.ensures _ c.tally_keeping-tally.ensures.content in
    rw (c.body-2.ensures, c.tone_of.ensures, c.header_fields.ensures, told)
    (strip_body _ whole, strip_tone _ whole (tally_lit _ (map_tally _ _ ok)), strip_indices _ whole _ kept)

pub returns-clause-content : goal.returns-clause-content
returns-clause-content c =
    let s = c.args.strip.now in
    let whole = (map_fits _ _ (sym c.check_map.ensures ∙ c.in_ok-check_map.was)).strip in
    let told = c.tally_keeping-tally.ensures.tally ∙ words_tally _ whole c.body.ensures in
    let kept = words_indices _ whole c.body.ensures _ c.tally_keeping-tally.ensures.content in
    (rw (c.body-2.ensures, c.tone_of.ensures, c.header_fields.ensures, told, ← pixels_in s whole.channels) at c.map_levels.ensures)
    ∙ over_indices s whole c.args.output.now kept

pub returns-clause-bound : goal.returns-clause-bound
returns-clause-bound c =
    let ok = sym c.check_map.ensures ∙ c.in_ok-check_map.was in
    rw (returns-clause-content c) (map_bound c.args.strip.now c.args.output.now (map_tally _ _ ok))
