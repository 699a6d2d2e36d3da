-- `body::levels::Mapper::factor_at` meets its contract. Assumes nothing.
use Rattle.std.proofs.Common.{◌≡◌}
use Rattle.tone.proofs.Laws.{factor_by_law}
use Rattle.body.specs.loops.FactorTables.{factor_under}
use Rattle.body.proofs.Indices.{is_luminance}
use Rattle.body.proofs.Factors.{factor_lit, not_unlit, with_entry}
use Rattle.body.proofs.levels.Mapper.factor_at.Goals as goal
use Rattle.body.proofs.levels.Mapper.factor_at.Goals.{Else-kept-ne0, After-factor-made}

-- The index of an entry that is not there yet is not that of the unlit pixels.
lit : (c : Else-kept-ne0) → c.args.index ≡ 0 → ⊥
lit c = let s = c.args.self.now in not_unlit s.tone s.factors s.entries _ c.requires.small c.if-kept-ne0.false

pub display_by-display-requires : goal.display_by-display-requires
display_by-display-requires c =
    let tables = c.args.self.now.tables in
    let some = lit (goal.at.display_by-display-requires c).Else-kept-ne0 in
    (tables.scale, tables.tone, rw c.stored_at-luminance.ensures (is_luminance some c.requires))

-- the factor that is worked out is right
right : (c : After-factor-made) → (c.args.index ≡ 0 → ⊥) → c.factor-made.result ≡ factor_under c.args.self.now.tone c.args.index
right c some =
    let s = c.args.self.now in
    rw (c.factor-made.ensures, c.display_by-display.ensures, c.stored_at-luminance.ensures, factor_lit s.tone some)
    (factor_by_law _ _ _ s.tables.reciprocal (is_luminance some c.requires).mantissa)

pub returns-clause-factor : goal.returns-clause-factor
returns-clause-factor c =
    let at = goal.at.returns-clause-factor c in
    right at.After-factor-made (lit at.Else-kept-ne0)

pub invariant_of-self-clause-entries : goal.invariant_of-self-clause-entries
invariant_of-self-clause-entries c =
    let s = c.args.self.now in
    let at = goal.at.invariant_of-self-clause-entries c in
    let some = lit at.Else-kept-ne0 in
    with_entry s.tone s.factors s.entries _ c.requires.small some (right at.After-factor-made some)
