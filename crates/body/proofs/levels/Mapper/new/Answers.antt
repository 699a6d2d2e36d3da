-- `body::levels::Mapper::new` meets its contract. Assumes nothing.
use Rattle.std.proofs.Common.{refl}
use Rattle.body.proofs.Factors.{no_factors}
use Rattle.body.proofs.levels.Mapper.new.Goals as goal

pub invariant_of-result-clause-entries : goal.invariant_of-result-clause-entries
invariant_of-result-clause-entries c = no_factors 15232 refl c.args.tone
