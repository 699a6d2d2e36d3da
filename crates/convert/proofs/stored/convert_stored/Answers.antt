-- `convert::stored::convert_stored` meets its contract: each element is its own number.
use Rattle.std.proofs.Common.{ap}
use Rattle.std.proofs.lemmas.List.{map-id}
use Rattle.refusal.specs.Verdicts.{report_of}
use Rattle.convert.specs.Converting.{check_source}
use Rattle.convert.proofs.stored.convert_stored.Goals as goal

pub returns-clause-outcome : goal.returns-clause-outcome
unfolding check_source
returns-clause-outcome c = ap report_of (simp map-id at c.convert.ensures.verdict)
