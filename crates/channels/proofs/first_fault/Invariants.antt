-- The verdict on the words that are left is that on all.
use Rattle.std.proofs.Common.{◌≡◌}
use Rattle.word.specs.Placing.{placed, first_refusal}
use Rattle.word.specs.Fields.{decode_word}
use Rattle.word.proofs.Walks.{checking}
use Rattle.channels.proofs.first_fault.Given as goal

abbrev pub invariant-loop-k : goal.invariant-loop-k
invariant-loop-k l = checking decode_word l.start l.words l.k ≡ first_refusal (placed decode_word l.start 0 l.words)
