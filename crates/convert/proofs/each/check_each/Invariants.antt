-- The verdict on the elements that are left is that on all.
use Rattle.std.proofs.Common.{◌≡◌, ℕ, map}
use Rattle.word.specs.Placing.{placed, first_refusal}
use Rattle.word.proofs.Walks.{checking}
use Rattle.convert.proofs.each.check_each.Given as goal

abbrev pub invariant-loop-k : goal.invariant-loop-k
invariant-loop-k g l =
    let xs = map g.D.Decoder.number l.source in
    let f = λ (k : ℕ). g.D.Decoder.channel in checking f 0 xs l.k ≡ first_refusal (placed f 0 0 xs)
