-- The words that are left give the same body as all.
use Rattle.std.proofs.Common.{◌≡◌, ℕ, map, length}
use Rattle.word.specs.loops.Walks.{writing}
use Rattle.convert.proofs.each.store_each.Given as goal

abbrev pub invariant-loop-k : goal.invariant-loop-k
invariant-loop-k g l =
    let xs = map g.D.Decoder.number l.source in
    let f = λ (k : ℕ). g.D.Decoder.channel in
    (length l.body ≡ length l.initial.body) × (writing f xs l.k l.body ≡ writing f xs l.from l.initial.body)
