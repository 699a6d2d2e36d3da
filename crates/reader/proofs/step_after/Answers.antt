-- A turn is one step more, and the step after those has the answer of its number. Assumes nothing.
use Rattle.std.proofs.Common.{◌≡◌, ℕ, sym, ap, ◌∙◌, add-one, arith}
use Rattle.reader.specs.Steps.{step_of, moved_of}
use Rattle.reader.proofs.Numbers.{moved_by, moved_again, number_of}
use Rattle.reader.proofs.step_after.Goals as goal

pub loop-preserved : goal.loop-preserved
loop-preserved c =
    let k = c.loop.counter in
    let r = c.open-reader.result in
    record {
      in_range = omega arith;
      moved =
          c.next.ensures.2 ∙ ap moved_of c.loop.invariant.moved ∙ moved_again k r ∙ ap (λ (j : ℕ). moved_by j r) (sym (add-one k));
    }

pub returns : goal.returns
returns c =
    let k = c.loop.counter in
    let e : k ≡ c.args.taken = omega arith in
    c.next-2.ensures.0
    ∙ ap step_of (c.loop.invariant.moved ∙ ap (moved_by k) c.open-reader.ensures.0)
    ∙ number_of c.args.strip k
    ∙ rw e
