-- What the loop keeps to.
use Rattle.std.proofs.Common.{◌≡◌, ◌+◌, ◌*◌, ◌^◌, ◌<◌}
use Rattle.number.proofs.ratio.mantissa_by_digits.Given as goal

abbrev pub invariant-loop : goal.invariant-loop
invariant-loop l = (l.q.rest < l.den) × (l.q.digits < 2 ^ (l.counter + 1)) × (l.q.digits * l.den + l.q.rest ≡ (l.den + l.rest) * 2 ^ l.counter)
