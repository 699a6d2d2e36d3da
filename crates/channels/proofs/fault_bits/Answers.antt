-- `channels::fault_bits` meets its contract. Assumes nothing.
use Rattle.std.proofs.Common.{ℕ, ◌+◌, ◌-◌, ◌%◌, ◌^◌, arith}
use Rattle.channels.proofs.Held.{or_none, black_holds, lit_holds}
use Rattle.channels.proofs.fault_bits.Goals as goal

pub returns-then-code-eq0 : goal.returns-then-code-eq0
returns-then-code-eq0 c none = black_holds _ _ _ (omega arith) c.if-code-eq0.true

pub returns-else-code-eq0 : goal.returns-else-code-eq0
returns-else-code-eq0 c none =
    let code : ℕ = (c.args.word + (2 ^ 32 - c.args.black)) % 2 ^ 32 in
    let above : ℕ = (code + (2 ^ 32 - 18560)) % 2 ^ 32 in
    let both = or_none above _ none in
    lit_holds _ _ code (omega arith) above (omega (arith, both.0.small, both.1.small)) both.0.even (omega arith)
