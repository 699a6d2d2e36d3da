-- `number::whole::whole_to_channel` meets its contract. Assumes nothing.
use Rattle.std.proofs.Common.{◌≡◌, ℕ, ◌+◌, ◌*◌, ◌^◌, ◌≤◌, sym, ap, subst, arith}
use Rattle.number.specs.Channels.{decoded_told}
use Rattle.number.specs.Fractions.{◌over◌}
use Rattle.number.specs.Storing.{Scales}
use Rattle.number.proofs.Scaling.{rescale, whole_powers_into}
use Rattle.number.proofs.Channels.{black, black_at, bright_at, lit_at}
use Rattle.number.proofs.whole.whole_to_channel.Goals as goal

nothing : (m p q d : ℕ) → m ≡ 0 → m * p * q ≤ d
nothing m p q d e = subst (λ (z : ℕ). z * p * q ≤ d) (sym e) (omega arith)

-- with the powers of two
moved : {m s M : ℕ} (a b : ℕ) → Scales (m over 1) s 63 M → Scales (m * 2 ^ a over 2 ^ b) (b + s) (a + 63) M
moved a b t = whole_powers_into a b (rescale t (omega arith))

pub returns-then-m-eq0 : goal.returns-then-m-eq0
returns-then-m-eq0 c =
    let F = c.args.m * 2 ^ c.args.up over 2 ^ c.args.down in
    let e = sym (black F (record { cross = nothing _ _ _ _ c.if-m-eq0.true })) in
    record { answer = e; told = ap decoded_told e }

pub returns-then-high-low : goal.returns-then-high-low
returns-then-high-low c =
    let e = sym (black_at (moved c.args.up c.args.down c.shift_up-s.ensures) c.if-high-low.true) in
    record { answer = e; told = ap decoded_told e }

pub returns-then-low-high : goal.returns-then-low-high
returns-then-low-high c =
    let e = sym (bright_at (moved c.args.up c.args.down c.shift_up-s.ensures) c.if-low-high.true) in
    record { answer = e; told = ap decoded_told e }

pub returns : goal.returns
returns c =
    let e = sym (lit_at (moved c.args.up c.args.down c.shift_up-s.ensures) (omega arith) (omega arith)) in
    record { answer = e; told = ap decoded_told e }
