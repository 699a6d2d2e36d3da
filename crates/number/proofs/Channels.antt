-- Laws of channels: what a number becomes, and the 16-bit form. Assumes nothing.
use Rattle.std.proofs.Common.{◌≡◌, ℕ, ◌+◌, ◌-◌, ◌*◌, ◌/◌, ◌%◌, ◌^◌, ◌<◌, ◌≤◌, Bool, true, false, cond, ◌&&◌, eqb, leb, ◌↔◌, sym, refl, ap, ◌∙◌, subst, mul-pos, lt_of_not-le, arith, lit≤, pow_pos, ne_eqb, eqb-true, le-leb, leb-true}
use native.Mathlib.Decide.{dec_le}
use Rattle.number.specs.Fractions.{Frac, two_to_minus, two_to, AtMost, Below}
use Rattle.number.specs.Storing.{least_mantissa, unit, Scales, Stores, exponent_of, mantissa_of, stored_of}
use Rattle.number.specs.Channels.{
  black_power,
  bright_power,
  channel_of,
  least_exponent,
  greatest_exponent,
  IsLit,
  IsChannel,
  worth_of,
  code_of,
  channel_of_code,
  channel_in,
  code_channel,
  Coded,
}
use Rattle.number.specs.declared.channel.Channel.{Channel}
use Rattle.number.specs.declared.channel.Channel.TheVariants.{Black, Lit}
use Rattle.number.specs.declared.ratio.Stored.{Stored}
use Rattle.refusal.specs.declared.Refusal.{Refusal}
use Rattle.refusal.specs.declared.Refusal.TheVariants.{TooBright, InvalidChannel}
use Rattle.number.proofs.Scaling.{denominator_pos, rescale, above_down, at_most_up, is_mantissa}
use Rattle.number.proofs.Storing.{unit_pos, stored_as, stored, code_order}
use Rattle.number.proofs.Ranges.{small, within, large, small_at, within_at, large_at}
use Rattle.std.specs.Prelude.{Err, Ok}
use Rattle.number.specs.Channels.{Decoded}

-- ---- what F becomes

pub black : (F : Frac) → AtMost F (two_to_minus black_power) → channel_of F ≡ Ok Black
unfolding channel_of
black F h = small _ _ F _ _ _ h

lit : (F : Frac) → Below (two_to_minus black_power) F → AtMost F (two_to bright_power) → channel_of F ≡ Ok (Lit (exponent_of F) (mantissa_of F))
unfolding channel_of
lit F g h = within _ _ F _ _ _ g h

-- by the exponent that scales F
module _ {F : Frac} {i j M : ℕ} (s : Scales F i j M) where
  pub black_at : j + 128 < i + least_exponent → channel_of F ≡ Ok Black
  unfolding channel_of
  black_at h = small_at _ _ _ _ _ _ s (omega arith)

  pub lit_at : i + least_exponent ≤ j + 128 → j + 128 ≤ i + greatest_exponent → channel_of F ≡ Ok (Lit (j + 128 - i) M)
  unfolding channel_of
  lit_at g h =
      let stores : stored_of F ≡ record { exponent = j + 128 - i; mantissa = M } =
      stored_as (rescale s (omega arith)) (record { cross = refl }) (denominator_pos s) in
      within_at _ _ _ _ _ _ s (omega arith) (omega arith) ∙ ap (λ (r : Stored). Ok (Lit r.exponent r.mantissa)) stores

  pub bright_at : i + greatest_exponent < j + 128 → channel_of F ≡ Err TooBright
  unfolding channel_of
  bright_at h = large_at _ _ _ _ _ _ s (omega arith)

-- what holds a channel holds the one that is in it
pub held : {d : Decoded} {c : Channel} → d ≡ Ok c → d ≡ Ok (channel_in d)
held e = e ∙ ap (λ x. Ok (channel_in x)) (sym e)

-- what is at most 2^56 is not refused
pub not_bright : (F : Frac) → AtMost F (two_to bright_power) → channel_of F ≡ Ok (channel_in (channel_of F))
not_bright F h = go (dec_le (F.num * 2 ^ black_power) (1 * F.den))
  where
    go : Dec (F.num * 2 ^ black_power ≤ 1 * F.den) → channel_of F ≡ Ok (channel_in (channel_of F))
    go (yes a) = held (black F (record { cross = a }))
    go (no a) = held (lit F (record { cross = lt_of_not-le a }) h)

-- "So lit channels have E 72 to 184."
lit_valid : {F : Frac} {E M : ℕ} → Stores F E M → Below (two_to_minus black_power) F → AtMost F (two_to bright_power) → IsLit E M
lit_valid s a b =
    record {
      least = omega (arith, (above_down s black_power).1 a);
      most = (at_most_up s bright_power).1 b;
      mantissa = is_mantissa s;
    }

-- every channel that a number becomes is one
pub channel_valid : (F : Frac) → 0 < F.den → (c : Channel) → channel_of F ≡ Ok c → IsChannel c
unfolding channel_of
channel_valid F p c h = go (dec_le (F.num * 2 ^ black_power) (1 * F.den)) (dec_le (F.num * 1) (2 ^ bright_power * F.den))
  where
    go : Dec (F.num * 2 ^ black_power ≤ 1 * F.den) → Dec (F.num * 1 ≤ 2 ^ bright_power * F.den) → IsChannel c
    go (yes a) b =
        let q : channel_of F ≡ Ok Black = black F (record { cross = a }) in
        let e : Black ≡ c = cc in
        subst IsChannel e tt
    go (no a) (yes b) =
        let low : Below (two_to_minus black_power) F = record { cross = lt_of_not-le a } in
        let high : AtMost F (two_to bright_power) = record { cross = b } in
        let q : channel_of F ≡ Ok (Lit (exponent_of F) (mantissa_of F)) = lit F low high in
        let e : Lit (exponent_of F) (mantissa_of F) ≡ c = cc in
        subst IsChannel e (lit_valid (stored F black_power (lit≤ tt) p low) low high)
    go (no a) (no b) =
        let q : channel_of F ≡ Err TooBright = large _ _ F _ _ _ (record { cross = lt_of_not-le b }) in
        let z : ◌≡◌ {A = ℕ} 0 1 = cc in
        absurd (omega arith)

-- ---- the 16-bit form and the channel determine each other

pub code_channel_law : (c : Channel) → IsChannel c → channel_of_code (code_of c) ≡ Ok c
unfolding channel_of_code
code_channel_law Black t = refl
code_channel_law (Lit E M) t =
    let high : (256 * E + M) / 256 ≡ E = omega arith in
    let low : (256 * E + M) % 256 ≡ M = omega arith in
    simp (
      ne_eqb (256 * E + M) 0 (λ e. omega arith),
      high,
      low,
      le-leb least_exponent E t.least,
      le-leb E greatest_exponent t.most,
      le-leb least_mantissa M t.mantissa.least,
    )

-- what is refused is so by 8 alone
pub code_refused : (n : ℕ) (r : Refusal) → channel_of_code n ≡ Err r → r ≡ InvalidChannel
unfolding channel_of_code
code_refused n r h = go (eqb n 0) (leb least_exponent (n / 256) && leb (n / 256) greatest_exponent && leb least_mantissa (n % 256)) h
  where
    go : (z b : Bool) → cond z (Ok Black) (cond b (Ok (Lit (n / 256) (n % 256))) (Err InvalidChannel)) ≡ Err r
        → r ≡ InvalidChannel
    go true b q = cc
    go false true q = cc
    go false false q = cc

pub channel_code : (n : ℕ) (c : Channel) → channel_of_code n ≡ Ok c → Coded n c
unfolding channel_of_code
channel_code n c h = go (eqb n 0) (leb least_exponent E) (leb E greatest_exponent) (leb least_mantissa M) refl refl refl refl h
  where
    E : ℕ
    E = n / 256

    M : ℕ
    M = n % 256

    go : (z a b d : Bool) → eqb n 0 ≡ z → leb least_exponent E ≡ a → leb E greatest_exponent ≡ b → leb least_mantissa M ≡ d
        → cond z (Ok Black) (cond (a && b && d) (Ok (Lit E M)) (Err InvalidChannel)) ≡ Ok c → Coded n c
    go true a b d z₁ a₁ b₁ d₁ q =
        let e : Black ≡ c = cc in subst (Coded n) e (record { code = sym (eqb-true n 0 z₁); valid = tt })
    go false true true true z₁ a₁ b₁ d₁ q =
        let e : Lit E M ≡ c = cc in
        subst (Coded n) e
        (record {
          code = omega arith;
          valid = record {
            least = leb-true _ _ a₁;
            most = leb-true _ _ b₁;
            mantissa = record { least = leb-true _ _ d₁; most = omega arith };
          };
        })
    go false true true false z₁ a₁ b₁ d₁ q = let z : ◌≡◌ {A = ℕ} 0 1 = cc in absurd (omega arith)
    go false true false d z₁ a₁ b₁ d₁ q = let z : ◌≡◌ {A = ℕ} 0 1 = cc in absurd (omega arith)
    go false false b d z₁ a₁ b₁ d₁ q = let z : ◌≡◌ {A = ℕ} 0 1 = cc in absurd (omega arith)

-- what any number becomes is a channel
pub code_valid : (n : ℕ) → IsChannel (code_channel n)
code_valid n = by (channel_of_code n) refl
  where
    by : (d : Decoded) → channel_of_code n ≡ d → IsChannel (channel_in d)
    by (Ok c) e = (channel_code n c e).valid
    by (Err r) e = tt

-- the order of the 16-bit forms is that of the worths
pub channel_order : (c c' : Channel) → IsChannel c → IsChannel c' → (code_of c < code_of c') ↔ Below (worth_of c) (worth_of c')
channel_order Black Black t t' = (λ h. absurd (omega arith), λ h. absurd (omega (arith, h.cross)))
channel_order Black (Lit E M) t t' =
    let positive : 0 < (2 * M + 1) * 2 ^ E * unit = mul-pos (mul-pos (omega arith) (pow_pos E)) unit_pos in
    (λ h. record { cross = omega arith }, λ h. omega (arith, t'.mantissa.least))
channel_order (Lit E M) Black t t' = (λ h. absurd (omega arith), λ h. absurd (omega (arith, h.cross)))
channel_order (Lit E M) (Lit E' M') t t' = code_order E M E' M' t.mantissa t'.mantissa
