-- The channel of a number by the fields of its pattern; every channel that a source number becomes is one. Assumes nothing.
use Rattle.std.proofs.Common.{◌≡◌, ℕ, zero, suc, ◌+◌, ◌-◌, ◌*◌, ◌^◌, ◌<◌, Bool, true, false, cond, eqb, sym, refl, ap, ◌∙◌, subst, mul-one, arith, pow_pos, eq-eqb, ne_eqb}
use Rattle.number.specs.Fractions.{Frac, ◌over◌}
use Rattle.number.specs.Storing.{unit, worth}
use Rattle.number.specs.Channels.{channel_of, IsLit, IsChannel}
use Rattle.number.specs.Sources.{
  Value,
  plus,
  minus,
  not_finite,
  channel_of_value,
  magnitude,
  field_value,
  half_value,
  single_value,
  rgbe_value,
}
use Rattle.number.specs.Claims.{LitRange, LitInRange}
use Rattle.number.specs.declared.channel.Channel.{Channel}
use Rattle.number.specs.declared.channel.Channel.TheVariants.{Black, Lit}
use Rattle.refusal.specs.declared.Refusal.TheVariants.{NotANumber}
use Rattle.number.proofs.Storing.{unit_pos}
use Rattle.number.proofs.Channels.{channel_valid, channel_code}
use Rattle.std.specs.Prelude.{Err, Ok}

-- ---- by the fields

pub subnormal : (hidden low x t : ℕ) → x ≡ 0 → magnitude hidden low x t ≡ (t * 2 ^ 0 over 2 ^ low)
subnormal hidden low x t e = ap (λ (z : ℕ). magnitude hidden low z t) e ∙ ap (λ (z : ℕ). z over 2 ^ low) (sym (mul-one t))

pub normal : (hidden low x t : ℕ) → (x ≡ 0 → ⊥) → magnitude hidden low x t ≡ ((hidden + t) * 2 ^ (x - 1) over 2 ^ low)
normal hidden low zero t f = absurd (f refl)
normal hidden low (suc x) t f = let e : x ≡ suc x - 1 = omega arith in ap (λ (z : ℕ). (hidden + t) * 2 ^ z over 2 ^ low) e

module _ (hidden ones low s x t : ℕ) where
  pub refused : x ≡ ones → channel_of_value (field_value hidden ones low s x t) ≡ Err NotANumber
  unfolding field_value channel_of_value
  refused e = simp (eq-eqb _ _ e)

  pub negative : (x ≡ ones → ⊥) → (s ≡ 0 → ⊥) → channel_of_value (field_value hidden ones low s x t) ≡ Ok Black
  unfolding field_value channel_of_value
  negative f g = simp (ne_eqb _ _ f, ne_eqb _ _ g)

  pub positive : (x ≡ ones → ⊥) → s ≡ 0 → channel_of_value (field_value hidden ones low s x t) ≡ channel_of (magnitude hidden low x t)
  unfolding field_value channel_of_value
  positive f e = simp (ne_eqb _ _ f, eq-eqb _ _ e)

-- ---- every channel is one

module _ (c : Channel) where
  Valid : Value → Type 0
  Valid v = channel_of_value v ≡ Ok c → IsChannel c

  valid_plus : (x : Frac) → 0 < x.den → Valid (plus x)
  unfolding Valid channel_of_value
  valid_plus x p h = channel_valid x p c h

  valid_minus : (x : Frac) → Valid (minus x)
  unfolding Valid channel_of_value
  valid_minus x h = let e : Black ≡ c = cc in subst IsChannel e tt

  valid_not_finite : Valid not_finite
  unfolding Valid channel_of_value
  valid_not_finite h = let z : ◌≡◌ {A = ℕ} 0 1 = cc in absurd (omega arith)

  valid_signed : (ones signed : Bool) (x : Frac) → 0 < x.den → Valid (cond ones not_finite (cond signed (plus x) (minus x)))
  valid_signed true s x p = valid_not_finite
  valid_signed false true x p = valid_plus x p
  valid_signed false false x p = valid_minus x

  magnitude_pos : (hidden low x t : ℕ) → 0 < (magnitude hidden low x t).den
  magnitude_pos hidden low zero t = pow_pos low
  magnitude_pos hidden low (suc x) t = pow_pos low

  field_valid : (hidden ones low s x t : ℕ) → channel_of_value (field_value hidden ones low s x t) ≡ Ok c → IsChannel c
  unfolding field_value Valid
  field_valid hidden ones low s x t = valid_signed (eqb x ones) (eqb s 0) (magnitude hidden low x t) (magnitude_pos hidden low x t)

  valid_worth : (b : Bool) (m e : ℕ) → Valid (plus (cond b (0 over unit) (worth e m)))
  valid_worth true m e = valid_plus (0 over unit) unit_pos
  valid_worth false m e = valid_plus (worth e m) unit_pos

  pub half_valid : (b : ℕ) → channel_of_value (half_value b) ≡ Ok c → IsChannel c
  half_valid b h = field_valid _ _ _ _ _ _ h

  pub single_valid : (b : ℕ) → channel_of_value (single_value b) ≡ Ok c → IsChannel c
  single_valid b h = field_valid _ _ _ _ _ _ h

  pub rgbe_valid : (m e : ℕ) → channel_of_value (rgbe_value m e) ≡ Ok c → IsChannel c
  unfolding rgbe_value Valid
  rgbe_valid m e = valid_worth (eqb e 0) m e

-- ---- "So lit channels have E 72 to 184."

lit_range : {E M : ℕ} → IsLit E M → LitRange E M
lit_range h = omega (arith, h)

pub lit_in_range : LitInRange
lit_in_range =
    record {
      rational = λ F p E M h. lit_range (channel_valid F p (Lit E M) h);
      rgbe = λ m e E M h. lit_range (rgbe_valid (Lit E M) m e h);
      half = λ b E M h. lit_range (half_valid (Lit E M) b h);
      single = λ b E M h. lit_range (single_valid (Lit E M) b h);
      stored = λ n E M h. lit_range (channel_code n (Lit E M) h).valid;
    }
