-- What storing promises of every rational, and where lit channels lie: claims about the definitions that contracts cite. Assumes nothing.
-- Proved as `one_exponent` (proofs/Exponents.antt), `stores_by_rule` (proofs/Storing.antt), `promised` (proofs/Scaling.antt) and
-- `lit_in_range` (proofs/Sources.antt).
use Rattle.std.specs.Prelude.{◌≡◌, ℕ, ◌*◌, ◌<◌, ◌≤◌, ℤ, pos, ◌-ℤ◌}
use Rattle.number.specs.Fractions.{Frac, two_to_minus, two_to_the, Positive, AtMost, Below}
use Rattle.number.specs.Storing.{exponent_at, Scales, scaled_worth, Stores, exponent_of, mantissa_of}
use Rattle.number.specs.Channels.{channel_of, channel_of_code}
use Rattle.number.specs.Sources.{channel_of_value, half_value, single_value, rgbe_value}
use Rattle.number.specs.declared.channel.Channel.TheVariants.{Lit}
use Rattle.std.specs.Prelude.{Ok}
use Rattle.number.specs.Channels.{Decoded}

-- ---- "E is the only whole number with 2^(E−129) < F ≤ 2^(E−128)"

pub record IsExponent (F : Frac) (E : ℤ) : Type 0 where
  pub above : Below (two_to_the (E -ℤ pos 129)) F
  pub within : AtMost F (two_to_the (E -ℤ pos 128))

-- F has an exponent and has no other. `Scales`, by which the contracts are proved, gives F that exponent and one mantissa, and no others.
pub record HasOneExponent (F : Frac) : Type 0 where
  pub E : ℤ
  pub M : ℕ
  pub is : IsExponent F E
  pub only : (E' : ℤ) → IsExponent F E' → E' ≡ E
  pub scales : (i : ℕ) × (j : ℕ) × Scales F i j M
  pub only_scales : (i j M' : ℕ) → Scales F i j M' → (exponent_at i j ≡ E) × (M' ≡ M)

abbrev pub OneExponent : Type 0
OneExponent = (F : Frac) → Positive F → HasOneExponent F

-- ---- what the contracts call stored is stored by that rule, wherever E is not negative

abbrev pub StoresByRule : Type 0
StoresByRule = (F : Frac) → 0 < F.den → Below (two_to_minus 129) F → Stores F (exponent_of F) (mantissa_of F)

-- ---- "So M is 128 to 255, and the stored worth differs from F by less than F/256."

-- s differs from x by less than x/256: 255x < 256s < 257x
pub record Near (x s : Frac) : Type 0 where
  pub low : 255 * (x.num * s.den) < 256 * (s.num * x.den)
  pub high : 256 * (s.num * x.den) < 257 * (x.num * s.den)

pub record Promised (F : Frac) (i j M : ℕ) : Type 0 where
  pub least : 128 ≤ M
  pub most : M ≤ 255
  pub near : Near F (scaled_worth i j M)

abbrev pub StoredIsNear : Type 0
StoredIsNear = (F : Frac) (i j M : ℕ) → Scales F i j M → Promised F i j M

-- ---- "So lit channels have E 72 to 184."

-- "E 72..184 with M 128..255"
pub record LitRange (E M : ℕ) : Type 0 where
  pub least : 72 ≤ E
  pub most : E ≤ 184
  pub mantissa_least : 128 ≤ M
  pub mantissa_most : M ≤ 255

-- where d holds a lit channel, it lies there
abbrev pub HoldsInRange : Decoded → Type 0
HoldsInRange d = (E M : ℕ) → d ≡ Ok (Lit E M) → LitRange E M

-- whatever source it comes from
pub record EverySource (Claim : Decoded → Type 0) : Type 0 where
  pub rational : (F : Frac) → 0 < F.den → Claim (channel_of F)
  pub rgbe : (m e : ℕ) → Claim (channel_of_value (rgbe_value m e))
  pub half : (b : ℕ) → Claim (channel_of_value (half_value b))
  pub single : (b : ℕ) → Claim (channel_of_value (single_value b))
  pub stored : (n : ℕ) → Claim (channel_of_code n)

abbrev pub LitInRange : Type 0
LitInRange = EverySource HoldsInRange
