-- Channels as they stand in a row of elements or words, and the first that is refused. Assumes nothing.
use Rattle.std.specs.Prelude.{ℕ, suc, ◌+◌, List, [], ◌∷◌, map}
use Rattle.number.specs.declared.channel.Channel.{Channel}
use Rattle.number.specs.Channels.{channel_in}
use Rattle.refusal.specs.Verdicts.{and_then}
use Rattle.std.specs.Prelude.{Err, Ok}
use Rattle.refusal.specs.Faults.{◌found_at◌}
use Rattle.number.specs.Channels.{Decoded}
use Rattle.refusal.specs.Verdicts.{Verdict, accepted}

-- what an element or word decodes to, and the index that its refusal names
pub record Placed : Type 0 where
  pub index : ℕ
  pub decoded : Decoded

-- A row with one element a channel, the first of which is channel k: f k x is what an element x decodes to as channel k. Channel 0 has
-- the index `start`.
abbrev pub placed : (f : ℕ → ℕ → Decoded) (start k : ℕ) → List ℕ → List Placed
placed f start k [] = []
placed f start k (x ∷ xs) = record { index = start + k; decoded = f k x } ∷ placed f start (suc k) xs

abbrev pub verdict_at : (i : ℕ) → Decoded → Verdict
verdict_at i (Ok c) = accepted
verdict_at i (Err r) = Err (r found_at i)

-- "elements in order", "words in order": the first that is refused decides
abbrev pub first_refusal : List Placed → Verdict
first_refusal [] = accepted
first_refusal (p ∷ ps) = and_then (verdict_at p.index p.decoded) (first_refusal ps)

abbrev pub decoded_of : List Placed → List Decoded
decoded_of ps = map (λ (p : Placed). p.decoded) ps

-- the channels of a row in which none is refused
abbrev pub channels_of : List Placed → List Channel
channels_of ps = map (λ (p : Placed). channel_in p.decoded) ps
