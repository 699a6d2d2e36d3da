-- A block of which no index is worked out. Assumes nothing.
use Rattle.std.proofs.Common.{ℕ, ◌%◌, List, replicate, ap}
use lib.ListN.{length-replicate, get_or-replicate}
use Rattle.body.specs.loops.NearBlocks.{NearIndices}

-- nothing is worked out
pub none_near : (ws : List ℕ) → NearIndices ws (replicate 16 0)
none_near ws =
    record {
      long = length-replicate {A = ℕ} 16 0;
      near = λ j h. record { right = λ r g b other. absurd (other (ap (λ i. i % 128) (get_or-replicate 16 j 0 0 h))) };
    }
