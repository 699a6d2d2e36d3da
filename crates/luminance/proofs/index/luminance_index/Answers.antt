-- `luminance::index::luminance_index` meets its contract. Assumes nothing.
use Rattle.std.proofs.Common.{◌≡◌, ℕ, ◌+◌, ◌-◌, ◌*◌, ◌/◌, ◌%◌, ◌^◌, ◌<◌, ◌≤◌, min, List, get_or, ◌∙◌, arith}
use Rattle.number.proofs.Laws.{IsCode}
use Rattle.luminance.specs.Pixels.{code_pixel, luminance_of}
use Rattle.luminance.specs.loops.Codes.{index_of, IsWeightTable, IsCut}
use Rattle.luminance.proofs.Indices.{pixel_index_law}
use Rattle.luminance.proofs.index.luminance_index.Goals as goal

-- the index by the first digits of the sum, where the weights of red and blue stand at r and b in their tables
near : (reds blues : List ℕ) (red green blue r b s t k : ℕ)
    → IsWeightTable 27 reds × IsWeightTable 6 blues × IsCode red × IsCode green × IsCode blue
    → (r < 48) × (r < 48 → r + green / 256 ≡ red / 256 + 24) → (b < 48) × (b < 48 → b + green / 256 ≡ blue / 256 + 24)
    → s ≡ (2 * (red % 256) + 1) * get_or reds r 0 + (2 * (green % 256) + 1) * (67 * 2 ^ 24) + (2 * (blue % 256) + 1) * get_or blues b 0
    → (red + green + blue ≡ 0 → ⊥) → IsCut s t k → (t ≡ 6400 → ⊥)
    → (93 ≤ k + green / 256)
    × (128 * (k + green / 256 - 93) + min (t / 25 - 128) (t / 25 / 2) ≡ index_of (luminance_of (code_pixel red green blue)))
near reds blues red green blue r b s t k given at_r at_b sum some cut other =
    pixel_index_law _ given.2 given.3 given.4 (at_r.0, at_r.1 at_r.0) (at_b.0, at_b.1 at_b.0)
    (rw (given.0.entry _ at_r.0, given.1.entry _ at_b.0) at sum) (λ h h' h''. some (omega arith)) cut other

pub cut_index-requires : goal.cut_index-requires
cut_index-requires c =
    omega (
      arith,
      near _ _ _ _ _ _ _ _ _ _ c.requires (c.if-r-ge48.false, c.place_of-r.ensures) (c.if-b-ge48.false, c.place_of-b.ensures)
          c.weighted_sum-sum.ensures.sum c.if-red-green-eq0.false c.cut-first.ensures (λ e. omega arith),
    )

pub returns : goal.returns
returns c =
    c.cut_index.ensures
    ∙ (near _ _ _ _ _ _ _ _ _ _ c.requires (c.if-r-ge48.false, c.place_of-r.ensures) (c.if-b-ge48.false, c.place_of-b.ensures)
    c.weighted_sum-sum.ensures.sum c.if-red-green-eq0.false c.cut-first.ensures (λ e. omega arith)).1
