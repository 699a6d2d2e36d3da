-- The factors of luminances under a tone, and the levels by them. Assumes nothing.
use Rattle.std.proofs.Common.{◌≡◌, ℕ, ◌*◌, ◌^◌, ◌<◌, ◌≢◌, List, get_or, set, replicate, sym, refl, ◌∙◌, ⊎_elim, eq-zero-or-pos, arith, lit<, length-set, get_or-set_other, get_or-set_same, ne_eqb}
use native.Mathlib.Decide.{ℕ_discrete}
use lib.ListN.{length-replicate, get_or-replicate}
use Rattle.number.specs.declared.channel.Pixel.{Pixel}
use Rattle.number.specs.declared.ratio.Stored.{Stored}
use Rattle.luminance.specs.loops.Codes.{index_of, index_count, stored_at}
use Rattle.luminance.specs.Pixels.{IsPixel, luminance_of, Luminance}
use Rattle.tone.specs.declared.tone.Tone.{Tone}
use Rattle.tone.specs.Levels.{IsTone, display_under}
use Rattle.tone.specs.loops.Factors.{factor_of}
use Rattle.body.specs.declared.levels.WideLevels.{WideLevels}
use Rattle.body.specs.Levels.{level_in, by_channel, levels_of}
use Rattle.body.specs.loops.Indices.{IsIndex, pixel_index}
use Rattle.body.specs.loops.FactorTables.{unlit_factor, factor_under, IsFactorTable, limited, LevelsBy}
use Rattle.luminance.proofs.Laws.{luminance_range, index_stored, index_range}
use Rattle.tone.proofs.Laws.{factor_most, display_mantissa}
use Rattle.body.proofs.Indices.{is_luminance}
use Rattle.std.specs.Prelude.{None, Some}

-- ---- the table

module _ (t : Tone) where
  factor_unlit : factor_under t 0 ≡ unlit_factor
  unfolding factor_under
  factor_unlit = refl

  pub factor_lit : {i : ℕ} → (i ≡ 0 → ⊥) → factor_under t i ≡ factor_of (display_under t (stored_at i)) (stored_at i)
  unfolding factor_under
  factor_lit {i} lit = rw (ne_eqb i 0 lit)

  -- the factor of any index is small enough for its levels
  pub factor_range : IsTone t → (i : ℕ) → IsIndex i → factor_under t i < 374 * 2 ^ 40
  factor_range tone i h = ⊎_elim none some (eq-zero-or-pos i)
    where
      none : i ≡ 0 → factor_under t i < 374 * 2 ^ 40
      none e = rw (e, factor_unlit) (lit< tt)

      some : 0 < i → factor_under t i < 374 * 2 ^ 40
      some lit =
          let e : i ≡ 0 → ⊥ = λ z. omega arith in
          let y = is_luminance e h in
          rw (factor_lit e) (factor_most _ _ (display_mantissa t _ tone y) y.mantissa)

  module _ (factors : List ℕ) (table : IsFactorTable t factors) (i : ℕ) (inside : i < index_count) where
    -- an entry that is not 0 is right
    pub kept : (get_or factors i 0 ≡ 0 → ⊥) → get_or factors i 0 ≡ factor_under t i
    kept some = table.entry i inside some

    -- an entry that is 0 is not that of the unlit pixels
    pub not_unlit : get_or factors i 0 ≡ 0 → i ≡ 0 → ⊥
    not_unlit none e = let z : ◌≡◌ {A = ℕ} 0 (2 ^ 40) = sym none ∙ rw e table.unlit in omega arith

    -- a right entry more
    pub with_entry : {v : ℕ} → (i ≡ 0 → ⊥) → v ≡ factor_under t i → IsFactorTable t (set factors i v)
    with_entry {v} lit e =
        record {
          long = rw length-set table.long;
          unlit = get_or-set_other factors i 0 v 0 (λ z. lit (sym z)) ∙ table.unlit;
          entry = λ j h. go j h (ℕ_discrete j i);
        }
      where
        go : (j : ℕ) → j < index_count → Dec (j ≡ i) → get_or (set factors i v) j 0 ≢ 0 → get_or (set factors i v) j 0 ≡ factor_under t j
        go j h (yes q) some = rw q (get_or-set_same factors i v 0 (rw table.long inside) ∙ e)
        go j h (no q) some =
            let other = get_or-set_other factors i j v 0 q in
            other ∙ table.entry j h (λ z. some (other ∙ z))

-- at first there are none
pub no_factors : (n : ℕ) → n ≡ index_count → (t : Tone) → IsFactorTable t (set (replicate n 0) 0 unlit_factor)
no_factors n long t =
    record {
      long = rw (length-set, length-replicate) long;
      unlit = first;
      entry = λ i h some. ⊎_elim (λ e. rw e (first ∙ sym (factor_unlit t))) (λ e. absurd (some (behind i h e))) (eq-zero-or-pos i);
    }
  where
    first : get_or (set (replicate n 0) 0 unlit_factor) 0 0 ≡ unlit_factor
    first = get_or-set_same (replicate n 0) 0 unlit_factor 0 (rw length-replicate (omega arith))

    behind : (i : ℕ) → i < index_count → 0 < i → get_or (set (replicate n 0) 0 unlit_factor) i 0 ≡ 0
    behind i h some = get_or-set_other (replicate n 0) 0 i unlit_factor 0 (λ e. omega arith) ∙ get_or-replicate n i 0 0 (omega arith)

-- ---- the levels of a pixel by the factor of its luminance

module _ (t : Tone) (tone : IsTone t) (p : Pixel) (valid : IsPixel p) where
  pub levels_by : {factor : ℕ} {w : WideLevels} → factor ≡ factor_under t (pixel_index p) → LevelsBy factor p w → limited w ≡ levels_of t p
  levels_by {factor} {w} e by = go (luminance_of p) refl
    where
      go : (y : Luminance) → luminance_of p ≡ y → limited w ≡ by_channel (level_in y t) p
      go None told =
          let f : factor ≡ unlit_factor = e ∙ rw told (factor_unlit t) in
          by.unlit (rw f refl)
      go (Some y) told =
          let range = luminance_range p valid y told in
          let lit : index_of (Some y) ≡ 0 → ⊥ = λ z. omega (arith, (index_range y range).0) in
          let at : (z : Stored) → z ≡ y → factor_of (display_under t z) z ≡ factor_of (display_under t y) y = λ z q. rw q in
          let f : factor ≡ factor_of (display_under t y) y = e ∙ rw told (factor_lit t lit ∙ at _ (index_stored y range)) in
          by.lit (display_under t y) y (display_mantissa t y tone range) range.mantissa f
