-- `body::tally::Tables::index_part` meets its contract: at each turn the sums and the indices are those of the pixels so far. Assumes nothing.
use Rattle.std.proofs.Common.{◌≡◌, ℕ, ◌+◌, ◌*◌, ◌%◌, ◌<◌, ◌⊎◌, ◌==◌, Bool, true, false, cond, List, length, get_or, set, replicate, sym, refl, ap, ◌∙◌, ap₂, inl, inr, arith, ne_eqb}
use lib.Seq.{sets, length-sets}
use Rattle.std.specs.Int.{from_bool}
use Rattle.word.specs.loops.Walks.{pixel_at}
use Rattle.luminance.specs.loops.Codes.{index_count}
use Rattle.body.specs.loops.Indices.{pixel_index, index_bytes}
use Rattle.body.specs.loops.NearBlocks.{NearIndices}
use Rattle.body.specs.loops.Tallying.{steps_at, unlit_at}
use Rattle.body.proofs.Indices.{pixel_codes, is_index}
use Rattle.body.proofs.Luminances.{pixel_valid}
use Rattle.body.proofs.NearBlocks.{none_near}
use Rattle.body.proofs.Walks.{summing, noted, summing_none, noted_none, indexed_none}
use Rattle.body.proofs.Walks.{noted_at, summing_next, noted_next, noted_same, indexed_next}
use Rattle.body.proofs.Walks.{summing_all, noted_all, indexed_all, summing_most}
use Rattle.body.proofs.tally.Tables.index_part.Goals as goal
use Rattle.body.proofs.tally.Tables.index_part.Goals.{Joined-words, After-luminance_index-index, Joined-index-eq0, After-raised_steps-raised}
use Rattle.body.proofs.tally.Tables.index_part.Goals.{else-all-output, else-index-eq0, else-words, then-all-output, then-index-eq0, then-words}

-- the near indices, where they are worked out
near : (c : Joined-words) → NearIndices c.args.words.now c.if-words.indices
near c =
    elim c.if-words.branch [
      | then-words w ↦ rw w.indices-is w.near_indices.ensures
      | else-words w ↦ rw (w.indices-is, c.requires.3) (none_near _)
    ]

from : (c : Joined-words) → (length c.args.words.now ≡ 48) ⊎ (c.if-words.indices ≡ replicate 16 0)
from c = elim c.if-words.branch [ then-words w ↦ inl w.if-words.true | else-words w ↦ inr (w.indices-is ∙ c.requires.3) ]

pub loop-p-init : goal.loop-p-init
loop-p-init c = (refl, λ fits. indexed_none _ _ _, noted_none _ _, summing_none unlit_at _, summing_none steps_at _)

-- the index that is worked out is that of the pixel
own : (c : After-luminance_index-index) → c.luminance_index-index.result ≡ pixel_index (pixel_at c.args.words.now c.loop-p.p)
own c =
    rw (c.low_half.ensures, c.low_half-then-index-eq0.ensures, c.low_half-then-index-eq0-2.ensures) at c.luminance_index-index.ensures

pub overflow_cast-indices : goal.overflow_cast-indices
overflow_cast-indices c =
    let range : c.luminance_index-index.result < index_count =
    rw (own (goal.at.overflow_cast-indices c).After-luminance_index-index) (is_index _ (pixel_valid _ _ _)).small in
    record { fits = omega (arith, range) }

-- 1 at index 0
from_unlit : (i : ℕ) → from_bool (i == 0) ≡ unlit_at i
from_unlit i = by (i == 0)
  where
    by : (b : Bool) → from_bool b ≡ cond b 1 0
    by true = refl
    by false = refl

pub overflow_add-unlit : goal.overflow_add-unlit
overflow_add-unlit c =
    let l = c.loop-p in
    let inside = c.loop-p-test.true in
    let most = (summing_most c.args.words.now (l.p + 1) (omega (arith, inside))).0 in
    let next =
    ap₂ (λ (a b : ℕ). a + b) l.invariant.3 (c.from-unlit.ensures ∙ from_unlit _)
    ∙ summing_next c.args.words.now l.p inside (own (goal.at.overflow_add-unlit c).After-luminance_index-index) unlit_at in
    rw next (record { fits = omega (arith, c.requires.1, inside, most) })

-- what is settled of pixel p: its index, the indices of the block, and how many pixels are unlit
record Settled (ws near : List ℕ) (p i u : ℕ) (is : List ℕ) : Type 0 where
  pub index : i ≡ pixel_index (pixel_at ws p)
  pub indices : is ≡ noted near ws (p + 1)
  pub unlit : u ≡ summing unlit_at ws (p + 1)

settled : (c : Joined-index-eq0) → NearIndices c.args.words.now c.if-words.indices
    → Settled c.args.words.now c.if-words.indices c.loop-p.p c.if-index-eq0.index c.if-index-eq0.unlit c.if-index-eq0.indices
settled c n =
    let l = c.loop-p in
    let inv = l.invariant in
    let inside = c.loop-p-test.true in
    let ws = c.args.words.now in
    elim c.if-index-eq0.branch [
      | then-index-eq0 w ↦
          let x = w.luminance_index-index.result in
          let index : x ≡ pixel_index (pixel_at ws l.p) =
          rw (w.low_half.ensures, w.low_half-then-index-eq0.ensures, w.low_half-then-index-eq0-2.ensures) at w.luminance_index-index.ensures in
          record {
            index = w.index-is ∙ index;
            indices = w.indices-is ∙ ap (λ r. set r l.p x) inv.2 ∙ noted_next ws l.p inside index _;
            unlit =
                w.unlit-is ∙ ap₂ (λ (a b : ℕ). a + b) inv.3 (w.from-unlit.ensures ∙ from_unlit x) ∙ summing_next ws l.p inside index unlit_at;
          }
      | else-index-eq0 w ↦
          let k = pixel_codes ws c.requires.0 l.p inside in
          let x = get_or l.indices l.p 0 in
          let here : x ≡ get_or c.if-words.indices l.p 0 =
          ap (λ r. get_or r l.p 0) inv.2 ∙ noted_at ws l.p inside _ n.long c.requires.1 in
          let index : x ≡ pixel_index (pixel_at ws l.p) =
          here
          ∙ (n.near l.p (omega (arith, inside, c.requires.1))).right k.0 k.1 k.2 (λ e. w.if-index-eq0.false (ap (λ i. i % 128) here ∙ e)) in
          let lit : unlit_at x ≡ 0 = rw (ne_eqb x 0 (λ e. w.if-index-eq0.false (ap (λ i. i % 128) e))) in
          record {
            index = w.index-is ∙ index;
            indices = w.indices-is ∙ inv.2 ∙ noted_same ws l.p inside index _ (ap (λ r. get_or r l.p 0) (sym inv.2));
            unlit = w.unlit-is ∙ inv.3 ∙ omega (arith, lit, summing_next ws l.p inside index unlit_at);
          }
    ]

pub store_index-requires : goal.store_index-requires
store_index-requires c =
    let at = goal.at.store_index-requires c in
    let done = settled at.Joined-index-eq0 (near at.Joined-words) in
    (rw done.index (is_index _ (pixel_valid _ _ _)).small, omega arith)

-- the raised steps with those of pixel p
more : (c : After-raised_steps-raised) → c.if-index-eq0.index ≡ pixel_index (pixel_at c.args.words.now c.loop-p.p)
    → c.loop-p.raised + c.raised_steps-raised.result ≡ summing steps_at c.args.words.now (c.loop-p.p + 1)
more c index =
    let steps : c.raised_steps-raised.result ≡ steps_at c.if-index-eq0.index = rw c.stored_at.ensures at c.raised_steps-raised.ensures in
    ap₂ (λ (a b : ℕ). a + b) c.loop-p.invariant.4 steps ∙ summing_next _ _ c.loop-p-test.true index steps_at

pub overflow_add-raised : goal.overflow_add-raised
overflow_add-raised c =
    let at = goal.at.overflow_add-raised c in
    let inside = c.loop-p-test.true in
    let most = (summing_most c.args.words.now (c.loop-p.p + 1) (omega (arith, inside))).1 in
    rw (more at.After-raised_steps-raised (settled at.Joined-index-eq0 (near at.Joined-words)).index)
    (record { fits = omega (arith, c.requires.1, inside, most) })

pub loop-p-preserved : goal.loop-p-preserved
loop-p-preserved c =
    let l = c.loop-p in
    let inv = l.invariant in
    let inside = c.loop-p-test.true in
    let x = c.if-index-eq0.index in
    let at = goal.at.loop-p-preserved c in
    let done = settled at.Joined-index-eq0 (near at.Joined-words) in
    let raised = more at.After-raised_steps-raised done.index in
    elim c.if-all-output.branch [
      | then-all-output w ↦
          let stored = w.output-is ∙ w.store_index.ensures in (
            rw stored (length-sets l.output (c.args.at + 3 * l.p) (index_bytes x) ∙ inv.0),
            λ fits.
                stored ∙ ap (λ u. sets u (c.args.at + 3 * l.p) (index_bytes x)) (inv.1 fits) ∙ indexed_next _ _ inside done.index _ _,
            done.indices,
            done.unlit,
            raised,
          )
      | else-all-output w ↦
          (rw w.output-is inv.0, λ fits. absurd (omega (arith, w.if-all-output.false, inv.0, fits)), done.indices, done.unlit, raised)
    ]

pub returns-clause-sums : goal.returns-clause-sums
returns-clause-sums c =
    let l = c.loop-p in
    let ws = c.args.words.now in
    let done = c.loop-p-test.false in
    ap₂ (λ (u r : ℕ). record { unlit = u; raised = r }) (l.invariant.3 ∙ summing_all ws l.p done unlit_at)
    (l.invariant.4 ∙ summing_all ws l.p done steps_at)

pub returns-clause-indices : goal.returns-clause-indices
returns-clause-indices c =
    let joined = (goal.at.returns-clause-indices c).Joined-words in
    c.loop-p.invariant.2 ∙ noted_all c.args.words.now c.loop-p.p c.loop-p-test.false _ (near joined).long c.requires.1 (from joined)

pub returns-clause-content : goal.returns-clause-content
returns-clause-content c =
    (c.loop-p.invariant.0, λ fits. c.loop-p.invariant.1 fits ∙ indexed_all _ _ c.loop-p-test.false _ _)
