-- Walks over accepted bands: what the bands that were passed come to. Assumes nothing.
use Prim.Native.Nat.{ℕ, ◌+◌, ◌-◌, ◌*◌, ◌≤◌, min}
use mathlib.Core.Path.{◌≡◌, refl, sym, ap, ◌∙◌}
use mathlib.Core.List.{List, [], ◌∷◌, ◌++◌, append_assoc, append-nil, flat_map}
use native.Mathlib.Omega.{arith}
use lib.ListN.{length, length-append}
use Rattle.number.specs.declared.channel.Pixel.{Pixel}
use Rattle.number.proofs.Laws.{Every, every_append}
use Rattle.refusal.specs.Output.{onto}
use Rattle.word.specs.Words.{pixels}
use Rattle.word.specs.Pixels.{word_pixels}
use Rattle.strip.specs.Checks.{header_fields, body_part}
use Rattle.strip.specs.Reading.{strip_pixels}
use Rattle.strip.proofs.Limits.{Whole, length_body}
use Rattle.strip.proofs.RoundTrip.{count_pixels}
use Rattle.strip.proofs.Bodies.{pixels_in}
use Rattle.luminance.specs.Pixels.{IsPixel}
use Rattle.average.specs.declared.tally.Tally.{Tally}
use Rattle.average.specs.Tallies.{tally_of, join}
use Rattle.average.specs.loops.Sums.{IsTally}
use Rattle.average.proofs.Laws.{is_tally}
use Rattle.body.specs.Luminances.{luminances_of, lit_count}
use Rattle.tone.specs.declared.tone.Tone.{Tone}
use Rattle.body.specs.Levels.{levels_under}
use Rattle.body.specs.loops.Indices.{IsBody, indices_of}
use Rattle.body.proofs.Laws.{lit_count_law, lit_append, luminances_few, every_luminance, tally_join}
use Rattle.page.proofs.Laws.{strip_body, strip_valid}
use Rattle.series.specs.Series.{Standing, series_of}
use Rattle.bands.specs.Joining.{join_tallies}
use Rattle.bands.specs.loops.Walks.{joined_pixels}
use Rattle.bands.specs.Checks.{tall_header}
use Rattle.bands.proofs.Accepted.{IsBand, AreBands, tallies_of}
use Rattle.bands.proofs.Tall.{count_all, few_pixels}

-- ---- where a walk stands: `left` are the bands that are left, `passed` the pixels of those that were passed

pub record Walked (r : List ℕ) (left : List Standing) (passed : List Pixel) : Type 0 where
  pub bands : Every (IsBand (header_fields r)) left
  pub valid : Every IsPixel passed
  pub all : passed ++ joined_pixels left ≡ joined_pixels (series_of r)

module _ (r : List ℕ) (ok : AreBands r) where
  pub walked_none : {left : List Standing} → left ≡ series_of r → Walked r left []
  walked_none n = rw n (record { bands = ok.each; valid = tt; all = refl })

  module _ {left : List Standing} {ps : List Pixel} (w : Walked r left ps) where
    -- no more pixels than the page has
    pub few_passed : length ps ≤ 16777216
    few_passed =
        let few = few_pixels r ok in
        let all = length-append ps (joined_pixels left) in
        omega (arith, ap length w.all)

    pub walked_all : left ≡ [] → ps ≡ joined_pixels (series_of r)
    unfolding flat_map
    walked_all n = sym (append-nil ps) ∙ (rw n at w.all)

    -- the next band, and its words
    module _ {b : Standing} {bs : List Standing} (n : left ≡ b ∷ bs) {words : List ℕ} (f : words ≡ body_part b.strip) where
      whole : Whole b.strip
      whole = (rw n at w.bands).0.whole

      pub words_body : IsBody words
      words_body = rw f (strip_body b.strip whole)

      words_pixels : word_pixels words ≡ strip_pixels b.strip
      words_pixels = rw f (sym (pixels_in b.strip whole.channels))

      words_valid : Every IsPixel (word_pixels words)
      words_valid = rw words_pixels (strip_valid b.strip whole)

      pub walked_next : Walked r bs (ps ++ word_pixels words)
      unfolding flat_map
      walked_next =
          record {
            bands = (rw n at w.bands).1;
            valid = every_append IsPixel ps (word_pixels words) w.valid words_valid;
            all = append_assoc ps (word_pixels words) (joined_pixels bs) ∙ rw words_pixels (rw n at w.all);
          }

      -- three words a pixel; the bytes of all pixels so far are not more than the page's
      words_three : length words ≡ 3 * length (word_pixels words)
      words_three =
          let n = length_body b.strip whole.head in
          let m = count_pixels b.strip whole in
          rw (words_pixels, f) (omega arith)

      words_room : 3 * length ps + 3 * length (word_pixels words) ≤ 3 * length (joined_pixels (series_of r))
      words_room =
          let all = ap length walked_next.all in
          let front = length-append (ps ++ word_pixels words) (joined_pixels bs) in
          let long = length-append ps (word_pixels words) in
          omega arith

      module _ {done : ℕ} (at : done ≡ 3 * length ps) where
        pub words_next : done + length words ≡ 3 * length (ps ++ word_pixels words)
        words_next = omega (arith, words_three, length-append ps (word_pixels words))

        pub words_within : {n : ℕ} → 3 * length (joined_pixels (series_of r)) ≤ n → done + length words ≤ n
        words_within fits = omega (arith, words_three, words_room, at, fits)

        pub words_fit : {n : ℕ} → 3 * pixels (tall_header r) ≤ n → done + length words ≤ n
        words_fit fits = words_within (rw (count_all r ok) fits)

        pub words_few : done + length words ≤ 50331648
        words_few = words_within (omega (arith, few_pixels r ok))

-- ---- their tallies joined

pixels_tally : (ps : List Pixel) → Every IsPixel ps → length ps ≤ 16777216 → IsTally (tally_of (luminances_of ps))
pixels_tally ps valid few =
    let n = luminances_few ps in is_tally (luminances_of ps) (every_luminance ps valid) (omega arith)

module _
    (r : List ℕ)
    (ok : AreBands r)
    {left : List Standing}
    {ps : List Pixel}
    (w : Walked r left ps)
    {t : Tally}
    (tally : t ≡ tally_of (luminances_of ps))
    {b : Standing}
    {bs : List Standing}
    (n : left ≡ b ∷ bs)
    {words : List ℕ}
    (f : words ≡ body_part b.strip)
    {u : Tally}
    (g : u ≡ tally_of (luminances_of (word_pixels words))) where
  pub both_tallies : IsTally t × IsTally u
  both_tallies =
      let few = few_passed r ok (walked_next r ok w n f) in
      let long = length-append ps (word_pixels words) in (
        rw tally (pixels_tally ps w.valid (few_passed r ok w)),
        rw g (pixels_tally (word_pixels words) (words_valid r ok w n f) (omega (arith, few, long))),
      )

  pub tally_next : {v : Tally} → v ≡ join t u → v ≡ tally_of (luminances_of (ps ++ word_pixels words))
  tally_next h = h ∙ rw (tally, g) (sym (tally_join ps (word_pixels words)))

pub tally_all : (r : List ℕ) → AreBands r → {left : List Standing} {ps : List Pixel} {t : Tally} → Walked r left ps
    → t ≡ tally_of (luminances_of ps) → left ≡ [] → t ≡ join_tallies (series_of r)
tally_all r ok w tally n = tally ∙ ap (λ ps. tally_of (luminances_of ps)) (walked_all r ok w n) ∙ sym (tallies_of (series_of r))

-- ---- the walks

-- tallied
pub record Tallied (r : List ℕ) (t : Tally) (left : List Standing) : Type 0 where
  pub passed : List Pixel
  pub walk : Walked r left passed
  pub tally : t ≡ tally_of (luminances_of passed)

-- tallied, with the indices of their luminances in the output's front
pub record Kept (r old : List ℕ) (output : List ℕ) (t : Tally) (left : List Standing) (done : ℕ) : Type 0 where
  pub passed : List Pixel
  pub walk : Walked r left passed
  pub tally : t ≡ tally_of (luminances_of passed)
  pub at : done ≡ 3 * length passed
  pub content : output ≡ onto (indices_of passed) old
  pub long : length output ≡ length old

-- mapped, with their levels there
pub record Mapped (r : List ℕ) (tone : Tone) (old output : List ℕ) (left : List Standing) (done : ℕ) : Type 0 where
  pub passed : List Pixel
  pub walk : Walked r left passed
  pub at : done ≡ 3 * length passed
  pub content : output ≡ onto (levels_under tone passed) old
  pub long : length output ≡ length old

-- their lit pixels counted, up to `most`
pub record Counted (r : List ℕ) (most lit : ℕ) (left : List Standing) : Type 0 where
  pub passed : List Pixel
  pub walk : Walked r left passed
  pub count : lit ≡ min most (lit_count passed)

-- no pixel: no tally
pub none_tallied : {t : Tally} → t ≡ tally_of [] → t ≡ tally_of (luminances_of [])
unfolding luminances_of
none_tallied e = e

-- ---- lit pixels counted from band to band

pub counted_next : (most : ℕ) {lit more : ℕ} (ps qs : List Pixel) → lit ≡ min most (lit_count ps) → more ≡ min (most - lit) (lit_count qs)
    → lit + more ≡ min most (lit_count (ps ++ qs))
counted_next most ps qs e f = omega (arith, lit_append ps qs)

pub counted_all : (r : List ℕ) → AreBands r → {most lit : ℕ} {left : List Standing} → Counted r most lit left → left ≡ []
    → lit ≡ min most (join_tallies (series_of r)).count
counted_all r ok {most} c n =
    c.count ∙ ap (λ ps. min most (lit_count ps)) (walked_all r ok c.walk n)
    ∙ ap (min most) (sym (lit_count_law (joined_pixels (series_of r))) ∙ ap (λ t. t.count) (sym (tallies_of (series_of r))))
