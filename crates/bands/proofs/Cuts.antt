-- A strip cut into bands is an accepted row, whose tall strip it is. Assumes nothing.
use Prim.Native.Nat.{ℕ, ◌+◌, ◌*◌, ◌≤◌}
use mathlib.Core.Path.{◌≡◌, refl, sym, ap, ap₂, subst, ◌∙◌}
use mathlib.Core.Bool.{true}
use mathlib.Core.List.{List, [], ◌∷◌, ◌++◌, flat_map}
use native.Mathlib.Omega.{arith}
use borrow.Author.Tests.{le-leb, eq-eqb}
use lib.ListN.{length, take, drop, length-drop, take-append-drop}
use lib.Seq.{length-take-le}
use Rattle.number.specs.declared.channel.Channel.{Channel}
use Rattle.number.specs.Channels.{IsChannel}
use Rattle.number.proofs.Laws.{Every, every_take, every_drop}
use Rattle.refusal.proofs.Laws.{require_met, and_met}
use Rattle.white.specs.Whites.{white_fits}
use Rattle.white.proofs.Limits.{white_agrees}
use Rattle.word.specs.declared.header.Header.{Header}
use Rattle.word.specs.Words.{pixels, size_fits, key_fits, strip_of, strip_length}
use Rattle.word.proofs.Limits.{size_limits, fewer_rows}
use Rattle.strip.specs.Checks.{header_fields, declared_length, check_strip}
use Rattle.strip.specs.Reading.{strip_channels}
use Rattle.strip.proofs.Limits.{Whole, whole_strip}
use Rattle.strip.proofs.RoundTrip.{IsPage, header_written, length_written, written_accepted, channels_written, same_words, page_read}
use Rattle.page.specs.Mapping.{strip_levels}
use Rattle.page.specs.Tallying.{tally_strip}
use Rattle.series.specs.Series.{Standing, strips_from, series_of}
use Rattle.series.proofs.Laws.{front_same, series_append, standing_met}
use Rattle.bands.specs.Checks.{with_rows, joins, check_band, check_each, check_bands, joined_height, band_heights, sum_heights}
use Rattle.bands.specs.Cutting.{joined_channels, tall_strip, cut_channels, cut_into}
use Rattle.bands.specs.Claims.{AreItsBands, CutsAreBands}
use Rattle.bands.proofs.Tall.{bands_are_tall}
use Rattle.refusal.specs.Verdicts.{accepted}

-- ---- one band after another

-- channels that are left for bands of these heights, below others that have so many rows
record Left (h : Header) (rows : ℕ) (ns : List ℕ) (cs : List Channel) : Type 0 where
  each : Every (λ n. 1 ≤ n) ns
  within : rows + sum_heights ns ≤ h.height
  count : length cs ≡ 3 * pixels (with_rows h (sum_heights ns))
  valid : Every IsChannel cs

-- the bands that they are cut into, whatever the height of the first of all
record AreCut (h : Header) (top rows : ℕ) (ns : List ℕ) (cs : List Channel) (bs : List Standing) : Type 0 where
  accepted : check_each (with_rows h top) rows bs ≡ accepted
  heights : band_heights bs ≡ ns
  channels : joined_channels bs ≡ cs

module _ (h : Header) (size : size_fits h.width h.height ≡ true) (key : key_fits h.key ≡ true)
    (white : white_fits h.white ≡ true) where
  -- the channels of so many rows
  abbrev channels_in : (rows : ℕ) → ℕ
  channels_in n = 3 * pixels (with_rows h n)

  module _ (rows n : ℕ) (ns : List ℕ) (cs : List Channel) (left : Left h rows (n ∷ ns) cs) where
    abbrev band : List ℕ
    band = strip_of (with_rows h n) (take (channels_in n) cs)

    band_page : IsPage (with_rows h n) (take (channels_in n) cs)
    band_page =
        let count = left.count in
        let within = left.within in
        record {
          size = fewer_rows h.width h.height n size left.each.0 (omega arith);
          key = key;
          white = white;
          count = length-take-le (channels_in n) cs (omega arith);
          valid = every_take IsChannel (channels_in n) cs left.valid;
        }

    band_header_law : header_fields band ≡ with_rows h n
    band_header_law = header_written _ _ band_page

    band_long : length band ≡ declared_length band
    band_long = length_written _ _ band_page ∙ ap strip_length (sym band_header_law)

    band_channels : strip_channels band ≡ take (channels_in n) cs
    band_channels = channels_written _ _ band_page

    band_accepted : (top i : ℕ) → check_band (with_rows h top) rows (record { start = i; strip = band }) ≡ accepted
    unfolding check_band joins check_strip
    band_accepted top i =
        let within = left.within in
        let least = left.each.0 in
        let fits = fewer_rows h.width h.height (rows + n) size (omega arith) (omega arith) in
        let met : joins (with_rows h top) rows (with_rows h n) ≡ true =
        rw (eq-eqb h.width h.width refl, eq-eqb h.key h.key refl, white_agrees h.white, fits) in
        and_met (standing_met _ (written_accepted _ _ band_page accepted refl))
        (require_met _ _ (ap (λ g. joins (with_rows h top) rows g) band_header_law ∙ met) refl)

    rest_left : Left h (rows + n) ns (drop (channels_in n) cs)
    rest_left =
        let count = left.count in
        let within = left.within in
        let long = length-drop (channels_in n) cs in
        record {
          each = left.each.1;
          within = omega arith;
          count = omega arith;
          valid = every_drop IsChannel (channels_in n) cs left.valid;
        }

  none_left : (i : ℕ) (cs : List Channel) → strips_from i 0 (cut_channels h [] cs) ≡ []
  unfolding cut_channels strips_from
  none_left i cs = refl

  no_channels : (cs : List Channel) → length cs ≡ channels_in 0 → [] ≡ cs
  no_channels [] e = refl
  no_channels (c ∷ cs) e = absurd (omega arith)

  cut : (top i rows : ℕ) (ns : List ℕ) (cs : List Channel) → Left h rows ns cs
      → AreCut h top rows ns cs (strips_from i 0 (cut_channels h ns cs))
  unfolding cut_channels check_each joined_height flat_map
  cut top i rows [] cs left =
      subst (AreCut h top rows [] cs) (sym (none_left i cs))
      (record { accepted = refl; heights = refl; channels = no_channels cs left.count })
  cut top i rows (n ∷ ns) cs left =
      let b = band rows n ns cs left in
      let rest = cut_channels h ns (drop (channels_in n) cs) in
      let q = cut top (i + length b) (rows + n) ns (drop (channels_in n) cs) (rest_left rows n ns cs left) in
      let header = band_header_law rows n ns cs left in
      subst (AreCut h top rows (n ∷ ns) cs) (sym (series_append b rest (band_long rows n ns cs left) i))
      (record {
        accepted =
            and_met (band_accepted rows n ns cs left top i)
            (ap (λ (g : Header). check_each (with_rows h top) (rows + g.height) (strips_from (i + length b) 0 rest)) header ∙ q.accepted);
        heights = ap₂ (λ (g : Header) ns. g.height ∷ ns) header q.heights;
        channels =
            ap₂ (λ cs ds. cs ++ ds) (band_channels rows n ns cs left) q.channels ∙ take-append-drop (channels_in n) cs;
      })

-- ---- a strip

module _ (s : List ℕ) (ok : Whole s) where
  strip_left : (ns : List ℕ) → Every (λ n. 1 ≤ n) ns → sum_heights ns ≡ (header_fields s).height → Left (header_fields s) 0 ns (strip_channels s)
  strip_left ns each sum =
      let q = page_read s ok in
      record {
        each = each;
        within = omega arith;
        count = q.count ∙ ap (λ m. 3 * pixels (with_rows (header_fields s) m)) (sym sum);
        valid = q.valid;
      }

  its_bands : (ns : List ℕ) → Every (λ n. 1 ≤ n) ns → sum_heights ns ≡ (header_fields s).height → AreItsBands s ns (cut_into ns s)
  unfolding cut_channels check_bands joined_height
  its_bands [] each sum = let high = (size_limits _ _ ok.head.size_fits).high in absurd (omega arith)
  its_bands (n ∷ ns) each sum =
      let q = page_read s ok in
      let r = cut_into (n ∷ ns) s in
      let left = strip_left (n ∷ ns) each sum in
      let parts = cut (header_fields s) q.size q.key q.white n 0 0 (n ∷ ns) (strip_channels s) left in
      let first : header_fields r ≡ with_rows (header_fields s) n =
      front_same (band (header_fields s) q.size q.key q.white 0 n ns (strip_channels s) left)
      (cut_channels (header_fields s) ns (drop (3 * pixels (with_rows (header_fields s) n)) (strip_channels s)))
      (band_long (header_fields s) q.size q.key q.white 0 n ns (strip_channels s) left)
      ∙ band_header_law (header_fields s) q.size q.key q.white 0 n ns (strip_channels s) left in
      let accepted = require_met _ _ (le-leb 1 (length r) (omega arith)) (ap (λ g. check_each g 0 (series_of r)) first ∙ parts.accepted) in
      let tall = bands_are_tall r accepted in
      let whole : tall_strip r ≡ s =
      ap (λ g. strip_of (with_rows g (joined_height (series_of r))) (joined_channels (series_of r))) first
      ∙ ap₂ (λ m cs. strip_of (with_rows (header_fields s) m) cs) (ap sum_heights parts.heights ∙ sum) parts.channels ∙ same_words s ok in
      record {
        accepted = accepted;
        rows = parts.heights;
        whole = whole;
        tally = tall.tally ∙ ap tally_strip whole;
        levels = tall.levels ∙ ap strip_levels whole;
      }

pub cuts_are_bands : CutsAreBands
cuts_are_bands s ns e each sum = its_bands s (whole_strip s e) ns each sum
