-- Laws of what is printed. Assumes nothing.
use Prim.Native.Nat.{ℕ, zero, suc, ◌*◌, ◌/◌, ◌%◌, ◌≤◌, ◌<◌}
use mathlib.Core.Path.{◌≡◌, refl, sym, ap, ◌∙◌, subst}
use mathlib.Core.Bool.{Bool, true, false}
use mathlib.Core.List.{List, ◌++◌}
use native.Mathlib.Omega.{arith}
use borrow.Author.Tests.{eqb-true, eqb-false, lt-ltb, le-ltb}
use lib.Dec.{eqb}
use lib.ListN.{length, take, drop, length-append}
use lib.Seq.{take_at, take-append_seam}
use Rattle.io.specs.Counts.{IsPrefixLen}
use Rattle.refusal.specs.declared.Refusal.TheVariants.{WrongLength}
use Rattle.refusal.specs.Refusals.{outcome_of}
use Rattle.refusal.specs.Verdicts.{report_of, and_then}
use Rattle.word.specs.Words.{pixels}
use Rattle.strip.specs.Checks.{header_fields}
use Rattle.page.specs.Checks.{check_tally, check_map}
use Rattle.refusal.specs.Output.{onto, after}
use Rattle.page.specs.Mapping.{strip_levels}
use Rattle.page.proofs.Laws.{tally_whole, room_enough, length_levels}
use Rattle.ppm.specs.declared.answer.Answer.{Answer}
use Rattle.ppm.specs.Text.{ascii}
use Rattle.ppm.specs.Words.{little_endian, check_bytes}
use Rattle.ppm.specs.Answers.{Printed, text_alone, front_of, printed_refusal, picture_of, printed_under, printed_of}
use Rattle.ppm.specs.Answers.{check_input, printed_for, bytes_of, counts_of}
use Rattle.ppm.proofs.Endian.{length_words, count_uneven, count_even, uneven, too_many, words_fit}
use Rattle.std.specs.Prelude.{Err}
use Rattle.refusal.specs.Faults.{◌found_at◌}
use Rattle.refusal.specs.Verdicts.{Verdict, accepted}
use Rattle.refusal.specs.declared.Fault.{Fault}

-- what an answer leaves in the two outputs t and u, which held t₀ and u₀
abbrev Laid : Printed → Answer → (t₀ t u₀ u : List ℕ) → Type 0
Laid p r t₀ t u₀ u = (r ≡ counts_of p) × ((t ≡ onto p.text t₀) × (u ≡ onto p.samples u₀))

abbrev counts : (text samples : ℕ) → Answer
counts m n = record { text = m; samples = n }

same_counts : {m m' n n' : ℕ} → m ≡ m' → n ≡ n' → counts m n ≡ counts m' n'
same_counts e f = rw (e, f)

pub laid_alone : (txt t₀ u₀ : List ℕ) {n : ℕ} {t u : List ℕ} → n ≡ length txt → t ≡ onto txt t₀ → u ≡ u₀
    → Laid (text_alone txt) (counts n 0) t₀ t u₀ u
laid_alone txt t₀ u₀ n t u = (same_counts n refl, (t, u))

-- ---- a strip of at most 65,536 bytes, of 5,460 pixels at most

module _ (s t₀ u₀ : List ℕ) (short : length s ≤ 16384) {v : Verdict} (told : v ≡ check_map s 16380) where
  checked : v ≡ check_tally s
  checked = told ∙ room_enough s 16380 (λ long. omega (arith, short, long))

  pub laid_refused : {f : Fault} {r : Answer} {t u : List ℕ} → v ≡ Err f → r ≡ counts_of (printed_refusal (outcome_of f.refusal f.index))
      → t ≡ onto (printed_refusal (outcome_of f.refusal f.index)).text t₀ → u ≡ after v (strip_levels s) u₀ → Laid (printed_of s) r t₀ t u₀ u
  laid_refused {f} {r} {t} {u} e counts text samples =
      let p : printed_refusal (outcome_of f.refusal f.index) ≡ printed_of s = rw (← checked, e) in
      subst (λ q. Laid q r t₀ t u₀ u) p (counts, (text, samples ∙ rw e))

  module _ {w h : ℕ} (width : w ≡ (header_fields s).width) (height : h ≡ (header_fields s).height) where
    pub laid_picture : {m n : ℕ} {t u : List ℕ} → v ≡ accepted → m ≡ length (front_of w h) → t ≡ onto (front_of w h) t₀
        → n ≡ 3 * pixels (header_fields s) → u ≡ after v (strip_levels s) u₀ → Laid (printed_of s) (counts m n) t₀ t u₀ u
    laid_picture {m} {n} {t} {u} e count text long samples =
        let ok = sym checked ∙ e in
        let p : picture_of s ≡ printed_of s = rw (← checked, e) in
        let levels : n ≡ length (strip_levels s) = long ∙ sym (length_levels s (tally_whole s ok)) in
        subst (λ q. Laid q (counts m n) t₀ t u₀ u) p
        (same_counts (rw (← width, ← height) count) levels, (rw (← width, ← height) text, samples ∙ rw e))

-- ---- the input

module _ (bs : List ℕ) where
  pub printed_long : 65536 < length bs → text_alone (ascii "long\n") ≡ printed_for bs
  unfolding printed_for
  printed_long long = rw (lt-ltb _ _ long)

  -- its words are not stored
  pub words_long : (old : List ℕ) → 65536 < length bs → old ≡ after (check_bytes bs 16384) (little_endian bs) old
  words_long old long = go (eqb (length bs % 4) 0) refl
    where
      go : (b : Bool) → eqb (length bs % 4) 0 ≡ b → old ≡ after (check_bytes bs 16384) (little_endian bs) old
      go true e = let even = eqb-true _ _ e in rw (too_many bs 16384 even (omega (arith, long, even)))
      go false e = rw (uneven bs 16384 (eqb-false _ _ e))

  module _ (short : length bs ≤ 65536) {v : Verdict} (told : v ≡ check_bytes bs 16384) where
    printed_short : printed_under (check_input bs) (little_endian bs) ≡ printed_for bs
    unfolding printed_for
    printed_short = rw (le-ltb _ _ short)

    input_uneven : (length bs % 4 ≡ 0 → ⊥) → check_input bs ≡ Err (WrongLength found_at 0)
    unfolding check_input and_then
    input_uneven h = rw (count_uneven bs h)

    input_even : length bs % 4 ≡ 0 → check_input bs ≡ check_tally (little_endian bs)
    unfolding check_input and_then
    input_even h = rw (count_even bs h)

    printed_told : {f : Fault} → v ≡ Err f → printed_refusal (report_of v) ≡ printed_for bs
    printed_told refused = go (eqb (length bs % 4) 0) refl ∙ printed_short
      where
        go : (b : Bool) → eqb (length bs % 4) 0 ≡ b → printed_refusal (report_of v) ≡ printed_under (check_input bs) (little_endian bs)
        go true e =
            let fits = words_fit bs 16384 (eqb-true _ _ e) (omega (arith, short)) in
            let clash : suc zero ≡ zero = cc in
            absurd (omega (arith, clash))
        go false e = let odd = eqb-false _ _ e in rw (told, uneven bs 16384 odd, input_uneven odd)

    pub printed_uneven : {f : Fault} → v ≡ Err f → printed_refusal (outcome_of f.refusal f.index) ≡ printed_for bs
    printed_uneven refused = rw refused at (printed_told refused)

    module _ (ok : v ≡ accepted) where
      pub printed_strip : printed_of (little_endian bs) ≡ printed_for bs
      printed_strip = go (eqb (length bs % 4) 0) refl ∙ printed_short
        where
          go : (b : Bool) → eqb (length bs % 4) 0 ≡ b → printed_of (little_endian bs) ≡ printed_under (check_input bs) (little_endian bs)
          go true e = rw (input_even (eqb-true _ _ e))
          go false e =
              let refused = uneven bs 16384 (eqb-false _ _ e) in
              let clash : suc zero ≡ zero = cc in
              absurd (omega (arith, clash))

      pub strip_stored : (ws old : List ℕ) → ws ≡ after v (little_endian bs) old → take (length bs / 4) ws ≡ little_endian bs
      strip_stored ws old stored = rw (stored, ok) (take_at (little_endian bs) _ _ (length_words bs))

-- ---- what the caller has of an answer

module _ (txt old : List ℕ) {n : ℕ} {t : List ℕ} (count : n ≡ length txt) (stored : t ≡ onto txt old) where
  front : take n t ≡ txt
  front = rw (stored, count) (take-append_seam txt (drop (length txt) old))

  -- as lending the front asks
  counted : IsPrefixLen n t
  counted = (rw stored (omega (arith, count, length-append txt (drop (length txt) old))), rw front count)

abbrev Answered : Printed → Answer → (t₀ t u₀ u : List ℕ) → Type 0
Answered p r t₀ t u₀ u =
    (r ≡ counts_of p)
    × ((t ≡ onto p.text t₀)
    × ((u ≡ onto p.samples u₀)
    × ((take r.text t ++ take r.samples u ≡ bytes_of p)
    × (IsPrefixLen r.text t × IsPrefixLen r.samples u))))

pub answered : (p : Printed) (t₀ u₀ : List ℕ) {r : Answer} {t u : List ℕ} → Laid p r t₀ t u₀ u → Answered p r t₀ t u₀ u
answered p t₀ u₀ {r} {t} {u} (e, (text, samples)) =
    let m = ap (λ a. a.text) e in
    let n = ap (λ a. a.samples) e in
    let bytes : take r.text t ++ take r.samples u ≡ bytes_of p = rw (front p.text t₀ m text, front p.samples u₀ n samples) in
    (e, (text, (samples, (bytes, (counted p.text t₀ m text, counted p.samples u₀ n samples)))))

-- the same of what equals it
pub answered_as : {p q : Printed} (t₀ u₀ : List ℕ) {r : Answer} {t u : List ℕ} → p ≡ q → Laid p r t₀ t u₀ u → Answered q r t₀ t u₀ u
answered_as {p} t₀ u₀ {r} {t} {u} e laid = subst (λ x. Answered x r t₀ t u₀ u) e (answered p t₀ u₀ laid)
