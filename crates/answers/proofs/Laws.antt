-- For the crates above: an answer in numbers keeps what the call beneath promises. Assumes nothing.
use Prim.Native.Nat.{ℕ, ◌<◌}
use mathlib.Core.Path.{◌≡◌, refl, sym, ap, subst, ◌∙◌}
use mathlib.Core.List.{List}
use native.Mathlib.Omega.{arith}
use Rattle.number.specs.declared.channel.Pixel.{Pixel}
use Rattle.refusal.proofs.Laws.{numbered}
use Rattle.refusal.specs.declared.Outcome.{Outcome}
use Rattle.refusal.specs.Verdicts.{report_of}
use Rattle.refusal.specs.Output.{after}
use Rattle.average.specs.Tallies.{darkest_of, brightest_of}
use Rattle.average.specs.Claims.{AreExtremes}
use Rattle.strip.specs.Reading.{strip_pixels}
use Rattle.body.specs.Luminances.{luminances_of, lit_count}
use Rattle.page.specs.Claims.{ExtremesOn, TallyPromise, MapPromise}
use Rattle.answers.specs.declared.tallies.TallyAnswer.{TallyAnswer}
use Rattle.answers.specs.Answers.{tally_answer, Reports}
use Rattle.answers.specs.Claims.{TallyBound, MapBound}
use Rattle.std.specs.Prelude.{Err, None, Ok, Option, Result, Some}
use Rattle.average.specs.declared.tally.Extremes.{Extremes}
use Rattle.page.specs.declared.tally.PageTally.{PageTally}
use Rattle.refusal.specs.Verdicts.{Verdict}
use Rattle.refusal.specs.declared.Fault.{Fault}

-- a call with an output
pub reported : {verdict v : Verdict} {front old new : List ℕ} {told : Outcome} → told ≡ report_of v → v ≡ verdict
    → new ≡ after v front old → Reports verdict front old told new
reported {front} {old} t v c = record { outcome = t ∙ ap report_of v; content = c ∙ ap (λ w. after w front old) v }

-- a tally's promise: the extremes of a page with a lit pixel
told : (ps : List Pixel) (e : Option Extremes) → ExtremesOn ps e → 0 < lit_count ps → AreExtremes (darkest_of e) (brightest_of e) (luminances_of ps)
told ps None h some = let none = h.extremes in absurd (omega (arith, none, h.count, some))
told ps (Some e) h some = h.extremes

bounded : (s : List ℕ) (a : Result PageTally Fault) → TallyPromise s a → TallyBound s (tally_answer a)
bounded s (Ok a) p =
    rw p.present
    (record {
      count = λ _. p.count;
      lit = λ _. p.lit;
      present = λ _. refl;
      mean = λ _. p.mean;
      extremes = λ _. told (strip_pixels s) a.tally.extremes p.extremes p.lit;
      refused = λ e. absurd (omega (arith, e));
    })
bounded s (Err f) p =
    record {
      count = λ e. absurd (numbered f.refusal f.index e);
      lit = λ e. absurd (numbered f.refusal f.index e);
      present = λ e. absurd (numbered f.refusal f.index e);
      mean = λ e. absurd (numbered f.refusal f.index e);
      extremes = λ e. absurd (numbered f.refusal f.index e);
      refused = λ _. (refl, refl, refl, refl, refl, refl, refl);
    }

pub tally_bounded : (s : List ℕ) (a : Result PageTally Fault) (r : TallyAnswer) → r ≡ tally_answer a → TallyPromise s a → TallyBound s r
tally_bounded s a r q p = subst (TallyBound s) (sym q) (bounded s a p)

-- mapping's promise
pub map_bounded : (s : List ℕ) (v : Verdict) (r : Outcome) (bytes : List ℕ) → r ≡ report_of v → MapPromise s v bytes → MapBound s r bytes
map_bounded s (Ok u) r bytes q p = record { levels = λ _. p }
map_bounded s (Err f) r bytes q p = record { levels = λ e. absurd (numbered f.refusal f.index (cc)) }
