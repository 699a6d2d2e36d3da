-- `ppm::answer::answer_to` meets its contract. Assumes nothing.
use Rattle.std.proofs.Common.{◌≡◌, refl, ap, ◌∙◌, length, arith}
use Rattle.refusal.proofs.Outputs.{sets_front}
use Rattle.ppm.specs.Text.{ascii}
use Rattle.ppm.specs.Words.{check_bytes}
use Rattle.ppm.specs.Answers.{printed_for}
use Rattle.ppm.proofs.Printing.{laid_alone, printed_long, words_long, printed_uneven, printed_strip, strip_stored, answered, answered_as}
use Rattle.ppm.proofs.answer.answer_to.Goals as goal

pub returns-then-input-gt65536 : goal.returns-then-input-gt65536
returns-then-input-gt65536 c =
    let bs = c.args.input.now in
    let long = c.if-input-gt65536.true in
    let txt = ascii "long\n" in
    let t = c.args.text.now in
    let u = c.args.samples.now in
    let laid = laid_alone txt t u c.put.ensures.end (c.put.ensures.content ∙ sets_front txt t (omega arith)) refl in
    let all = answered_as t u (printed_long bs long) laid in
    record {
      words = words_long bs c.args.words.now long;
      counts = all.0;
      text = all.1.0;
      samples = all.1.1.0;
      bytes = all.1.1.1.0;
      lent = all.1.1.1.1;
    }

pub returns-in-Err : goal.returns-in-Err
returns-in-Err c =
    let bs = c.args.input.now in
    let room : length c.args.words.now ≡ 16384 = omega arith in
    let told = c.store_words.ensures.verdict ∙ ap (check_bytes bs) room in
    let t = c.args.text.now in
    let u = c.args.samples.now in
    let uneven = printed_uneven bs (omega arith) told c.in-Err.is in
    let all = answered_as t u uneven (c.refusal_line.ensures.counts, (c.refusal_line.ensures.text, refl)) in
    record {
      words = rw (← told) c.store_words.ensures.content;
      counts = all.0;
      text = all.1.0;
      samples = all.1.1.0;
      bytes = all.1.1.1.0;
      lent = all.1.1.1.1;
    }

pub returns : goal.returns
returns c =
    let bs = c.args.input.now in
    let ws = c.args.words.now in
    let room : length ws ≡ 16384 = omega arith in
    let told = c.store_words.ensures.verdict ∙ ap (check_bytes bs) room in
    let printed = printed_strip bs (omega arith) told c.in_default.is in
    let strip = strip_stored bs (omega arith) told c.in_default.is _ ws c.store_words.ensures.content in
    let counts = rw (strip, printed) at c.picture.ensures.counts in
    let text = rw (strip, printed) at c.picture.ensures.text in
    let samples = rw (strip, printed) at c.picture.ensures.samples in
    let all = answered (printed_for bs) c.args.text.now c.args.samples.now (counts, (text, samples)) in
    record {
      words = rw (← told) c.store_words.ensures.content;
      counts = all.0;
      text = all.1.0;
      samples = all.1.1.0;
      bytes = all.1.1.1.0;
      lent = all.1.1.1.1;
    }
